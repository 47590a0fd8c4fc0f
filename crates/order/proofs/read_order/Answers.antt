-- `read_order` meets its contract: 2 by the length, 3 to 5 and 15 by the walk over the records, 6 to 8 by what they come to (Settles).
use mathlib.Core.Path.{refl, sym, ◌∙◌}
use borrow.Author.Tests.{eq-eqb, ne_eqb, le-leb, lt-leb}
use Rattle.model.specs.Orders.{read_order}
use Rattle.order.specs.Held.{held_reading}
use Rattle.order.proofs.Cases.{and_off, and_on, at_off, at_on, passed}
use Rattle.order.proofs.Walks.{few_walked}
use Rattle.order.proofs.Settles.{answers, walk_refused, walk_settled}
use Rattle.order.proofs.read_order.Goals.{then-bytes-ne0-via-then-bytes-ne0, then-bytes-ne0-via-else-bytes-ne0+then-bytes-gt-ORDER_ROOM}
use Rattle.order.proofs.read_order.Goals as goal

pub returns-then-bytes-ne0 : goal.returns-then-bytes-ne0
unfolding read_order held_reading
returns-then-bytes-ne0 c =
    answers _ _
    (at_off held_reading _ _
    (elim c.then-bytes-ne0.branch [
      | then-bytes-ne0-via-then-bytes-ne0 w ↦ and_off _ (sym (ne_eqb _ _ w.if-bytes-ne0.true))
      | then-bytes-ne0-via-else-bytes-ne0+then-bytes-gt-ORDER_ROOM w ↦
          and_on (sym (eq-eqb _ _ w.if-bytes-ne0.false)) (sym (lt-leb _ _ w.if-bytes-gt-ORDER_ROOM.true))
    ])
    refl)

pub returns-in_err-s : goal.returns-in_err-s
unfolding read_order
returns-in_err-s c =
    let fits = and_on (sym (eq-eqb _ _ c.if-bytes-ne0.false)) (sym (le-leb _ _ c.if-bytes-gt-ORDER_ROOM.false)) in
    answers _ _ (at_on held_reading _ _ fits (passed _ c.from_residual.ensures.1 ∙ walk_refused _ c.in_err-s.ensures))

pub settle-requires : goal.settle-requires
settle-requires c = few_walked _ c.in_ok-s.ensures

pub returns : goal.returns
unfolding read_order
returns c =
    let fits = and_on (sym (eq-eqb _ _ c.if-bytes-ne0.false)) (sym (le-leb _ _ c.if-bytes-gt-ORDER_ROOM.false)) in
    answers _ _ (at_on held_reading _ _ fits (c.settle.ensures ∙ walk_settled _ c.in_ok-s.ensures))
