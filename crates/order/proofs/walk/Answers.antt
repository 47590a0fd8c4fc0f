-- `walk` meets its contract: what is gathered so far and the records left come to what all come to; a refusal ends the walk (Walks).
use mathlib.Core.Path.{◌∙◌, ap}
use native.Mathlib.Omega.{arith}
use Rattle.model.specs.Orders.{entry_of}
use Rattle.order.specs.Held.{held_entry}
use Rattle.order.proofs.Cases.{passed}
use Rattle.order.proofs.Walks.{walking_none, walking_stops, walking_goes, walking_ends}
use Rattle.order.proofs.walk.Goals as goal

pub loop-k-init : goal.loop-k-init
loop-k-init c = walking_none c.none-s.ensures

pub returns-in_err-e : goal.returns-in_err-e
returns-in_err-e c =
    let own = c.in_err-e.ensures ∙ ap (λ r. held_entry (entry_of c.args.last r c.loop-k.k)) c.record.ensures.0 in
    passed _ c.from_residual.ensures.1 ∙ walking_stops c.loop-k.invariant (omega arith) own

pub loop-k-preserved : goal.loop-k-preserved
loop-k-preserved c =
    let own = c.in_ok-e.ensures ∙ ap (λ r. held_entry (entry_of c.args.last r c.loop-k.k)) c.record.ensures.0 in
    walking_goes c.loop-k.invariant (omega arith) own c.add.ensures

pub returns : goal.returns
returns c = walking_ends c.loop-k.invariant (omega arith)
