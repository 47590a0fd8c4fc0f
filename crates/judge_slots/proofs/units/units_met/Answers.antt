-- `units_met` meets its contract: the sums so far are those of the slots passed, none above its need (Totals).
use mathlib.Core.Bool.{Bool}
use mathlib.Core.Path.{◌≡◌, ◌∙◌, ap, sym}
use Prim.Native.Nat.{ℕ, ◌*◌, ◌<◌, ◌≤◌}
use mathlib.Core.List.{List}
use lib.Dec.{eqb}
use lib.ListN.{get_or}
use Rattle.std.proofs.Common.{rules}
use Rattle.model.specs.Orders as orders
use Rattle.model.specs.Plans.{Slot}
use Rattle.order.specs.declared.Order.{Order}
use Rattle.order.specs.Held.{dose_held}
use Rattle.records.specs.Plan.{slot_in}
use Rattle.judge_clauses.specs.Tests.{Counts, Tells, need_in}
use Rattle.judge_clauses.proofs.Ranges.{tells_all}
use Rattle.judge_clauses.proofs.Tell.{tells_by, tells_eqb, tells_off}
use Rattle.judge_slots.proofs.Totals.{SlotRead, Summed, over_need, summed_more, summed_none, tells_summed}
use native.Mathlib.Omega.{arith}
use Rattle.judge_slots.proofs.units.units_met.Goals as goal

abbrev grams_of : Order → ℕ → ℕ
grams_of o k = (dose_held o k).grams

-- the slot that was read can be counted, and its dose's need is known
read : (o : Order) {plan numbers : List ℕ} {p i m need : ℕ} {sums : List ℕ} {s : Slot} {d : orders.Dose} → Summed (grams_of o) plan numbers o.count p i sums
    → s ≡ slot_in plan i → ((j : ℕ) → j < m → p ≤ j → Counts o.count plan numbers (slot_in plan j)) → i < m
    → d ≡ dose_held o s.dose → need ≡ d.grams * s.time → SlotRead (grams_of o) plan numbers o.count p i sums s need
read o {i = i} {s = s} h e all l held n =
    record { so_far = h; slot = e; counts = rw e (all i l h.from); needs = n ∙ ap (λ (x : orders.Dose). x.grams * s.time) held }

pub loop-i-init : goal.loop-i-init
loop-i-init c = summed_none _ _ _ _ _ c.requires.0

pub returns-then-need-had : goal.returns-then-need-had
returns-then-need-had c =
    let slot = read c.args.o.now c.loop-i.invariant c.slot_at-s.ensures c.requires.3 (omega arith) c.dose.ensures c.product-need.ensures in
    let starts = c.starts.ensures in
    let ends = c.ends.ensures in
    tells_off (over_need slot (omega (arith, c.if-need-had.true)) _ (omega arith))

pub loop-i-preserved : goal.loop-i-preserved
loop-i-preserved c =
    let slot = read c.args.o.now c.loop-i.invariant c.slot_at-s.ensures c.requires.3 (omega arith) c.dose.ensures c.product-need.ensures in
    let starts = c.starts.ensures in
    let ends = c.ends.ensures in
    rw (starts, ends) (summed_more slot c.requires.0 (omega (arith, c.if-need-had.false)))

-- a sum that was held against a dose's need
told : (b : Bool) (x y z : ℕ) → b ≡ eqb x y → y ≡ z → Tells b (x ≡ z)
told b x y z e n = rw e (tells_eqb x y (λ q. q ∙ n) (λ q. q ∙ sym n))

pub returns : goal.returns
returns c =
    let A = c.args in
    tells_summed c.loop-i.invariant (omega arith)
    (tells_by (tells_all 0 A.o.now.count _ _ _ (λ k. get_or c.loop-i.sums k 0 ≡ need_in (grams_of A.o.now) A.plan.now A.certificate.now.numbers k) c.all.ensures.ran (cc)
    (λ x b q k. search (rules, told)))
    (λ all k l. all k l (omega arith)) (λ all k l g. all k l))
