-- `slots_fit` meets its contract: every slot of the range is told of by `slot_fits` (Ranges).
use mathlib.Core.Bool.{Bool}
use mathlib.Core.List.{List}
use mathlib.Core.Path.{◌≡◌}
use Prim.Native.Nat.{ℕ}
use Rattle.std.proofs.Common.{rules}
use Rattle.model.specs.Plans.{Slot}
use Rattle.records.specs.Plan.{slot_in}
use Rattle.judge_clauses.specs.Tests.{OrderHeld, SlotFits, Tells, order_held}
use Rattle.judge_clauses.proofs.Ranges.{tells_all}
use Rattle.judge_slots.proofs.slots_fit.Goals as goal

-- the slot that was read is the plan's
told : (h : OrderHeld) (plan numbers : List ℕ) (b : Bool) (s u : Slot) → s ≡ u → Tells b (SlotFits h plan numbers s) → Tells b (SlotFits h plan numbers u)
told h plan numbers b s u e t = rw e at t

pub returns : goal.returns
returns c =
    let A = c.args in
    tells_all A.certificate.now.classes _ _ _ _ (λ i. SlotFits (order_held A.o.now A.instants.now) A.plan.now A.certificate.now.numbers (slot_in A.plan.now i))
    c.all.ensures.ran (cc) (λ x b q k. search (rules, told))
