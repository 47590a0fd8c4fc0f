-- `all_in_turn` meets its contract: every slot comes before the next (Ranges).
use mathlib.Core.Bool.{Bool}
use mathlib.Core.List.{List}
use mathlib.Core.Path.{◌≡◌}
use Prim.Native.Nat.{ℕ, ◌+◌, ◌-◌}
use Rattle.std.proofs.Common.{rules}
use Rattle.model.specs.Plans.{Slot}
use Rattle.records.specs.Plan.{slot_in}
use Rattle.judge_clauses.specs.Tests.{InTurn, Tells}
use Rattle.judge_clauses.proofs.Ranges.{tells_all, tells_next}
use Rattle.judge_pairs.proofs.all_in_turn.Goals as goal

-- the two slots that were read are the plan's
told : (instants : List ℕ) (intervals : ℕ) (b : Bool) (s u v w : Slot) → s ≡ v → u ≡ w → Tells b (InTurn instants intervals s u) → Tells b (InTurn instants intervals v w)
told instants intervals b s u v w e f t = rw (e, f) at t

pub returns : goal.returns
returns c =
    let A = c.args in
    tells_next (λ i j. InTurn A.instants.now.at (A.instants.now.count - 1) (slot_in A.plan.now i) (slot_in A.plan.now j)) A.p _
    (tells_all (A.p + 1) _ _ _ _ (λ i. InTurn A.instants.now.at (A.instants.now.count - 1) (slot_in A.plan.now (i - 1)) (slot_in A.plan.now i))
    c.all.ensures.ran (cc) (λ x b q k. search (rules, told)))
