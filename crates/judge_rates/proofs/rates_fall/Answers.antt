-- `rates_fall` meets its contract: every class is faster than the next (Ranges).
use mathlib.Core.Bool.{Bool}
use mathlib.Core.Path.{◌≡◌}
use Prim.Native.Nat.{◌-◌}
use native.Mathlib.Omega.{arith}
use Rattle.std.proofs.Common.{rules}
use Rattle.model.specs.Plans.{Class}
use Rattle.records.specs.Plan.{class_in}
use Rattle.judge_clauses.specs.Tests.{Falls, Tells}
use Rattle.judge_clauses.proofs.Ranges.{tells_all, tells_next}
use Rattle.judge_clauses.proofs.Tell.{tells_by}
use Rattle.judge_rates.proofs.rates_fall.Goals as goal

-- the two classes that were read are the plan's
told : (b : Bool) (c d v w : Class) → c ≡ v → d ≡ w → Tells b (Falls c d) → Tells b (Falls v w)
told b c d v w e f t = rw (e, f) at t

pub returns : goal.returns
returns c =
    let A = c.args in
    tells_by
    (tells_next (λ i j. Falls (class_in A.plan.now i) (class_in A.plan.now j)) 0 A.p
    (tells_all 1 _ _ _ _ (λ i. Falls (class_in A.plan.now (i - 1)) (class_in A.plan.now i)) c.all.ensures.ran (cc)
    (λ x b q k. search (rules, told))))
    (λ all i l. all i l (omega arith)) (λ all i l g. all i l)
