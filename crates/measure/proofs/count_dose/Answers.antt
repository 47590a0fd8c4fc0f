-- `count_dose` meets its contract: every interval passed has its count, and 1 more where the dose is active; those ahead have theirs still.
use mathlib.Core.Bool.{Bool}
use mathlib.Core.Path.{◌≡◌, refl, ◌∙◌, ap}
use Prim.Native.Nat.{ℕ, ◌+◌}
use native.Mathlib.Omega.{arith}
use lib.ListN.{get_or, length-set}
use Rattle.std.proofs.lemmas.Bool.Decides.{nat_tests}
use Rattle.model.specs.Sets.{on}
use Rattle.model.specs.Orders as model
use Rattle.interval.specs.Held.{active_in}
use Rattle.steps.proofs.Loops.{stored, unreached}
use Rattle.measure.proofs.count_dose.Invariants.{counted}
use Rattle.measure.proofs.count_dose.Goals as goal
use Rattle.measure.proofs.count_dose.Goals.{then-dose-s, else-dose-s}

pub loop-j-init : goal.loop-j-init
loop-j-init c = record { size = c.told-counts; passed = λ m h. absurd (omega arith); ahead = λ m h. refl }

-- the count read is still that before the loop, below 24
pub overflow_add-counts : goal.overflow_add-counts
overflow_add-counts c =
    let L = c.loop-j in
    omega (arith, c.on.ensures.1, L.invariant.ahead L.j (omega arith), c.requires.2 L.j (omega arith))

pub loop-j-preserved : goal.loop-j-preserved
loop-j-preserved c =
    let A = c.args in
    let L = c.loop-j in
    let so = L.invariant in
    let release = ap (λ (d : model.Dose). d.release) c.dose-dose.ensures in
    let deadline = ap (λ (d : model.Dose). d.deadline) c.dose-dose.ensures in
    let active : c.if-dose-s.open ≡ active_in A.o.now A.s.now A.k L.j = elim c.if-dose-s.branch [
      | then-dose-s w ↦ grind (arith, nat_tests)
      | else-dose-s w ↦ grind (arith, nat_tests)
    ] in
    let more = c.on.ensures.0 ∙ ap (λ (t : Bool). on t 1) active in
    let here = ap (λ (n : ℕ). get_or L.counts L.j 0 + n) more ∙ ap (λ (n : ℕ). n + on (active_in A.o.now A.s.now A.k L.j) 1) (so.ahead L.j (omega arith)) in
    record {
      size = simp length-set so.size;
      passed = stored 0 (counted A.counts.now A.o.now A.s.now A.k) L.counts L.j _ (omega (arith, so.size)) so.passed here;
      ahead = unreached 0 (λ m. get_or A.counts.now m 0) L.counts L.j _ so.ahead;
    }
