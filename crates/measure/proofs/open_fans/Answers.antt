-- `open_fans` meets its contract: every interval passed has the smaller of the two numbers, and those ahead have none.
use mathlib.Core.Path.{refl, ap, ◌∙◌}
use Prim.Native.Nat.{ℕ, min}
use native.Mathlib.Omega.{arith}
use lib.ListN.{get_or}
use Rattle.model.specs.Limits.{most_intervals}
use Rattle.measure.specs.Arrays.{intervals_of}
use Rattle.steps.proofs.Arrays.{all_same}
use Rattle.steps.proofs.Tests.{below_or}
use Rattle.measure.proofs.open_fans.Goals as goal

pub loop-j-init : goal.loop-j-init
loop-j-init c = record { size = refl; passed = λ m h. absurd (omega arith); ahead = λ m h. all_same {A = ℕ} most_intervals m 0 }

-- the counts are those of the active doses, 24 at most
pub returns : goal.returns
returns c =
    let A = c.args in
    let counted = c.active_row-counts.ensures in
    let so = c.loop-j.invariant in
    record {
      smaller = λ j l. so.passed j (omega arith) ∙ ap (λ (n : ℕ). min n (get_or A.free.now j 0)) (counted j l).0;
      none = λ j g. so.ahead j (omega arith);
      small = λ j. below_or j (intervals_of A.s.now) (λ l. omega (arith, so.passed j (omega arith), (counted j l).1)) (λ g. omega (arith, so.ahead j (omega arith)));
    }
