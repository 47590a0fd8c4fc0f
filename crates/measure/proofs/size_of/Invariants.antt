use Prim.Native.Nat.{◌≤◌}
use mathlib.Core.Path.{◌≡◌}
use Rattle.model.specs.Sets.{weight}
use Rattle.measure.specs.Arrays.{set_of}
use Rattle.measure.proofs.size_of.Given as goal

abbrev pub invariant-loop-k : goal.invariant-loop-k
invariant-loop-k l = (l.sum ≡ weight l.k (λ i. 1) (set_of l.set)) × (l.sum ≤ l.k)
