use Prim.Native.Nat.{◌≤◌, ◌*◌}
use mathlib.Core.Path.{◌≡◌}
use Rattle.model.specs.Sets.{weight}
use Rattle.measure.specs.Arrays.{set_of, grams_of}
use Rattle.measure.proofs.weight_of.Given as goal

abbrev pub invariant-loop-k : goal.invariant-loop-k
invariant-loop-k l = (l.sum ≡ weight l.k (grams_of l.o) (set_of l.set)) × (l.sum ≤ l.k * 4294967295)
