use Prim.Native.Nat.{◌≤◌, ◌*◌}
use mathlib.Core.Path.{◌≡◌}
use Rattle.model.specs.Sets.{sum}
use Rattle.classes.specs.Phase.{row_at}
use Rattle.classes.proofs.table.reserved_before.Given as goal

abbrev pub invariant-loop-i : goal.invariant-loop-i
invariant-loop-i l = (l.sum ≡ sum l.i (λ i. row_at l.table i l.j)) × (l.sum ≤ l.i * 255)
