-- No record from the first on is an F.
use mathlib.Core.Path.{◌≡◌}
use Prim.Native.Nat.{◌+◌, ◌-◌, ◌≤◌}
use Rattle.model.specs.Season.{before_next}
use Rattle.season.proofs.next_fans.Given as goal

abbrev pub invariant-loop-i : goal.invariant-loop-i
invariant-loop-i l = (l.i ≤ l.n) × (l.i + before_next l.stream l.i (l.n - l.i) ≡ l.from + before_next l.stream l.from (l.n - l.from))
