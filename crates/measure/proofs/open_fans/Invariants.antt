use mathlib.Core.List.{List}
use mathlib.Core.Path.{◌≡◌}
use Prim.Native.Nat.{ℕ, ◌<◌, ◌≤◌, min}
use lib.ListN.{length, get_or}
use Rattle.model.specs.Limits.{most_intervals}
use Rattle.measure.proofs.open_fans.Given as goal

-- up to interval j the smaller is taken
pub record SmallerTo (counts free : List ℕ) (j : ℕ) (reserved : List ℕ) : Type 0 where
  pub size : length reserved ≡ most_intervals
  pub passed : (m : ℕ) → m < j → get_or reserved m 0 ≡ min (get_or counts m 0) (get_or free m 0)
  pub ahead : (m : ℕ) → j ≤ m → get_or reserved m 0 ≡ 0

abbrev pub invariant-loop-j : goal.invariant-loop-j
invariant-loop-j l = SmallerTo l.counts l.free l.j l.reserved
