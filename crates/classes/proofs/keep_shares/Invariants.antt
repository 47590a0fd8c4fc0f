use Prim.Native.Nat.{ℕ, ◌/◌, ◌<◌, ◌≤◌}
use mathlib.Core.Bool.{false}
use mathlib.Core.Path.{◌≡◌}
use lib.ListN.{get_or}
use Rattle.model.specs.Limits.{most_intervals}
use Rattle.classes.specs.Phase.{choose}
use Rattle.classes.proofs.keep_shares.Given as goal

-- every place passed has its share, and those ahead have theirs still
abbrev pub invariant-loop-i : goal.invariant-loop-i
invariant-loop-i l = record {
  passed : (m : ℕ) → m < l.i → get_or l.shares m 0 ≡ choose (get_or l.members (m / most_intervals) false) (get_or l.x m 0) (get_or l.initial.shares m 0);
  ahead : (m : ℕ) → l.i ≤ m → get_or l.shares m 0 ≡ get_or l.initial.shares m 0;
}
