use Prim.Native.Nat.{ℕ, ◌+◌, ◌*◌, ◌/◌, ◌%◌, ◌<◌}
use mathlib.Core.Bool.{false}
use mathlib.Core.Path.{◌≡◌}
use lib.ListN.{get_or}
use Rattle.model.specs.Limits.{most_intervals}
use Rattle.model.specs.Sets.{on}
use Rattle.class_rounds.proofs.lay_rooms.Given as goal

-- every place of the rows passed has its room
abbrev pub invariant-loop-k : goal.invariant-loop-k
invariant-loop-k l = (i : ℕ) → i < l.k * most_intervals → get_or l.rooms i 0
    ≡ on (get_or l.set (i / most_intervals) false) (on (get_or l.setting.active i false) (get_or l.setting.lens (i % most_intervals) 0 * l.w))

-- and of this row so far
abbrev pub invariant-loop-j : goal.invariant-loop-j
invariant-loop-j l = (i : ℕ) → i < l.k * most_intervals + l.j → get_or l.rooms i 0
    ≡ on (get_or l.set (i / most_intervals) false) (on (get_or l.setting.active i false) (get_or l.setting.lens (i % most_intervals) 0 * l.w))
