use mathlib.Core.Path.{◌≡◌}
use Prim.Native.Nat.{◌-◌}
use Rattle.judge_clauses.specs.Tests.{interval_of, scan}
use Rattle.judge_slots.proofs.interval_of.Given as goal

abbrev pub invariant-loop-j : goal.invariant-loop-j
invariant-loop-j l = scan l.instants.at l.tick l.j (l.intervals - l.j) ≡ interval_of l.instants.at l.intervals l.tick
