use Prim.Native.Nat.{◌-◌}
use Rattle.judge_clauses.specs.Tests.{ApartAfter}
use Rattle.judge_pairs.proofs.clear_after.Given as goal

abbrev pub invariant-loop-l : goal.invariant-loop-l
invariant-loop-l l = ApartAfter l.instants.at (l.instants.count - 1) l.plan l.i l.l
