use Prim.Native.Nat.{◌-◌}
use Rattle.season.proofs.Adding.{Adding}
use Rattle.season.proofs.season_in.Given as goal

abbrev pub invariant-loop-i : goal.invariant-loop-i
invariant-loop-i l = Adding l.stream l.n l.i l.season

abbrev pub decreases-loop-i : goal.decreases-loop-i
decreases-loop-i l = l.n - l.i
