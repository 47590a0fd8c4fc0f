use Rattle.plan_layout.proofs.Arrays.{Rising}
use Rattle.plan_layout.proofs.Plan.lay_interval.Given as goal

abbrev pub invariant-loop-i : goal.invariant-loop-i
invariant-loop-i l = Rising l.x l.j l.initial.self l.self l.below l.i
