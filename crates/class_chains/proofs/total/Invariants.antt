use Rattle.std.proofs.Common.{◌+◌, ◌*◌, get_or}
use Rattle.class_chains.proofs.Laws.{Added}
use Rattle.class_chains.proofs.total.Given as goal

abbrev pub invariant-loop-i : goal.invariant-loop-i
invariant-loop-i g l = Added g.row.COUNT (λ i. get_or l.shares (i * g.row.STEP + l.from) 0) l.i l.sum
