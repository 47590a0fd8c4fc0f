-- `total` meets its contract: the sum so far is that of the cells passed.
use Rattle.std.proofs.Common.{arith}
use Rattle.class_chains.proofs.Laws.{added_none, added_next, added_most, added_all}
use Rattle.class_chains.proofs.total.Goals as goal

pub loop-i-init : goal.loop-i-init
loop-i-init g c = added_none

pub overflow_add-sum-in-loop-i : goal.overflow_add-sum-in-loop-i
overflow_add-sum-in-loop-i g c = omega (arith, added_most c.loop-i.invariant c.loop-i-test.true, c.requires.fits)

pub loop-i-preserved : goal.loop-i-preserved
loop-i-preserved g c = added_next c.loop-i.invariant c.loop-i-test.true

pub returns : goal.returns
returns g c = added_all c.loop-i.invariant c.loop-i-test.false
