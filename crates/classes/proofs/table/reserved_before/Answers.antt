-- `reserved_before` meets its contract: the sum so far is that of the rows passed.
use native.Mathlib.Omega.{arith}
use Rattle.classes.specs.Phase.{row_at}
use Rattle.steps.proofs.Loops.{sum_none, sum_step}
use Rattle.classes.proofs.table.reserved_before.Goals as goal

pub loop-i-init : goal.loop-i-init
loop-i-init c = (sum_none _, omega arith)

-- one row more
pub loop-i-preserved : goal.loop-i-preserved
loop-i-preserved c =
    let A = c.args in
    let L = c.loop-i in
    sum_step 255 L.i L.sum _ (λ i. row_at A.table.now i A.j) L.invariant.0 L.invariant.1 c.from-sum.ensures (omega arith)
