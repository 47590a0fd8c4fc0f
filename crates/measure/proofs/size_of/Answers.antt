-- `size_of` meets its contract: the sum so far counts the members passed.
use native.Mathlib.Omega.{arith}
use Rattle.measure.specs.Arrays.{set_of}
use Rattle.steps.proofs.Loops.{weight_none, weight_step}
use Rattle.measure.proofs.size_of.Goals as goal

pub loop-k-init : goal.loop-k-init
loop-k-init c = (weight_none _ _, omega arith)

pub loop-k-preserved : goal.loop-k-preserved
loop-k-preserved c =
    let L = c.loop-k in
    let w = weight_step 1 L.k L.sum _ (λ i. 1) (set_of c.args.set.now) L.invariant.0 (omega (arith, L.invariant.1)) c.on-sum.ensures.0 (omega arith) in
    (w.0, omega (arith, w.1))
