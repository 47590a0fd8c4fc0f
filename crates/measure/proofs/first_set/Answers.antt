-- `first_set` meets its contract: the sum so far is the number of the set so far, and is below the next bit.
use mathlib.Core.Path.{refl}
use native.Mathlib.Omega.{arith}
use Rattle.measure.specs.Arrays.{sets_of}
use Rattle.steps.proofs.Bits.{bits_next}
use Rattle.steps.proofs.Loops.{weight_none}
use Rattle.measure.proofs.first_set.Goals as goal

pub loop-k-init : goal.loop-k-init
loop-k-init c = record { number = weight_none _ _; next = refl; below = omega arith }

pub loop-k-preserved : goal.loop-k-preserved
loop-k-preserved c =
    let L = c.loop-k in
    let so = L.invariant in
    let w = bits_next L.k L.sum L.bit _ (sets_of c.args.numbers.now 0) so.number so.next so.below c.on-sum.ensures.0 in
    record { number = w.0; next = w.1; below = w.2 }
