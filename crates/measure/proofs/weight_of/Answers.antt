-- `weight_of` meets its contract: the sum so far is the weight of the doses passed, of 32 bits each.
use mathlib.Core.Path.{◌≡◌, ap, ◌∙◌}
use mathlib.Core.Bool.{false}
use lib.ListN.{get_or}
use native.Mathlib.Omega.{arith}
use Rattle.model.specs.Sets.{on}
use Rattle.model.specs.Orders as model
use Rattle.measure.specs.Arrays.{set_of, grams_of}
use Rattle.steps.proofs.Loops.{weight_none, weight_step}
use Rattle.measure.proofs.weight_of.Goals as goal

pub loop-k-init : goal.loop-k-init
loop-k-init c = (weight_none _ _, omega arith)

pub loop-k-preserved : goal.loop-k-preserved
loop-k-preserved c =
    let A = c.args in
    let L = c.loop-k in
    let grams : c.from.result ≡ grams_of A.o.now L.k = c.from.ensures ∙ ap (λ (d : model.Dose). d.grams) c.dose.ensures in
    weight_step 4294967295 L.k L.sum _ (grams_of A.o.now) (set_of A.set.now) L.invariant.0 L.invariant.1 (c.on-sum.ensures.0 ∙ ap (on (get_or A.set.now L.k false)) grams) (omega (arith, grams))
