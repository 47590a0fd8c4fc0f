-- `fan_time` meets its contract: the sum so far is the fan time of the intervals passed.
use mathlib.Core.Path.{◌≡◌, ap, ◌∙◌}
use Prim.Native.Nat.{ℕ, ◌*◌}
use native.Mathlib.Omega.{arith}
use lib.ListN.{get_or}
use Rattle.interval.specs.Held.{span_in}
use Rattle.steps.proofs.Loops.{sum_none, sum_step}
use Rattle.steps.proofs.Products.{fan_seconds}
use Rattle.measure.proofs.fan_time.Goals as goal

pub loop-j-init : goal.loop-j-init
loop-j-init c = (sum_none _, omega arith)

pub loop-j-preserved : goal.loop-j-preserved
loop-j-preserved c =
    let A = c.args in
    let L = c.loop-j in
    let most = fan_seconds c.from.result (get_or A.reserved.now L.j 0) (omega (arith, c.from.ensures, c.span.type_inv)) (c.requires.1 L.j) in
    let len : c.from.result ≡ span_in A.s.now L.j = c.from.ensures ∙ c.span.ensures in
    sum_step 103079215080 L.j L.sum _ (λ i. span_in A.s.now i * get_or A.reserved.now i 0) L.invariant.0 L.invariant.1 (ap (λ (x : ℕ). x * get_or A.reserved.now L.j 0) len) most
