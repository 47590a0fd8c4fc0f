-- `active_in_order` meets its contract: every place says whether the dose is active.
use mathlib.Core.Bool.{false}
use Rattle.measure.proofs.Made.{three_same, made}
use Rattle.measure.proofs.arrays.active_in_order.Goals as goal

pub returns : goal.returns
returns c = λ i l.
    let z = (made _ (λ f i y f' h. three_same h.met.1.0 h.met.1.1 h.met.1.2) _ _ _ c.from_fn.ensures.items i false l).met in cc
