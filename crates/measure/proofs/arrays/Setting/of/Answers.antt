-- `Setting::of` meets its contract: the arrays are the order's.
use mathlib.Core.Path.{refl}
use Rattle.order.proofs.Fields.{few_doses}
use Rattle.measure.proofs.OfOrder as of-order
use Rattle.measure.proofs.arrays.Setting.of.Goals as goal

pub grams_in-requires : goal.grams_in-requires
grams_in-requires c = few_doses c.args.o.now c.requires.0

pub invariant_of-result : goal.invariant_of-result
invariant_of-result c =
    let A = c.args in
    let active = rw c.interval_count.ensures at c.active_in_order.ensures in
    record { arrays = of-order.arrays A.o.now c.requires.0 A.s.now c.requires.1 c.active_in_order.result c.lens_in.result c.grams_in.result active c.lens_in.ensures c.grams_in.ensures }

pub returns : goal.returns
returns c = let active = rw c.interval_count.ensures at c.active_in_order.ensures in (refl, refl, active, c.lens_in.ensures, c.grams_in.ensures)
