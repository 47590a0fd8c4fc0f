-- `dose_entry` meets its contract: a fault of the zeros, the ranges or the bay is the refusal; without one the D's fields stand (Takes).
use mathlib.Core.Path.{ap, ◌∙◌}
use Rattle.model.specs.Orders.{Dose, dose_fits, bay_open}
use Rattle.records.specs.Held.{held_dose}
use Rattle.std.specs.Prelude.{Ok}
use Rattle.order.specs.declared.Entry.TheVariants as is
use Rattle.order.specs.Held.{held_entry}
use Rattle.order.proofs.Cases.{passed}
use Rattle.order.proofs.Takes.{fault_of_lem, faulty, faultless}
use Rattle.order.proofs.record.dose_entry.Goals as goal

pub returns-in_err-fault : goal.returns-in_err-fault
returns-in_err-fault c =
    let found = fault_of_lem dose_fits (bay_open _) c.args.k c.in_err-fault.ensures c.dose_blank.ensures c.dose_fits.ensures c.bay_open.ensures c.dose_in-d.ensures in
    passed _ c.from_residual.ensures.1 ∙ faulty _ _ _ _ _ found

pub returns : goal.returns
unfolding held_entry
returns c =
    let found = fault_of_lem dose_fits (bay_open _) c.args.k c.in_ok-fault.ensures c.dose_blank.ensures c.dose_fits.ensures c.bay_open.ensures c.dose_in-d.ensures in
    ap (λ (x : Dose). Ok (is.Dose (held_dose x))) c.dose_in-d.ensures ∙ faultless _ _ _ _ _ found
