-- `fans_entry` meets its contract: a fault of the zeros or the ranges is the refusal, since an F has no bay; without one its fields stand (Takes).
use mathlib.Core.Path.{refl, ap, ◌∙◌}
use mathlib.Core.Bool.{true}
use Rattle.model.specs.Orders.{Fans, fans_fit}
use Rattle.records.specs.Held.{held_fans}
use Rattle.std.specs.Prelude.{Ok}
use Rattle.order.specs.declared.Entry.TheVariants as is
use Rattle.order.specs.Held.{held_entry}
use Rattle.order.proofs.Cases.{passed}
use Rattle.order.proofs.Takes.{fault_of_lem, faulty, faultless}
use Rattle.order.proofs.record.fans_entry.Goals as goal

pub returns-in_err-fault : goal.returns-in_err-fault
returns-in_err-fault c =
    let found = fault_of_lem fans_fit (λ f. true) c.args.k c.in_err-fault.ensures c.fans_blank.ensures c.fans_fit.ensures refl c.fans_in-f.ensures in
    passed _ c.from_residual.ensures.1 ∙ faulty _ _ _ _ _ found

pub returns : goal.returns
unfolding held_entry
returns c =
    let found = fault_of_lem fans_fit (λ f. true) c.args.k c.in_ok-fault.ensures c.fans_blank.ensures c.fans_fit.ensures refl c.fans_in-f.ensures in
    ap (λ (x : Fans). Ok (is.Fans (held_fans x))) c.fans_in-f.ensures ∙ faultless _ _ _ _ _ found
