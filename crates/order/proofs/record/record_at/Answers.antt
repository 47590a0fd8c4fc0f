-- `record_at` meets its contract: the kind decides: an F's and a D's are read, and any other kind is 3.
use mathlib.Core.Path.{refl, sym}
use Rattle.model.specs.Orders.{entry_of}
use Rattle.records.specs.declared.kind.Kind.TheVariants.{Fans, Dose}
use Rattle.records.proofs.Told.{fans_told, dose_told, of_kind, of_other}
use Rattle.order.specs.Held.{held_entry}
use Rattle.order.proofs.Cases.{at_off, at_on}
use Rattle.order.proofs.record.record_at.Goals as goal

pub returns-in-Fans : goal.returns-in-Fans
unfolding entry_of
returns-in-Fans c = at_on held_entry _ _ (sym (of_kind Fans c.kind_of.ensures c.in-Fans.is)) c.fans_entry.ensures

pub returns-in-Dose : goal.returns-in-Dose
unfolding entry_of
returns-in-Dose c =
    at_off held_entry _ _ (sym (of_other Fans fans_told c.kind_of.ensures (λ e. cc)))
    (at_on held_entry _ _ (sym (of_kind Dose c.kind_of.ensures c.in-Dose.is)) c.dose_entry.ensures)

pub returns-in_default : goal.returns-in_default
unfolding entry_of held_entry
returns-in_default c =
    at_off held_entry _ _ (sym (of_other Fans fans_told c.kind_of.ensures c.in_default.not-Fans))
    (at_off held_entry _ _ (sym (of_other Dose dose_told c.kind_of.ensures c.in_default.not-Dose)) refl)
