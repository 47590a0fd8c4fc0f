-- A struct that holds a record is settled by the record: `as_fans`, `as_dose`, `as_class`, `as_slot` and `as_meter` are one-to-one. Assumes nothing.
use mathlib.Core.Path.{◌≡◌, ap}
use Rattle.model.specs.Plans as plans
use Rattle.model.specs.Log as log
use Rattle.records.specs.Held.{as_fans, held_fans, as_dose, held_dose, as_class, as_slot, as_meter}
use Rattle.records.specs.declared.order_records.Fans.{Fans}
use Rattle.records.specs.declared.order_records.Dose.{Dose}
use Rattle.records.specs.declared.plan_records.Class.{Class}
use Rattle.records.specs.declared.plan_records.Slot.{Slot}
use Rattle.records.specs.declared.log_records.Meter.{Meter}

abbrev held_class : plans.Class → Class
held_class c = record { number = c.number; doses = c.doses; weight = c.weight; time = c.time }

abbrev held_slot : plans.Slot → Slot
held_slot s = record {
  fan = s.fan;
  dose = s.dose;
  start_tick = s.start_tick;
  start_part = s.start_part;
  end_tick = s.end_tick;
  end_part = s.end_part;
  weight = s.weight;
  time = s.time;
  class = s.class;
}

abbrev held_meter : log.Meter → Meter
held_meter m = record { form = m.form; bay = m.bay; tick = m.tick; value = m.value }

pub fans_one : (f g : Fans) → as_fans f ≡ as_fans g → f ≡ g
fans_one f g e = ap held_fans e

pub dose_one : (d e : Dose) → as_dose d ≡ as_dose e → d ≡ e
dose_one d e q = ap held_dose q

pub class_one : (c d : Class) → as_class c ≡ as_class d → c ≡ d
class_one c d e = ap held_class e

pub slot_one : (s u : Slot) → as_slot s ≡ as_slot u → s ≡ u
slot_one s u e = ap held_slot e

pub meter_one : (m n : Meter) → as_meter m ≡ as_meter n → m ≡ n
meter_one m n e = ap held_meter e
