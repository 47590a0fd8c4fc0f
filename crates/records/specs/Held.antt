-- How the structs hold records, and the bytes of an order's records.
use Rattle.std.specs.Prelude.{List, [], ◌∷◌, ℕ}
use Rattle.model.specs.Records.{fans_kind, dose_kind, fans_parts, dose_parts, record_bytes}
use Rattle.model.specs.Orders as orders
use Rattle.model.specs.Plans as plans
use Rattle.model.specs.Log as log
use Rattle.records.specs.declared.order_records.Fans.{Fans}
use Rattle.records.specs.declared.order_records.Dose.{Dose}
use Rattle.records.specs.declared.plan_records.Class.{Class}
use Rattle.records.specs.declared.plan_records.Slot.{Slot}
use Rattle.records.specs.declared.log_records.Meter.{Meter}

-- ---- F and D

abbrev pub as_fans : Fans → orders.Fans
as_fans f = record { fans = f.fans; rule = f.rule; top_grams = f.top_grams; top_seconds = f.top_seconds }

abbrev pub held_fans : orders.Fans → Fans
held_fans f = record { fans = f.fans; rule = f.rule; top_grams = f.top_grams; top_seconds = f.top_seconds }

abbrev pub as_dose : Dose → orders.Dose
as_dose d = record { bay = d.bay; release = d.release; deadline = d.deadline; grams = d.grams }

abbrev pub held_dose : orders.Dose → Dose
held_dose d = record { bay = d.bay; release = d.release; deadline = d.deadline; grams = d.grams }

-- the 32 bytes of an F record
abbrev pub fans_bytes : orders.Fans → List ℕ
fans_bytes f = record_bytes fans_parts (fans_kind ∷ f.fans ∷ f.rule ∷ f.top_grams ∷ f.top_seconds ∷ [])

-- and of a D record
abbrev pub dose_bytes : orders.Dose → List ℕ
dose_bytes d = record_bytes dose_parts (dose_kind ∷ d.bay ∷ d.release ∷ d.deadline ∷ d.grams ∷ [])

-- ---- C and S

abbrev pub as_class : Class → plans.Class
as_class c = record { number = c.number; doses = c.doses; weight = c.weight; time = c.time }

abbrev pub as_slot : Slot → plans.Slot
as_slot s = record {
  fan = s.fan;
  dose = s.dose;
  start_tick = s.start_tick;
  start_part = s.start_part;
  end_tick = s.end_tick;
  end_part = s.end_part;
  weight = s.weight;
  time = s.time;
  class = s.class;
}

-- ---- M

abbrev pub as_meter : Meter → log.Meter
as_meter m = record { form = m.form; bay = m.bay; tick = m.tick; value = m.value }
