-- Plan bytes: how long they are, and the slots that are read from them.
use mathlib.Core.Path.{◌≡◌, ap, refl, sym}
use mathlib.Core.List.{List, [], ◌∷◌, ◌++◌, append_assoc, map}
use Prim.Native.Nat.{ℕ, ◌+◌, ◌*◌}
use native.Mathlib.Omega.{arith}
use lib.ListN.{length, length-append, length-map}
use Rattle.model.specs.Records.{record_size, class_kind, class_parts, read, slot_kind, slot_parts}
use Rattle.model.specs.Plans.{Class, PlanRecord, Slot, class_record, plan_of, plan_record_bytes, plan_records, records_bytes, slot_record, slots_in, slots_read}
use Rattle.model.proofs.Records.{length_record, size_of}

-- the fields of a class, the first of them the kind
abbrev pub class_fields : ℕ → Class → List ℕ
class_fields kind c = kind ∷ c.number ∷ c.doses ∷ c.weight ∷ c.time ∷ []

-- and those of a slot
abbrev pub slot_fields : ℕ → Slot → List ℕ
slot_fields kind s = kind ∷ s.fan ∷ s.dose ∷ s.start_tick ∷ s.start_part ∷ s.end_tick ∷ s.end_part ∷ s.weight ∷ s.time ∷ s.class ∷ []

-- a record is 32 bytes
pub length_one : (r : PlanRecord) → length (plan_record_bytes r) ≡ record_size
unfolding plan_record_bytes size_of
length_one (class_record c) = length_record class_parts (class_fields class_kind c)
length_one (slot_record s) = length_record slot_parts (slot_fields slot_kind s)

-- n records are 32 × n bytes
pub length_records : (rs : List PlanRecord) → length (records_bytes rs) ≡ record_size * length rs
unfolding records_bytes
length_records [] = refl
length_records (r ∷ rs) = omega (arith, length-append (plan_record_bytes r) (records_bytes rs), length_one r, length_records rs)

-- the records of one list behind those of another
pub records_append : (rs ts : List PlanRecord) → records_bytes (rs ++ ts) ≡ records_bytes rs ++ records_bytes ts
unfolding records_bytes
records_append [] ts = refl
records_append (r ∷ rs) ts = rw (records_append rs ts) (sym (append_assoc (plan_record_bytes r) (records_bytes rs) (records_bytes ts)))

-- the slots of a plan's records
pub slots_planned : (classes : List Class) (slots : List Slot) → slots_in (plan_of classes slots) ≡ slots
unfolding slots_in
slots_planned [] [] = refl
slots_planned [] (s ∷ slots) = ap (λ (l : List Slot). s ∷ l) (slots_planned [] slots)
slots_planned (c ∷ classes) slots = slots_planned classes slots

-- plan bytes that are read as classes and slots have those slots
pub slots_read_lem : (b : List ℕ) (classes : List Class) (slots : List Slot) → plan_records b ≡ read (plan_of classes slots) → slots_read (plan_records b) ≡ slots
slots_read_lem b classes slots e = rw e (slots_planned classes slots)

-- a plan has a record for each class and each slot
pub length_plan : (classes : List Class) (slots : List Slot) → length (records_bytes (plan_of classes slots)) ≡ record_size * (length classes + length slots)
length_plan classes slots =
    omega (
      arith,
      length_records (plan_of classes slots),
      length-append (map class_record classes) (map slot_record slots),
      length-map classes class_record,
      length-map slots slot_record,
    )
