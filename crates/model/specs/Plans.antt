-- The records of a plan (document 01, "Records"): C and S, read from bytes and written.
use Rattle.std.specs.Prelude.{List, [], ◌∷◌, ◌++◌, map, ℕ, ◌%◌, eqb, length, get_or}
use Rattle.model.specs.Records.{pick, Reading, read, refused, record_size, class_kind, slot_kind, class_parts, slot_parts, blank_at, field_of, record_bytes, read_all}

-- the fields of a C record: class number, doses in it, W, P
pub record Class : Type 0 where
  pub number : ℕ
  pub doses : ℕ
  pub weight : ℕ
  pub time : ℕ

-- the fields of an S record; W and P are its weight and its time, and its rate is the one divided by the other
pub record Slot : Type 0 where
  pub fan : ℕ
  pub dose : ℕ
  pub start_tick : ℕ
  pub start_part : ℕ
  pub end_tick : ℕ
  pub end_part : ℕ
  pub weight : ℕ
  pub time : ℕ
  pub class : ℕ

-- what a record of a plan says
pub data PlanRecord : Type 0 where
  class_record : Class → PlanRecord
  slot_record : Slot → PlanRecord

-- ---- reading

-- the fields of a C record, from its bytes; field 0 is the kind
abbrev pub class_of : List ℕ → Class
class_of r = record { number = field_of class_parts r 1; doses = field_of class_parts r 2; weight = field_of class_parts r 3; time = field_of class_parts r 4 }

-- the fields of an S record, from its bytes
abbrev pub slot_of : List ℕ → Slot
slot_of r = record {
  fan = field_of slot_parts r 1;
  dose = field_of slot_parts r 2;
  start_tick = field_of slot_parts r 3;
  start_part = field_of slot_parts r 4;
  end_tick = field_of slot_parts r 5;
  end_part = field_of slot_parts r 6;
  weight = field_of slot_parts r 7;
  time = field_of slot_parts r 8;
  class = field_of slot_parts r 9;
}

-- a record that is neither C nor S, or has a byte that must be zero and isn't: "plan bytes don't stand", 10
unfoldable pub plan_record_of : List ℕ → ℕ → Reading PlanRecord
plan_record_of r i =
    pick (eqb (get_or r 0 0) class_kind) (pick (blank_at class_parts r 0) (read (class_record (class_of r))) (refused 10 0))
    (pick (eqb (get_or r 0 0) slot_kind) (pick (blank_at slot_parts r 0) (read (slot_record (slot_of r))) (refused 10 0)) (refused 10 0))

-- all records of plan bytes
unfoldable pub plan_records : List ℕ → Reading (List PlanRecord)
plan_records bytes = pick (eqb (length bytes % record_size) 0) (read_all plan_record_of bytes) (refused 10 0)

-- the slots among them
unfoldable pub slots_in : List PlanRecord → List Slot
slots_in [] = []
slots_in (class_record c ∷ rs) = slots_in rs
slots_in (slot_record s ∷ rs) = s ∷ slots_in rs

-- the slots of plan bytes
abbrev pub slots_read : Reading (List PlanRecord) → List Slot
slots_read (read rs) = slots_in rs
slots_read (refused number place) = []

-- ---- writing

-- the 32 bytes of a record of a plan
unfoldable pub plan_record_bytes : PlanRecord → List ℕ
plan_record_bytes (class_record c) = record_bytes class_parts (class_kind ∷ c.number ∷ c.doses ∷ c.weight ∷ c.time ∷ [])
plan_record_bytes (slot_record s) =
    record_bytes slot_parts (slot_kind ∷ s.fan ∷ s.dose ∷ s.start_tick ∷ s.start_part ∷ s.end_tick ∷ s.end_part ∷ s.weight ∷ s.time ∷ s.class ∷ [])

-- the bytes of records in a row
unfoldable pub records_bytes : List PlanRecord → List ℕ
records_bytes [] = []
records_bytes (r ∷ rs) = plan_record_bytes r ++ records_bytes rs

-- "Records: classes by number, then slots"
abbrev pub plan_of : List Class → List Slot → List PlanRecord
plan_of classes slots = map class_record classes ++ map slot_record slots
