-- Plan bytes record by record: what record i says as a C and as an S, and which of the two it is.
use Rattle.std.specs.Prelude.{Bool, ◌&&◌, List, ℕ, eqb, get_or}
use Rattle.model.specs.Records.{class_kind, slot_kind, class_parts, slot_parts, blank_at, record_at}
use Rattle.model.specs.Plans.{Class, Slot, class_of, slot_of}

-- record i read as a C
unfoldable pub class_in : List ℕ → ℕ → Class
class_in plan i = class_of (record_at plan i)

-- and as an S
unfoldable pub slot_in : List ℕ → ℕ → Slot
slot_in plan i = slot_of (record_at plan i)

-- its kind
abbrev pub kind_at : List ℕ → ℕ → ℕ
kind_at plan i = get_or (record_at plan i) 0 0

-- it is a C, and the bytes that must be zero are
unfoldable pub is_class : List ℕ → ℕ → Bool
is_class plan i = eqb (kind_at plan i) class_kind && blank_at class_parts (record_at plan i) 0

-- it is an S, and the bytes that must be zero are
unfoldable pub is_slot : List ℕ → ℕ → Bool
is_slot plan i = eqb (kind_at plan i) slot_kind && blank_at slot_parts (record_at plan i) 0
