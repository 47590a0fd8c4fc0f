-- Records (document 01, "Records"; document 02, C-11 and C-16): "All records are 32 bytes, no header, numbers least significant byte first."
use Rattle.std.specs.Prelude.{Bool, true, false, ◌&&◌, List, [], ◌∷◌, ◌++◌, ℕ, zero, suc, ◌+◌, ◌*◌, ◌/◌, ◌%◌, eqb, leb, length, get_or, take, drop, replicate}

-- a where the test holds, and b where not
abbrev pub pick : {A : Type 0} → Bool → A → A → A
pick true a b = a
pick false a b = b

-- v is lo to hi
abbrev pub within : ℕ → ℕ → ℕ → Bool
within lo hi v = leb lo v && leb v hi

-- "Each check hands back either the record's fields or a refusal number and place."
pub data Reading (A : Type 0) : Type 0 where
  read : A → Reading A
  refused : ℕ → ℕ → Reading A

-- the next check, where the last one did not refuse
abbrev pub and_then : {A B : Type 0} → Reading A → (A → Reading B) → Reading B
and_then (read a) f = f a
and_then (refused number place) f = refused number place

-- ---- numbers

-- the number in `width` bytes from byte `at` on, least significant byte first
unfoldable pub number_at : List ℕ → ℕ → ℕ → ℕ
number_at bytes at zero = 0
number_at bytes at (suc width) = get_or bytes at 0 + 256 * number_at bytes (suc at) width

-- and as it is written
unfoldable pub number_bytes : ℕ → ℕ → List ℕ
number_bytes zero v = []
number_bytes (suc width) v = v % 256 ∷ number_bytes width (v / 256)

-- ---- layouts

-- "All records are 32 bytes"
abbrev pub record_size : ℕ
record_size = 32

-- the kinds, byte 0 of every record: "F (0x46) fans"
abbrev pub fans_kind : ℕ
fans_kind = 0x46

-- "D (0x44) dose"
abbrev pub dose_kind : ℕ
dose_kind = 0x44

-- "C (0x43) class"
abbrev pub class_kind : ℕ
class_kind = 0x43

-- "S (0x53) slot"
abbrev pub slot_kind : ℕ
slot_kind = 0x53

-- "M records (0x4D)"
abbrev pub meter_kind : ℕ
meter_kind = 0x4D

-- a part of a record: a number of so many bytes, or so many bytes that are not named. "Bytes not named must be zero."
pub data Part : Type 0 where
  field : ℕ → Part
  blank : ℕ → Part

-- "F (0x46) fans: 1 number of fans; 4-7 top grams, 8-11 top seconds", and "Byte 2 of F .. names the rule"; field 0 of every record is its kind
abbrev pub fans_parts : List Part
fans_parts = field 1 ∷ field 1 ∷ field 1 ∷ blank 1 ∷ field 4 ∷ field 4 ∷ blank 20 ∷ []

-- "D (0x44) dose: 2-3 bay; 4-7 release; 8-11 deadline; 12-15 grams"
abbrev pub dose_parts : List Part
dose_parts = field 1 ∷ blank 1 ∷ field 2 ∷ field 4 ∷ field 4 ∷ field 4 ∷ blank 16 ∷ []

-- "C (0x43) class: 1 class number from 1; 2-3 doses in it; 4-7 W; 8-11 P"
abbrev pub class_parts : List Part
class_parts = field 1 ∷ field 1 ∷ field 2 ∷ field 4 ∷ field 4 ∷ blank 20 ∷ []

-- "S (0x53) slot: 1 fan from 1; 2-3 dose; 4-7 start tick; 8-11 start part; 12-15 end tick; 16-19 end part; 20-23 W; 24-27 P; 28 class number"
abbrev pub slot_parts : List Part
slot_parts =
    field 1 ∷ field 1 ∷ field 2 ∷ field 4 ∷ field 4 ∷ field 4 ∷ field 4 ∷ field 4 ∷ field 4 ∷ field 1 ∷ blank 3 ∷ []

-- "M records (0x4D) of 32 bytes, byte 1 form, 2-3 bay, 4-7 tick up to 604,800, 8-11 value, rest zero"
abbrev pub meter_parts : List Part
meter_parts = field 1 ∷ field 1 ∷ field 2 ∷ field 4 ∷ field 4 ∷ blank 20 ∷ []

-- the fields of a record whose parts begin at byte `at`
unfoldable pub fields_at : List Part → List ℕ → ℕ → List ℕ
fields_at [] bytes at = []
fields_at (field width ∷ parts) bytes at = number_at bytes at width ∷ fields_at parts bytes (at + width)
fields_at (blank width ∷ parts) bytes at = fields_at parts bytes (at + width)

-- whether the bytes that must be zero are
unfoldable pub blank_at : List Part → List ℕ → ℕ → Bool
blank_at [] bytes at = true
blank_at (field width ∷ parts) bytes at = blank_at parts bytes (at + width)
blank_at (blank width ∷ parts) bytes at = eqb (number_at bytes at width) 0 && blank_at parts bytes (at + width)

-- field i of a record
abbrev pub field_of : List Part → List ℕ → ℕ → ℕ
field_of parts bytes i = get_or (fields_at parts bytes 0) i 0

-- the bytes of a record with these fields
unfoldable pub record_bytes : List Part → List ℕ → List ℕ
record_bytes [] values = []
record_bytes (field width ∷ parts) [] = replicate width 0 ++ record_bytes parts []
record_bytes (field width ∷ parts) (v ∷ values) = number_bytes width v ++ record_bytes parts values
record_bytes (blank width ∷ parts) values = replicate width 0 ++ record_bytes parts values

-- ---- records in a row

-- record i of the bytes
abbrev pub record_at : List ℕ → ℕ → List ℕ
record_at bytes i = take record_size (drop (record_size * i) bytes)

-- n records from record i on, each read by `each` from its bytes and its index: the first refusal, or all
unfoldable pub read_from : {A : Type 0} → (List ℕ → ℕ → Reading A) → List ℕ → ℕ → ℕ → Reading (List A)
read_from each bytes i zero = read []
read_from each bytes i (suc n) =
    and_then (each (record_at bytes i) i) (λ a. and_then (read_from each bytes (suc i) n) (λ rest. read (a ∷ rest)))

-- all records of the bytes
abbrev pub read_all : {A : Type 0} → (List ℕ → ℕ → Reading A) → List ℕ → Reading (List A)
read_all each bytes = read_from each bytes 0 (length bytes / record_size)
