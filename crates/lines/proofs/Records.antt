-- Laws of the lines of records: a record's line goes by its kind, and is at most 160 bytes long. Assumes nothing.
use mathlib.Core.Path.{◌≡◌}
use mathlib.Core.Bool.{Bool, true, false}
use mathlib.Core.List.{List, [], ◌∷◌, ◌++◌}
use Prim.Native.Nat.{ℕ, ◌+◌, ◌*◌, ◌≤◌}
use native.Mathlib.Omega.{arith}
use lib.Dec.{eqb}
use lib.ListN.{length, get_or, length-append}
use Rattle.model.specs.Records.{pick, class_kind, record_at}
use Rattle.model.specs.Plans.{Class, Slot, class_of, slot_of}
use Rattle.records.specs.Plan.{kind_at, class_in, slot_in}
use Rattle.lines.specs.Text.{line_text, numbers_text, class_text, slot_text, total_text, refused_text, record_text, records_text, plan_text}
use Rattle.lines.proofs.Puts.{lines_length, numbers_length}

-- ---- lengths

line_length : (word vs : List ℕ) → length (line_text word vs) ≤ length word + 21 * length vs + 1
line_length word vs =
    omega (arith, length-append word (numbers_text vs ++ (10 ∷ [])), length-append (numbers_text vs) (10 ∷ []), numbers_length vs)

class_length : (c : Class) → length (class_text c) ≤ 160
unfolding class_text
class_length c = omega (arith, line_length (99 ∷ 108 ∷ 97 ∷ 115 ∷ 115 ∷ []) (c.number ∷ c.doses ∷ c.weight ∷ c.time ∷ []))

slot_length : (s : Slot) → length (slot_text s) ≤ 160
unfolding slot_text
slot_length s =
    omega (
      arith,
      line_length (115 ∷ 108 ∷ 111 ∷ 116 ∷ []) (s.fan ∷ s.dose ∷ s.start_tick ∷ s.start_part ∷ s.end_tick ∷ s.end_part ∷ s.class ∷ []),
    )

-- the line of a record is at most 160 bytes
pub record_length : (r : List ℕ) → length (record_text r) ≤ 160
unfolding record_text
record_length r = go (eqb (get_or r 0 0) class_kind)
  where
    go : (t : Bool) → length (pick t (class_text (class_of r)) (slot_text (slot_of r))) ≤ 160
    go true = class_length (class_of r)
    go false = slot_length (slot_of r)

-- ---- a record, by its kind

pub class_line : (plan : List ℕ) (i : ℕ) {c : Class} → eqb (kind_at plan i) class_kind ≡ true → c ≡ class_in plan i → record_text (record_at plan i) ≡ class_text c
unfolding record_text class_in
class_line plan i k q = rw (k, q)

pub slot_line : (plan : List ℕ) (i : ℕ) {s : Slot} → eqb (kind_at plan i) class_kind ≡ false → s ≡ slot_in plan i → record_text (record_at plan i) ≡ slot_text s
unfolding record_text slot_in
slot_line plan i k q = rw (k, q)

-- ---- whole texts

-- the lines of n records are at most 160 bytes each
pub records_length : (plan : List ℕ) (n : ℕ) → length (records_text plan n) ≤ 160 * n
records_length plan n = lines_length (λ k. record_text (record_at plan k)) 160 (λ k. record_length (record_at plan k)) n

-- a text of n records and the total is at most 160 × (n + 1) bytes
pub plan_text_length : (plan : List ℕ) (classes slots : ℕ) → length (plan_text plan classes slots) ≤ 160 * (classes + slots + 1)
unfolding plan_text total_text
plan_text_length plan classes slots =
    omega (
      arith,
      length-append (records_text plan (classes + slots)) (total_text classes slots),
      records_length plan (classes + slots),
      line_length (116 ∷ 111 ∷ 116 ∷ 97 ∷ 108 ∷ []) (classes ∷ slots ∷ []),
    )

-- the line of a refusal is at most 160 bytes
pub refused_length : (number place set weight time : ℕ) → length (refused_text number place set weight time) ≤ 160
unfolding refused_text
refused_length number place set weight time = go (eqb number 9)
  where
    word : List ℕ
    word = 114 ∷ 101 ∷ 102 ∷ 117 ∷ 115 ∷ 101 ∷ 100 ∷ []

    go : (t : Bool) → length (line_text word (pick t (number ∷ place ∷ set ∷ weight ∷ time ∷ []) (number ∷ place ∷ []))) ≤ 160
    go true = omega (arith, line_length word (number ∷ place ∷ set ∷ weight ∷ time ∷ []))
    go false = omega (arith, line_length word (number ∷ place ∷ []))
