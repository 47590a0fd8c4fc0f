-- Plan bytes: the records that are written are read again, and bytes that are read as records are written back.
use mathlib.Core.Bool.{Bool, true, false}
use mathlib.Core.Path.{◌∙◌, ◌≡◌, ap, refl, sym}
use mathlib.Core.List.{List, [], ◌∷◌, ◌++◌, append_assoc, append-nil}
use Prim.Native.Nat.{ℕ, zero, suc, ◌+◌, ◌*◌, ◌/◌, ◌%◌, ◌<◌}
use native.Mathlib.Nat.{mul-div_right, mul-mod_right, mul-suc}
use native.Mathlib.Omega.{arith}
use borrow.Author.Tests.{eq-eqb, eqb-true}
use lib.Dec.{eqb}
use lib.ListN.{drop, drop_of_length-le, get_or, length, length-append, length-drop, length-take, take, take-append-drop}
use lib.Seq.{drop_at, drop-drop, take_all, take_at}
use Rattle.model.specs.Records.{record_size, Reading, and_then, blank_at, class_parts, fields_at, number_at, pick, read, read_all, read_from, record_at, record_bytes, refused, slot_parts}
use Rattle.model.specs.Lists.{All, also, none}
use Rattle.model.specs.Plans.{Class, PlanRecord, Slot, class_of, class_record, plan_of, plan_record_bytes, plan_record_of, plan_records, records_bytes, slot_of, slot_record}
use Rattle.model.proofs.Lists.{All-append, All-map}
use Rattle.model.proofs.Written.Records.{Bytes, Fits, blank_back, bytes_drop, bytes_take, fields_back, fields_taken, in_field, no_part, past_blank}
use Rattle.model.proofs.Records.{size_of}
use Rattle.model.proofs.Plans.{class_fields, slot_fields, length_one, length_records}

-- ---- fields that fit their records

-- of a class
pub record NarrowClass (c : Class) : Type 0 where
  pub number : c.number < 256
  pub doses : c.doses < 65536
  pub weight : c.weight < 4294967296
  pub time : c.time < 4294967296

-- of a slot
pub record NarrowSlot (s : Slot) : Type 0 where
  pub fan : s.fan < 256
  pub dose : s.dose < 65536
  pub start_tick : s.start_tick < 4294967296
  pub start_part : s.start_part < 4294967296
  pub end_tick : s.end_tick < 4294967296
  pub end_part : s.end_part < 4294967296
  pub weight : s.weight < 4294967296
  pub time : s.time < 4294967296
  pub class : s.class < 256

-- of either
abbrev pub Narrow : PlanRecord → Type 0
Narrow (class_record c) = NarrowClass c
Narrow (slot_record s) = NarrowSlot s

class_fits : (c : Class) → NarrowClass c → Fits class_parts (class_fields 0x43 c)
class_fits c h =
    in_field {width = 1} {v = 0x43} (omega arith) (in_field h.number (in_field h.doses (in_field h.weight (in_field h.time (past_blank no_part)))))

slot_fits_lem : (s : Slot) → NarrowSlot s → Fits slot_parts (slot_fields 0x53 s)
slot_fits_lem s h =
    in_field {width = 1} {v = 0x53} (omega arith) (in_field h.fan (in_field h.dose (in_field h.start_tick (in_field h.start_part (in_field h.end_tick
    (in_field h.end_part (in_field h.weight (in_field h.time (in_field h.class (past_blank no_part))))))))))

-- ---- one record

-- the kind is the first field
kind_class : (b : List ℕ) → get_or (fields_at class_parts b 0) 0 0 ≡ get_or b 0 0
unfolding fields_at number_at
kind_class b = omega arith

kind_slot : (b : List ℕ) → get_or (fields_at slot_parts b 0) 0 0 ≡ get_or b 0 0
unfolding fields_at number_at
kind_slot b = omega arith

reads_class : (b : List ℕ) (c : Class) (i : ℕ) → fields_at class_parts b 0 ≡ class_fields 0x43 c → blank_at class_parts b 0 ≡ true → plan_record_of b i ≡ read (class_record c)
unfolding plan_record_of
reads_class b c i e z = rw (sym (kind_class b) ∙ ap (λ (l : List ℕ). get_or l 0 0) e, z, e)

reads_slot : (b : List ℕ) (s : Slot) (i : ℕ) → fields_at slot_parts b 0 ≡ slot_fields 0x53 s → blank_at slot_parts b 0 ≡ true → plan_record_of b i ≡ read (slot_record s)
unfolding plan_record_of
reads_slot b s i e z = rw (sym (kind_slot b) ∙ ap (λ (l : List ℕ). get_or l 0 0) e, z, e)

-- what is written is read again
pub one_back : (r : PlanRecord) → Narrow r → (i : ℕ) → plan_record_of (plan_record_bytes r) i ≡ read r
unfolding plan_record_bytes
one_back (class_record c) h i =
    let f = class_fits c h in
    reads_class (record_bytes class_parts (class_fields 0x43 c)) c i (rw append-nil at (fields_back f [])) (rw append-nil at (blank_back f []))
one_back (slot_record s) h i =
    let f = slot_fits_lem s h in
    reads_slot (record_bytes slot_parts (slot_fields 0x53 s)) s i (rw append-nil at (fields_back f [])) (rw append-nil at (blank_back f []))

refused_read : {A : Type 0} {n place : ℕ} {a : A} → refused n place ≡ read a → ⊥
refused_read e = let z : ◌≡◌ {A = ℕ} 0 1 = cc in omega arith

module _ (b : List ℕ) (h : Bytes b) (size : length b ≡ record_size) where
  fields_class : get_or b 0 0 ≡ 0x43 → class_fields 0x43 (class_of b) ≡ fields_at class_parts b 0
  unfolding fields_at
  fields_class k = ap (λ (kind : ℕ). class_fields kind (class_of b)) (sym (kind_class b ∙ k))

  fields_slot : get_or b 0 0 ≡ 0x53 → slot_fields 0x53 (slot_of b) ≡ fields_at slot_parts b 0
  unfolding fields_at
  fields_slot k = ap (λ (kind : ℕ). slot_fields kind (slot_of b)) (sym (kind_slot b ∙ k))

  class_taken : get_or b 0 0 ≡ 0x43 → blank_at class_parts b 0 ≡ true → plan_record_bytes (class_record (class_of b)) ≡ b
  unfolding plan_record_bytes size_of
  class_taken k z = ap (record_bytes class_parts) (fields_class k) ∙ fields_taken class_parts b h 0 z (omega arith) ∙ take_all record_size b (omega arith)

  slot_taken : get_or b 0 0 ≡ 0x53 → blank_at slot_parts b 0 ≡ true → plan_record_bytes (slot_record (slot_of b)) ≡ b
  unfolding plan_record_bytes size_of
  slot_taken k z = ap (record_bytes slot_parts) (fields_slot k) ∙ fields_taken slot_parts b h 0 z (omega arith) ∙ take_all record_size b (omega arith)

  -- what is read is written again
  pub one_taken : (i : ℕ) (r : PlanRecord) → plan_record_of b i ≡ read r → plan_record_bytes r ≡ b
  unfolding plan_record_of
  one_taken i r = go (eqb (get_or b 0 0) 0x43) (eqb (get_or b 0 0) 0x53) (blank_at class_parts b 0) (blank_at slot_parts b 0) refl refl refl refl
    where
      go : (class slot class_blank slot_blank : Bool) → eqb (get_or b 0 0) 0x43 ≡ class → eqb (get_or b 0 0) 0x53 ≡ slot → blank_at class_parts b 0 ≡ class_blank
          → blank_at slot_parts b 0 ≡ slot_blank
          → pick class (pick class_blank (read (class_record (class_of b))) (refused 10 0)) (pick slot (pick slot_blank (read (slot_record (slot_of b))) (refused 10 0)) (refused 10 0)) ≡ read r
          → plan_record_bytes r ≡ b
      go true s true d k l y z e = let q : r ≡ class_record (class_of b) = cc in rw q (class_taken (eqb-true (get_or b 0 0) 0x43 k) y)
      go true s false d k l y z e = absurd (refused_read e)
      go false true c true k l y z e = let q : r ≡ slot_record (slot_of b) = cc in rw q (slot_taken (eqb-true (get_or b 0 0) 0x53 l) z)
      go false true c false k l y z e = absurd (refused_read e)
      go false false c d k l y z e = absurd (refused_read e)

-- ---- records in a row

reads_from : (rs : List PlanRecord) → All Narrow rs → (pre : List ℕ) (i : ℕ) → length pre ≡ record_size * i
    → read_from plan_record_of (pre ++ records_bytes rs) i (length rs) ≡ read rs
unfolding records_bytes read_from
reads_from [] none pre i e = refl
reads_from (r ∷ rs) (also h g) pre i e =
    let here : record_at (pre ++ (plan_record_bytes r ++ records_bytes rs)) i ≡ plan_record_bytes r =
    ap (take record_size) (drop_at pre (plan_record_bytes r ++ records_bytes rs) (record_size * i) e) ∙ take_at (plan_record_bytes r) (records_bytes rs) record_size (length_one r) in
    let later : read_from plan_record_of (pre ++ (plan_record_bytes r ++ records_bytes rs)) (suc i) (length rs) ≡ read rs =
    rw append_assoc at (reads_from rs g (pre ++ plan_record_bytes r) (suc i) (omega (arith, length-append pre (plan_record_bytes r), length_one r))) in
    rw (here, one_back r h i, later)

-- records that are written are read again
pub read_written : (rs : List PlanRecord) → All Narrow rs → plan_records (records_bytes rs) ≡ read rs
unfolding plan_records
read_written rs h =
    rw (length_records rs, eq-eqb (record_size * length rs % record_size) 0 (mul-mod_right record_size (length rs)), mul-div_right (length rs) {m = record_size} (omega arith))
    (reads_from rs h [] 0 refl)

module _ (b : List ℕ) (h : Bytes b) where
  taken_from : (n i : ℕ) (rs : List PlanRecord) → length b ≡ record_size * (i + n) → read_from plan_record_of b i n ≡ read rs → records_bytes rs ≡ drop (record_size * i) b
  unfolding read_from records_bytes
  taken_from zero i rs l e = let q : rs ≡ [] = cc in rw (q, drop_of_length-le b {i = record_size * i} (omega arith))
  taken_from (suc n) i rs l e =
      go (plan_record_of (record_at b i) i) (read_from plan_record_of b (suc i) n) refl (λ t f. rw (mul-suc record_size i) at (taken_from n (suc i) t (omega arith) f)) e
    where
      go : (one : Reading PlanRecord) (others : Reading (List PlanRecord)) → plan_record_of (record_at b i) i ≡ one
          → ((t : List PlanRecord) → others ≡ read t → records_bytes t ≡ drop (record_size * i + record_size) b)
          → and_then one (λ a. and_then others (λ rest. read (a ∷ rest))) ≡ read rs → records_bytes rs ≡ drop (record_size * i) b
      go (read r) (read t) f later q =
          let here : plan_record_bytes r ≡ record_at b i =
          one_taken (record_at b i) (bytes_take record_size (drop (record_size * i) b) (bytes_drop (record_size * i) b h))
          (omega (arith, length-take record_size (drop (record_size * i) b), length-drop (record_size * i) b)) i r f in
          let all : rs ≡ r ∷ t = cc in
          rw (all, here, later t refl, ← drop-drop record_size (record_size * i) b) (take-append-drop record_size (drop (record_size * i) b))
      go (read r) (refused n place) f g q = absurd (refused_read q)
      go (refused n place) others f g q = absurd (refused_read q)

  -- bytes that are read as records are those records' bytes
  pub written_read : (rs : List PlanRecord) → plan_records b ≡ read rs → records_bytes rs ≡ b
  unfolding plan_records
  written_read rs e = go (eqb (length b % record_size) 0) refl e
    where
      go : (even : Bool) → eqb (length b % record_size) 0 ≡ even → pick even (read_all plan_record_of b) (refused 10 0) ≡ read rs → records_bytes rs ≡ b
      go true k q = taken_from (length b / record_size) 0 rs (omega (arith, eqb-true (length b % record_size) 0 k)) q
      go false k q = absurd (refused_read q)

-- bytes are one list of records
pub records_once : (b : List ℕ) {rs ts : List PlanRecord} → plan_records b ≡ read rs → plan_records b ≡ read ts → rs ≡ ts
records_once b e f = cc

-- ---- classes, then slots

module _ (classes : List Class) (slots : List Slot) (h : All NarrowClass classes) (g : All NarrowSlot slots) where
  planned_narrow : All Narrow (plan_of classes slots)
  planned_narrow = All-append (All-map class_record h) (All-map slot_record g)

  -- a plan that is written is read again
  pub plan_back : plan_records (records_bytes (plan_of classes slots)) ≡ read (plan_of classes slots)
  plan_back = read_written (plan_of classes slots) planned_narrow
