-- Plan bytes record by record: what plan_records reads, by the index of each record.
use mathlib.Core.Path.{◌∙◌, ◌≡◌, ap, refl, subst}
use mathlib.Core.Bool.{Bool, true, false}
use mathlib.Core.List.{List, [], ◌∷◌, map}
use Prim.Native.Nat.{ℕ, zero, suc, ◌+◌, ◌/◌, ◌%◌, ◌<◌}
use native.Mathlib.Nat.{add-zero}
use native.Mathlib.Omega.{arith}
use borrow.Author.Tests.{eq-eqb, eqb-true}
use lib.Dec.{eqb, eqb→eq}
use lib.ListN.{get_or-append, get_or-map, get_or, length, length-append, length-map}
use lib.Seq.{get_or-append-add}
use Rattle.model.specs.Records.{record_size, blank_at, class_parts, pick, read, read_all, read_from, record_at, refused, slot_parts}
use Rattle.model.specs.Plans.{Class, PlanRecord, Slot, class_of, class_record, plan_of, plan_record_of, plan_records, slot_of, slot_record}
use Rattle.model.proofs.Readings.{no_refusal, passed, went_on}
use Rattle.judge_clauses.specs.Tests.{ClassRow, SlotRow}

-- what stands for a record past the last
abbrev pub no_record : PlanRecord
no_record = class_record (record { number = 0; doses = 0; weight = 0; time = 0 })

-- ---- one record

pub class_row : (r : List ℕ) (i : ℕ) → ClassRow r → plan_record_of r i ≡ read (class_record (class_of r))
unfolding plan_record_of
class_row r i h = rw (eq-eqb (get_or r 0 0) 0x43 h.kind, h.blank)

pub slot_row : (r : List ℕ) (i : ℕ) → SlotRow r → plan_record_of r i ≡ read (slot_record (slot_of r))
unfolding plan_record_of
slot_row r i h = rw (h.kind, h.blank)

-- the record read is a C
pub row_class : (r : List ℕ) (i : ℕ) (c : Class) → plan_record_of r i ≡ read (class_record c) → ClassRow r × (class_of r ≡ c)
unfolding plan_record_of
row_class r i c e = go (eqb (get_or r 0 0) 0x43) (eqb (get_or r 0 0) 0x53) (blank_at class_parts r 0) (blank_at slot_parts r 0) refl refl e
  where
    go : (a b x y : Bool) → eqb (get_or r 0 0) 0x43 ≡ a → blank_at class_parts r 0 ≡ x
        → pick a (pick x (read (class_record (class_of r))) (refused 10 0)) (pick b (pick y (read (slot_record (slot_of r))) (refused 10 0)) (refused 10 0)) ≡ read (class_record c)
        → ClassRow r × (class_of r ≡ c)
    go true b true y k z q = (record { kind = eqb-true _ _ k; blank = z }, cc)
    go true b false y k z q = absurd (no_refusal 10 0 _ q)
    go false true x true k z q = let w : ◌≡◌ {A = ℕ} 0 1 = cc in absurd (omega arith)
    go false true x false k z q = absurd (no_refusal 10 0 _ q)
    go false false x y k z q = absurd (no_refusal 10 0 _ q)

pub row_slot : (r : List ℕ) (i : ℕ) (s : Slot) → plan_record_of r i ≡ read (slot_record s) → SlotRow r × (slot_of r ≡ s)
unfolding plan_record_of
row_slot r i s e = go (eqb (get_or r 0 0) 0x43) (eqb (get_or r 0 0) 0x53) (blank_at class_parts r 0) (blank_at slot_parts r 0) refl refl e
  where
    go : (a b x y : Bool) → eqb (get_or r 0 0) 0x53 ≡ b → blank_at slot_parts r 0 ≡ y
        → pick a (pick x (read (class_record (class_of r))) (refused 10 0)) (pick b (pick y (read (slot_record (slot_of r))) (refused 10 0)) (refused 10 0)) ≡ read (slot_record s)
        → SlotRow r × (slot_of r ≡ s)
    go true b true y k z q = let w : ◌≡◌ {A = ℕ} 0 1 = cc in absurd (omega arith)
    go true b false y k z q = absurd (no_refusal 10 0 _ q)
    go false true x true k z q = (record { kind = eqb-true _ _ k; blank = z }, cc)
    go false true x false k z q = absurd (no_refusal 10 0 _ q)
    go false false x y k z q = absurd (no_refusal 10 0 _ q)

-- ---- all records

module _ (b : List ℕ) where
  rows_from : (rs : List PlanRecord) (i : ℕ) → ((k : ℕ) → k < length rs → plan_record_of (record_at b (i + k)) (i + k) ≡ read (get_or rs k no_record))
      → read_from plan_record_of b i (length rs) ≡ read rs
  unfolding read_from
  rows_from [] i h = refl
  rows_from (r ∷ rs) i h =
      let here : plan_record_of (record_at b i) i ≡ read r = rw add-zero at (h 0 (omega arith)) in
      let later = rows_from rs (suc i) (λ k l. subst (λ (x : ℕ). plan_record_of (record_at b x) x ≡ read (get_or rs k no_record)) (add_suc_left i k) (h (suc k) (omega arith))) in
      rw (here, later)
    where
      add_suc_left : (i k : ℕ) → i + suc k ≡ suc i + k
      add_suc_left i k = omega arith

  -- bytes are read as the records that their rows say
  pub rows_read : (rs : List PlanRecord) → length b % record_size ≡ 0 → length rs ≡ length b / record_size
      → ((k : ℕ) → k < length rs → plan_record_of (record_at b k) k ≡ read (get_or rs k no_record)) → plan_records b ≡ read rs
  unfolding plan_records
  rows_read rs w e h = rw (eq-eqb (length b % record_size) 0 w, ← e) (rows_from rs 0 h')
    where
      h' : (k : ℕ) → k < length rs → plan_record_of (record_at b (0 + k)) (0 + k) ≡ read (get_or rs k no_record)
      h' k l = let z : 0 + k ≡ k = omega arith in rw z (h k l)

  from_rows : (n i : ℕ) (rs : List PlanRecord) → read_from plan_record_of b i n ≡ read rs
      → (length rs ≡ n) × ((k : ℕ) → k < n → plan_record_of (record_at b (i + k)) (i + k) ≡ read (get_or rs k no_record))
  unfolding read_from
  from_rows zero i rs e = let q : rs ≡ [] = cc in (rw q refl, λ k l. absurd (omega arith))
  from_rows (suc n) i rs e =
      let x = went_on (plan_record_of (record_at b i) i) _ rs e in
      let y = went_on (read_from plan_record_of b (suc i) n) _ rs x.2 in
      let ih = from_rows n (suc i) y.0 y.1 in
      let q : rs ≡ x.0 ∷ y.0 = same x.0 y.0 y.2 in
      (rw q (ap suc ih.0), λ k l. rw q (at_place x.0 y.0 x.1 ih.1 k l))
    where
      same : (r : PlanRecord) (t : List PlanRecord) → read (r ∷ t) ≡ read rs → rs ≡ r ∷ t
      same r t z = cc

      at_place : (r : PlanRecord) (t : List PlanRecord) → plan_record_of (record_at b i) i ≡ read r
          → ((k : ℕ) → k < n → plan_record_of (record_at b (suc i + k)) (suc i + k) ≡ read (get_or t k no_record))
          → (k : ℕ) → k < suc n → plan_record_of (record_at b (i + k)) (i + k) ≡ read (get_or (r ∷ t) k no_record)
      at_place r t f g zero l = rw add-zero f
      at_place r t f g (suc k) l = let z : i + suc k ≡ suc i + k = omega arith in rw z (g k (omega arith))

  -- and the other way
  pub read_rows : (rs : List PlanRecord) → plan_records b ≡ read rs
      → (length b % record_size ≡ 0) × (length rs ≡ length b / record_size) × ((k : ℕ) → k < length rs → plan_record_of (record_at b k) k ≡ read (get_or rs k no_record))
  unfolding plan_records
  read_rows rs e =
      let x = passed (eqb (length b % record_size) 0) (read_all plan_record_of b) 10 0 rs e in
      let y = from_rows (length b / record_size) 0 rs x.1 in
      (eqb→eq _ _ x.0, y.0, λ k l. let z : 0 + k ≡ k = omega arith in rw z at (y.1 k (omega (arith, y.0))))

-- ---- classes, then slots

abbrev pub no_class : Class
no_class = record { number = 0; doses = 0; weight = 0; time = 0 }

module _ (cs : List Class) (ss : List Slot) where
  -- a record of a plan by its index
  pub plan_class : (k : ℕ) → k < length cs → (c : Class) → get_or cs k no_class ≡ c → get_or (plan_of cs ss) k no_record ≡ class_record c
  plan_class k l c e =
      get_or-append (map class_record cs) (map slot_record ss) no_record k (omega (arith, length-map cs class_record))
      ∙ get_or-map class_record cs k no_class ∙ ap class_record e

  pub plan_slot : (d : Slot) (k : ℕ) → k < length ss → get_or (plan_of cs ss) (length cs + k) no_record ≡ slot_record (get_or ss k d)
  plan_slot d k l =
      subst (λ (x : ℕ). get_or (plan_of cs ss) (x + k) no_record ≡ get_or (map slot_record ss) k no_record) (length-map cs class_record)
      (get_or-append-add (map class_record cs) (map slot_record ss) k no_record)
      ∙ any_default (map slot_record ss) k (omega (arith, length-map ss slot_record)) ∙ get_or-map slot_record ss k d
    where
      any_default : (l : List PlanRecord) (k : ℕ) → k < length l → get_or l k no_record ≡ get_or l k (slot_record d)
      any_default [] k h = absurd (omega arith)
      any_default (r ∷ l) zero h = refl
      any_default (r ∷ l) (suc k) h = any_default l k (omega arith)

  pub plan_length : length (plan_of cs ss) ≡ length cs + length ss
  plan_length = omega (arith, length-append (map class_record cs) (map slot_record ss), length-map cs class_record, length-map ss slot_record)
