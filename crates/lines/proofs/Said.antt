-- The text says the plan: where plan bytes are read as classes and slots, it is their lines in that order, and the total. Assumes nothing.
use mathlib.Core.Path.{◌≡◌, refl, sym, ap, ◌∙◌}
use mathlib.Core.Bool.{Bool, true, false}
use mathlib.Core.List.{List, [], ◌∷◌, ◌++◌, append-nil, append_assoc, map}
use Prim.Native.Nat.{ℕ, zero, suc, ◌+◌, ◌*◌, ◌/◌, ◌%◌, ◌≤◌, ◌<◌}
use native.Mathlib.Omega.{arith}
use native.Mathlib.Nat.{add-zero}
use lib.Dec.{eqb}
use lib.ListN.{length, get_or, take, drop, length-append, length-map, length-drop}
use lib.Seq.{take-append-le, drop-append-le}
use Rattle.model.specs.Lists.{gather}
use Rattle.model.specs.Records.{record_size, pick, Reading, read, refused, and_then, class_kind, slot_kind, blank_at, class_parts, slot_parts, record_at, read_from, read_all}
use Rattle.model.specs.Plans.{Class, Slot, PlanRecord, class_record, slot_record, class_of, slot_of, plan_of, plan_record_of, plan_records}
use Rattle.lines.specs.Text.{class_text, slot_text, total_text, record_text, plan_text, said_text, said_lines}

never : {A B : Type 0} {number place : ℕ} {a : A} → refused number place ≡ read a → B
never {A} {number = number} {place = place} {a = a} e = let z : ◌≡◌ {A = ℕ} 0 1 = cc in absurd (let y : ⊥ = omega arith in y)

-- a record that is read has the line of what it says
record_said : (r : List ℕ) (i : ℕ) (p : PlanRecord) → plan_record_of r i ≡ read p → record_text r ≡ said_text p
unfolding plan_record_of record_text
record_said r i p e = go (eqb (get_or r 0 0) class_kind) (blank_at class_parts r 0) (eqb (get_or r 0 0) slot_kind) (blank_at slot_parts r 0) e
  where
    go : (c zc s zs : Bool)
        → pick c (pick zc (read (class_record (class_of r))) (refused 10 0)) (pick s (pick zs (read (slot_record (slot_of r))) (refused 10 0)) (refused 10 0)) ≡ read p
        → pick c (class_text (class_of r)) (slot_text (slot_of r)) ≡ said_text p
    go true true s zs q = let f : class_record (class_of r) ≡ p = cc in ap said_text f
    go true false s zs q = never q
    go false zc true true q = let f : slot_record (slot_of r) ≡ p = cc in ap said_text f
    go false zc true false q = never q
    go false zc false zs q = never q

-- the first of gathered lists by itself
gather_first : (n : ℕ) (f : ℕ → List ℕ) → gather (suc n) f ≡ f 0 ++ gather n (λ k. f (suc k))
unfolding gather
gather_first zero f = sym (append-nil (f 0))
gather_first (suc n) f =
    ap (λ (l : List ℕ). l ++ f (suc n)) (gather_first n f) ∙ append_assoc (f 0) (gather n (λ k. f (suc k))) (f (suc n))

-- n records from record i on
pub record Said (n : ℕ) (f : ℕ → List ℕ) (rs : List PlanRecord) : Type 0 where
  pub lines : gather n f ≡ said_lines rs
  pub count : length rs ≡ n

module _ (plan : List ℕ) where
  from : (n i : ℕ) (f : ℕ → List ℕ) (rs : List PlanRecord) → ((k : ℕ) → k < n → f k ≡ record_text (record_at plan (i + k)))
      → read_from plan_record_of plan i n ≡ read rs → Said n f rs
  unfolding read_from said_lines gather
  from zero i f rs h e = let q : rs ≡ [] = cc in rw q (record { lines = refl; count = refl })
  from (suc n) i f rs h e =
      go (plan_record_of (record_at plan i) i) (read_from plan_record_of plan (suc i) n) refl
      (λ t g. from n (suc i) (λ k. f (suc k)) t (λ k l. h (suc k) (omega arith) ∙ ap (λ (j : ℕ). record_text (record_at plan j)) (next k)) g) e
    where
      next : (k : ℕ) → i + suc k ≡ suc i + k
      next k = omega arith

      go : (one : Reading PlanRecord) (others : Reading (List PlanRecord)) → plan_record_of (record_at plan i) i ≡ one
          → ((t : List PlanRecord) → others ≡ read t → Said n (λ k. f (suc k)) t)
          → and_then one (λ a. and_then others (λ rest. read (a ∷ rest))) ≡ read rs → Said (suc n) f rs
      go (read r) (read t) g later q =
          let all : rs ≡ r ∷ t = cc in
          let here : f 0 ≡ said_text r =
          h 0 (omega arith) ∙ ap (λ (j : ℕ). record_text (record_at plan j)) (add-zero i) ∙ record_said (record_at plan i) i r g in
          rw all (record {
            lines = gather_first n f ∙ ap (λ (l : List ℕ). l ++ gather n (λ k. f (suc k))) here ∙ ap (λ (l : List ℕ). said_text r ++ l) (later t refl).lines;
            count = ap suc (later t refl).count;
          })
      go (read r) (refused number place) g later q = never q
      go (refused number place) others g later q = never q

  -- a record that lies whole in front of other bytes
  record_in_front : (rest : List ℕ) (k : ℕ) → record_size * k + record_size ≤ length plan → record_at (plan ++ rest) k ≡ record_at plan k
  record_in_front rest k h =
      ap (take record_size) (drop-append-le (record_size * k) plan rest (omega arith))
      ∙ take-append-le record_size (drop (record_size * k) plan) rest (omega (arith, length-drop (record_size * k) plan))

  all_said : (rest : List ℕ) (rs : List PlanRecord) → plan_records plan ≡ read rs
      → Said (length plan / record_size) (λ k. record_text (record_at (plan ++ rest) k)) rs
  unfolding plan_records
  all_said rest rs e = go (eqb (length plan % record_size) 0) e
    where
      same : (k : ℕ) → k ≡ 0 + k
      same k = omega arith

      go : (even : Bool) → pick even (read_all plan_record_of plan) (refused 10 0) ≡ read rs
          → Said (length plan / record_size) (λ k. record_text (record_at (plan ++ rest) k)) rs
      go true q =
          from (length plan / record_size) 0 (λ k. record_text (record_at (plan ++ rest) k)) rs
          (λ k l. ap record_text (record_in_front rest k (omega arith)) ∙ ap (λ (j : ℕ). record_text (record_at plan j)) (same k)) q
      go false q = never q

-- the lines of one list of records behind those of another
said_append : (rs ts : List PlanRecord) → said_lines (rs ++ ts) ≡ said_lines rs ++ said_lines ts
unfolding said_lines
said_append [] ts = refl
said_append (r ∷ rs) ts = rw (said_append rs ts) (sym (append_assoc (said_text r) (said_lines rs) (said_lines ts)))

-- "`class` number, doses, W, P; `slot` fan, dose, ..; `total` classes, slots": whatever stands behind the plan in its buffer
pub plan_said : (plan rest : List ℕ) (cs : List Class) (ss : List Slot) → plan_records plan ≡ read (plan_of cs ss)
    → plan_text (plan ++ rest) (length cs) (length ss)
    ≡ (said_lines (map class_record cs) ++ said_lines (map slot_record ss)) ++ total_text (length cs) (length ss)
unfolding plan_text
plan_said plan rest cs ss e =
    let s = all_said plan rest (plan_of cs ss) e in
    let n : length cs + length ss ≡ length plan / record_size =
    omega (arith, s.count, length-append (map class_record cs) (map slot_record ss), length-map cs class_record, length-map ss slot_record) in
    rw (n, s.lines, said_append (map class_record cs) (map slot_record ss))
