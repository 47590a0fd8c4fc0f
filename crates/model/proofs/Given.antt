-- Refusals 2 to 8 and 15 as the table of "What comes back" has them, "given exactly when": a row for each, with its place, and what comes before it
-- passed. `last` is the last bay that is open.
use mathlib.Core.Bool.{Bool, true, false, not, ◌&&◌}
use mathlib.Core.Logic.{◌↔◌, ◌≢◌, ◌⊎◌, inl, inr}
use mathlib.Core.Path.{◌≡◌, refl, sym, ap, ◌∙◌}
use mathlib.Core.List.{List, []}
use Prim.Native.Nat.{ℕ, ◌+◌, ◌/◌, ◌%◌, ◌≤◌, ◌<◌}
use native.Mathlib.Nat.{zero-add}
use native.Mathlib.Omega.{arith}
use borrow.Author.Tests.{eq-eqb, eqb-false, le-leb, lt-leb, ne_eqb}
use lib.Dec.{T, T_not, eqb, eqb_refl, eqb→eq, leb, leb→le, nleb→lt}
use lib.Ieee.Bits.{is_false, is_true}
use lib.ListN.{length, get_or}
use Rattle.model.specs.Limits.{most_bay, most_doses, order_room}
use Rattle.model.specs.Records.{record_size, pick, Reading, read, refused, and_then, dose_kind, fans_parts, dose_parts, blank_at, record_at, read_all}
use Rattle.model.specs.Orders.{Dose, Entry, fans_of, dose_of, fans_fit, dose_fits, bay_open, checked, entry_of, fans_in, doses_in, no_clash, order_in, order_of, read_order}
use Rattle.model.proofs.Orders.{bay_most}
use Rattle.model.proofs.Rests.{FirstOverlap, NoOverlaps, OverlapsEarlier, clash_refuses, first_clash_lem, no_entry}
use Rattle.model.proofs.Readings.{First, Listed, Says, refusal_says, says_pick, says_then, walk_read, walk_refused, walk_says}
use Rattle.model.proofs.Sets.{and_left, and_right}

-- ---- the rows of one record, r its bytes; byte 0 is its kind

-- 3 "kind in an order neither F nor D"
pub record OtherKind (r : List ℕ) : Type 0 where
  pub not_fans : get_or r 0 0 ≢ 0x46
  pub not_dose : get_or r 0 0 ≢ 0x44

-- 4 "a byte that must be zero isn't"
pub data NotBlank (r : List ℕ) : Type 0 where
  in_fans : get_or r 0 0 ≡ 0x46 → T (not (blank_at fans_parts r 0)) → NotBlank r
  in_dose : get_or r 0 0 ≡ 0x44 → T (not (blank_at dose_parts r 0)) → NotBlank r

-- 5 "a field out of range", where all bytes that must be zero are
pub data OutOfRange (r : List ℕ) : Type 0 where
  in_fans : get_or r 0 0 ≡ 0x46 → T (blank_at fans_parts r 0) → T (not (fans_fit (fans_of r))) → OutOfRange r
  in_dose : get_or r 0 0 ≡ 0x44 → T (blank_at dose_parts r 0) → T (not (dose_fits (dose_of r))) → OutOfRange r

-- 15: a D with nothing else wrong, of a bay past the last that is open
pub record ClosedBay (last : ℕ) (r : List ℕ) : Type 0 where
  pub is_dose : get_or r 0 0 ≡ dose_kind
  pub blank : T (blank_at dose_parts r 0)
  pub fits : T (dose_fits (dose_of r))
  pub closed : last < (dose_of r).bay

-- "3, 4, 5 in that order", and 15 "after 5 itself"
pub data RecordRow (last : ℕ) (r : List ℕ) : ℕ → Type 0 where
  kind : OtherKind r → RecordRow last r 3
  blank : NotBlank r → RecordRow last r 4
  range : OutOfRange r → RecordRow last r 5
  bay : ClosedBay last r → RecordRow last r 15

-- ---- the rows of an order

-- 2 is passed
pub record Sized (order : List ℕ) : Type 0 where
  pub whole : length order % record_size ≡ 0
  pub short : length order ≤ order_room

-- record i is there, and all before it are read: "record by record"
pub record Reached (last : ℕ) (order : List ℕ) (i : ℕ) : Type 0 where
  pub sized : Sized order
  pub there : i < length order / record_size
  pub earlier : (k : ℕ) → k < i → (e : Entry) × (entry_of last (record_at order k) k ≡ read e)

-- all records are read: record k says what entry k is
pub record Entries (last : ℕ) (order : List ℕ) (es : List Entry) : Type 0 where
  pub sized : Sized order
  pub count : length es ≡ length order / record_size
  pub each : (k : ℕ) → k < length es → entry_of last (record_at order k) k ≡ read (get_or es k no_entry)

-- the table: number and place
pub data Given (last : ℕ) (order : List ℕ) : ℕ → ℕ → Type 0 where
  -- 2 "order length no multiple of 32, or over 1,600"
  wrong_length : (length order % record_size ≢ 0) ⊎ (order_room < length order) → Given last order 2 0
  -- 3, 4, 5: "Place is the record's index"; 15 "with the record's place"
  wrong_record : (number i : ℕ) → Reached last order i → RecordRow last (record_at order i) number → Given last order number i
  -- 6 "F records not exactly one"
  not_one_fans : (es : List Entry) → Entries last order es → length (fans_in es) ≢ 1 → Given last order 6 0
  -- 7 "more than 24 doses"
  many_doses : (es : List Entry) → Entries last order es → length (fans_in es) ≡ 1 → most_doses < length (doses_in es) → Given last order 7 0
  -- 8: place is "the record index of the first D that overlaps an earlier one"
  overlapping : (es : List Entry) → Entries last order es → length (fans_in es) ≡ 1 → length (doses_in es) ≤ most_doses
      → (i : ℕ) → OverlapsEarlier (order_in es).rest es i → ((k : ℕ) → k < i → OverlapsEarlier (order_in es).rest es k → ⊥) → Given last order 8 i

-- ---- one record

module _ (last : ℕ) (r : List ℕ) (i : ℕ) where
  abbrev AtRecord : ℕ → ℕ → Type 0
  AtRecord number place = RecordRow last r number × (place ≡ i)

  entry_says : Says (entry_of last r i) (λ e. Unit {0}) AtRecord
  unfolding entry_of
  entry_says =
      let fans = eqb (get_or r 0 0) 0x46 in
      let dose = eqb (get_or r 0 0) 0x44 in
      says_pick _ AtRecord fans _ _
      (λ f. kept (blank_at fans_parts r 0) (fans_fit (fans_of r)) true _ (λ u. NotBlank.in_fans (eqb→eq _ _ f) u) (λ b u. OutOfRange.in_fans (eqb→eq _ _ f) b u) (λ b t u. absurd u))
      (λ nf. says_pick _ AtRecord dose _ _
      (λ d. kept (blank_at dose_parts r 0) (dose_fits (dose_of r)) (bay_open last (dose_of r)) _ (λ u. NotBlank.in_dose (eqb→eq _ _ d) u)
      (λ b u. OutOfRange.in_dose (eqb→eq _ _ d) b u) (λ b t u. record { is_dose = eqb→eq _ _ d; blank = b; fits = t; closed = nleb→lt _ _ u }))
      (λ nd. (kind (record { not_fans = λ e. T_not fans nf (test 0x46 e); not_dose = λ e. T_not dose nd (test 0x44 e) }), refl)))
    where
      test : (n : ℕ) → get_or r 0 0 ≡ n → T (eqb (get_or r 0 0) n)
      test n e = rw e (eqb_refl n)

      kept : (clear fits is_open : Bool) (e : Entry) → (T (not clear) → NotBlank r) → (T clear → T (not fits) → OutOfRange r)
          → (T clear → T fits → T (not is_open) → ClosedBay last r) → Says (checked clear fits is_open e i) (λ e. Unit {0}) AtRecord
      kept true true true e f g h = tt
      kept true true false e f g h = (bay (h tt tt tt), refl)
      kept true false is_open e f g h = (range (g tt tt), refl)
      kept false fits is_open e f g h = (blank (f tt), refl)

  -- a row gives its number
  row_refuses : (number : ℕ) → RecordRow last r number → entry_of last r i ≡ refused number i
  unfolding entry_of
  row_refuses number (kind k) = rw (ne_eqb (get_or r 0 0) 0x46 k.not_fans, ne_eqb (get_or r 0 0) 0x44 k.not_dose)
  row_refuses number (blank (NotBlank.in_fans e u)) = rw (eq-eqb (get_or r 0 0) 0x46 e, is_false (blank_at fans_parts r 0) u)
  row_refuses number (blank (NotBlank.in_dose e u)) =
      rw (ne_eqb (get_or r 0 0) 0x46 (λ f. omega arith), eq-eqb (get_or r 0 0) 0x44 e, is_false (blank_at dose_parts r 0) u)
  row_refuses number (range (OutOfRange.in_fans e b u)) =
      rw (eq-eqb (get_or r 0 0) 0x46 e, is_true (blank_at fans_parts r 0) b, is_false (fans_fit (fans_of r)) u)
  row_refuses number (range (OutOfRange.in_dose e b u)) =
      rw (ne_eqb (get_or r 0 0) 0x46 (λ f. omega arith), eq-eqb (get_or r 0 0) 0x44 e, is_true (blank_at dose_parts r 0) b, is_false (dose_fits (dose_of r)) u)
  row_refuses number (bay c) =
      let e = c.is_dose in
      rw (ne_eqb (get_or r 0 0) 0x46 (λ f. omega arith), eq-eqb (get_or r 0 0) 0x44 e, is_true (blank_at dose_parts r 0) c.blank, is_true (dose_fits (dose_of r)) c.fits, lt-leb (dose_of r).bay last c.closed)

  -- record i is refused exactly when its row says, with its index
  pub record_exactly : (number place : ℕ) → (entry_of last r i ≡ refused number place) ↔ (RecordRow last r number × (place ≡ i))
  record_exactly number place = (
    refusal_says _ AtRecord (entry_of last r i) entry_says number place,
    λ row. row_refuses number row.0 ∙ ap (λ (k : ℕ). refused number k) (sym row.1),
  )

-- ---- all rows

module _ (last : ℕ) (order : List ℕ) where
  abbrev sized_test : Bool
  sized_test = eqb (length order % record_size) 0 && leb (length order) order_room

  from_zero : (k : ℕ) → entry_of last (record_at order k) k ≡ entry_of last (record_at order (0 + k)) (0 + k)
  from_zero k = ap (λ (h : ℕ). entry_of last (record_at order h) h) (sym (zero-add k))

  order_says : Says (read_order last order) (λ o. Unit {0}) (Given last order)
  unfolding read_order order_of
  order_says =
      says_pick _ (Given last order) sized_test _ _ (λ t. says_then _ (Given last order) (Entries last order) (read_all (entry_of last) order) order_of (records (sized t)) (λ es g.
      let one = eqb (length (fans_in es)) 1 in
      let few = leb (length (doses_in es)) most_doses in
      says_pick _ (Given last order) one _ _ (λ f.
      says_pick _ (Given last order) few _ _
      (λ d. says_then _ (Given last order) (λ ds. Unit {0}) (no_clash (order_in es).rest [] 0 es) _ (overlaps es g (eqb→eq _ _ f) (leb→le _ _ d) (no_clash (order_in es).rest [] 0 es) (first_clash_lem (order_in es).rest es)) (λ ds u. tt))
      (λ d. many_doses es g (eqb→eq _ _ f) (nleb→lt _ _ d)))
      (λ f. not_one_fans es g (λ e. T_not one f (rw e tt)))))
      (λ t. wrong_length (unsized (eqb (length order % record_size) 0) refl t))
    where
      sized : T sized_test → Sized order
      sized t = record {
        whole = eqb→eq _ _ (and_left (eqb (length order % record_size) 0) (leb (length order) order_room) t);
        short = leb→le _ _ (and_right (eqb (length order % record_size) 0) (leb (length order) order_room) t);
      }

      unsized : (b : Bool) → eqb (length order % record_size) 0 ≡ b → T (not (b && leb (length order) order_room)) → (length order % record_size ≢ 0) ⊎ (order_room < length order)
      unsized true e t = inr (nleb→lt _ _ t)
      unsized false e t = inl (eqb-false _ _ e)

      records : Sized order → Says (read_all (entry_of last) order) (Entries last order) (Given last order)
      records z = go (read_all (entry_of last) order) (walk_says (entry_of last) order no_entry (length order / record_size) 0)
        where
          go : (x : Reading (List Entry)) → Says x (Listed (entry_of last) order no_entry 0 (length order / record_size)) (First (entry_of last) order no_entry 0 (length order / record_size))
              → Says x (Entries last order) (Given last order)
          go (read es) s = record { sized = z; count = s.0; each = λ k l. from_zero k ∙ s.1 k (omega (arith, s.0)) }
          go (refused number place) s =
              let r = refusal_says _ (AtRecord last (record_at order s.0) s.0) _ (entry_says last (record_at order s.0) s.0) number place (from_zero s.0 ∙ s.3) in
              rw r.1 (wrong_record number s.0 (record {
                sized = z;
                there = s.1;
                earlier = λ k l. let e = s.2 k l in (e.0, from_zero k ∙ e.1);
              }) r.0)

      overlaps : (es : List Entry) → Entries last order es → length (fans_in es) ≡ 1 → length (doses_in es) ≤ most_doses
          → (x : Reading (List Dose)) → Says x (NoOverlaps (order_in es).rest es) (FirstOverlap (order_in es).rest es) → Says x (λ ds. Unit {0}) (Given last order)
      overlaps es g one few (read ds) s = tt
      overlaps es g one few (refused number place) s = rw s.0 (overlapping es g one few place s.1 s.2)

  -- 2 is passed
  past_length : Sized order → read_order last order ≡ and_then (read_all (entry_of last) order) order_of
  unfolding read_order
  past_length z = rw (eq-eqb (length order % record_size) 0 z.whole, le-leb (length order) order_room z.short)

  -- 3, 4, 5 and 15 are passed
  past_records : (es : List Entry) → Entries last order es → read_order last order ≡ order_of es
  past_records es g =
      past_length g.sized
      ∙ ap (λ (x : Reading (List Entry)). and_then x order_of)
      (walk_read (entry_of last) order no_entry (length order / record_size) 0 es (g.count, λ k l. sym (from_zero k) ∙ g.each k (omega (arith, g.count))))

  -- a row gives its number and place
  row_given : (number place : ℕ) → Given last order number place → read_order last order ≡ refused number place
  unfolding read_order order_of
  row_given number place (wrong_length w) = elim w [
    | inl h ↦ rw (ne_eqb (length order % record_size) 0 h)
    | inr h ↦ unsized (eqb (length order % record_size) 0) (lt-leb (length order) order_room h)
  ]
    where
      unsized : (b : Bool) → leb (length order) order_room ≡ false → pick (b && leb (length order) order_room) (and_then (read_all (entry_of last) order) order_of) (refused 2 0) ≡ refused 2 0
      unsized true e = rw e
      unsized false e = refl
  row_given number place (wrong_record n i r row) =
      past_length r.sized
      ∙ ap (λ (x : Reading (List Entry)). and_then x order_of)
      (walk_refused (entry_of last) order no_entry (length order / record_size) 0 n i (i, r.there, λ k l. let e = r.earlier k l in (e.0, sym (from_zero k) ∙ e.1), sym (from_zero i) ∙ row_refuses last (record_at order i) i n row))
  row_given number place (not_one_fans es g h) = past_records es g ∙ rw (ne_eqb (length (fans_in es)) 1 h)
  row_given number place (many_doses es g one h) = past_records es g ∙ rw (one, lt-leb (length (doses_in es)) most_doses h)
  row_given number place (overlapping es g one few i o none) = past_records es g ∙ rw (one, le-leb (length (doses_in es)) most_doses few, clash_refuses (order_in es).rest es i o none)

  -- the table: a number and place are given exactly when their row says
  pub given_exactly : (number place : ℕ) → (read_order last order ≡ refused number place) ↔ Given last order number place
  given_exactly number place = (refusal_says _ (Given last order) (read_order last order) order_says number place, row_given number place)

-- the rows have the numbers 2 to 8, and 15 where a bay is closed
pub row_number : {last : ℕ} {order : List ℕ} {number place : ℕ} → Given last order number place
    → ((2 ≤ number) × (number ≤ 8)) ⊎ ((number ≡ 15) × (last < most_bay))
row_number (wrong_length w) = inl (omega arith, omega arith)
row_number (wrong_record n i r (kind k)) = inl (omega arith, omega arith)
row_number (wrong_record n i r (blank b)) = inl (omega arith, omega arith)
row_number (wrong_record n i r (range f)) = inl (omega arith, omega arith)
row_number {order = order} (wrong_record n i r (bay c)) = inr (refl, omega (arith, c.closed, bay_most (dose_of (record_at order i)) c.fits))
row_number (not_one_fans es g h) = inl (omega arith, omega arith)
row_number (many_doses es g one h) = inl (omega arith, omega arith)
row_number (overlapping es g one few i o none) = inl (omega arith, omega arith)
