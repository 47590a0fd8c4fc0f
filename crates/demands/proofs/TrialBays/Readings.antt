-- An order read where bays are open up to one bay, and up to a later one: both readings are the same, or the first is 15 and the order has a dose of a
-- bay past the first one's last. Assumes nothing.
use mathlib.Core.Bool.{Bool, true, false, ◌&&◌}
use mathlib.Core.Logic.{◌↔◌, ◌≢◌, ◌⊎◌, inl, inr}
use mathlib.Core.Path.{◌≡◌, refl, sym, ap, ◌∙◌}
use mathlib.Core.List.{List, ◌∷◌}
use Prim.Native.Nat.{ℕ, zero, suc, ◌/◌, ◌%◌, ◌≤◌, ◌<◌}
use native.Mathlib.Omega.{arith}
use borrow.Author.Tests.{le-leb, lt-leb}
use lib.Dec.{eqb, leb}
use lib.ListN.{length, get_or}
use Rattle.model.specs.Limits.{order_room}
use Rattle.model.specs.Records.{Reading, read, refused, pick, and_then, record_size, fans_kind, dose_kind, dose_parts, blank_at, record_at, read_from}
use Rattle.model.specs.Orders.{Order, Dose, no_dose, dose_at, Entry, fans_entry, dose_entry, dose_of, dose_fits, bay_open, doses_in, entry_of, order_of, read_order}
use Rattle.model.proofs.Fractions.{compare≤}
use Rattle.model.proofs.Orders.{doses_of_records, order_in_lem, read_open}
use Rattle.model.proofs.Readings.{no_refusal, passed, went_on}

-- two readings are one; or the first is refused 15, and what the second reads has Q
abbrev SameOrClosed : {A : Type 0} → (A → Type 0) → Reading A → Reading A → Type 0
SameOrClosed {A} Q x y = (x ≡ y) ⊎ ((i : ℕ) × (x ≡ refused 15 i) × ((a : A) → y ≡ read a → Q a))

module _ {A : Type 0} (Q : A → Type 0) where
  -- behind a test
  same_behind : (b : Bool) (z x y : Reading A) → SameOrClosed Q x y → SameOrClosed Q (pick b z x) (pick b z y)
  same_behind true z x y h = inl refl
  same_behind false z x y h = h

  -- where a test holds
  same_where : (b : Bool) (z x y : Reading A) → SameOrClosed Q x y → SameOrClosed Q (pick b x z) (pick b y z)
  same_where true z x y h = h
  same_where false z x y h = inl refl

  -- before another check
  same_before : {B : Type 0} (R : B → Type 0) (f : B → Reading A) → ((b : B) (a : A) → R b → f b ≡ read a → Q a) → (x y : Reading B)
      → SameOrClosed R x y → SameOrClosed Q (and_then x f) (and_then y f)
  same_before {B} R f k x y (inl e) = inl (ap (λ (z : Reading B). and_then z f) e)
  same_before {B} R f k x y (inr c) =
      inr (c.0, ap (λ (z : Reading B). and_then z f) c.1, λ a q. let w = went_on y f a q in k w.0 a (c.2 w.0 w.1) w.2)

-- one of the doses has a bay past the last
abbrev SomePast : ℕ → List Dose → Type 0
SomePast last ds = (k : ℕ) × (k < length ds) × (last < (get_or ds k no_dose).bay)

-- a record's dose has
unfoldable EntryPast : ℕ → Entry → Type 0
EntryPast last (fans_entry f) = ⊥
EntryPast last (dose_entry d) = last < d.bay

-- then the doses of the records have, in front and behind
past_first : (last : ℕ) (e : Entry) (es : List Entry) → EntryPast last e → SomePast last (doses_in (e ∷ es))
unfolding EntryPast doses_in
past_first last (fans_entry _) es l = elim l [ ]
past_first last (dose_entry d) es l = (0, omega arith, l)

past_later : (last : ℕ) (e : Entry) (es : List Entry) → SomePast last (doses_in es) → SomePast last (doses_in (e ∷ es))
unfolding doses_in
past_later last (fans_entry f) es p = p
past_later last (dose_entry d) es p = (suc p.0, omega (arith, p.1), p.2)

module _ (last later : ℕ) (h : last ≤ later) where
  -- one record
  entry_same : (r : List ℕ) (i : ℕ) → SameOrClosed (EntryPast last) (entry_of last r i) (entry_of later r i)
  unfolding entry_of EntryPast
  entry_same r i =
      same_behind (EntryPast last) (eqb (get_or r 0 0) fans_kind) _ _ _
      (same_where (EntryPast last) (eqb (get_or r 0 0) dose_kind) _ _ _
      (same_where (EntryPast last) (blank_at dose_parts r 0) _ _ _
      (same_where (EntryPast last) (dose_fits (dose_of r)) _ _ _ (bay_same (dose_of r)))))
    where
      same : (a b : Entry) → read a ≡ read b → a ≡ b
      same a b q = cc

      bay_same : (d : Dose) → SameOrClosed (EntryPast last) (pick (bay_open last d) (read (dose_entry d)) (refused 15 i)) (pick (bay_open later d) (read (dose_entry d)) (refused 15 i))
      bay_same d = elim (compare≤ d.bay last) [
        | inl l ↦ inl (rw (le-leb d.bay last l, le-leb d.bay later (omega arith)))
        | inr l ↦ inr (i, rw (lt-leb d.bay last l), λ e q. rw (← same (dose_entry d) e (passed (bay_open later d) (read (dose_entry d)) 15 i e q).1) l)
      ]

  -- records in a row
  from_same : (bytes : List ℕ) (i n : ℕ) → SameOrClosed (λ es. SomePast last (doses_in es)) (read_from (entry_of last) bytes i n) (read_from (entry_of later) bytes i n)
  unfolding read_from
  from_same bytes i zero = inl refl
  from_same bytes i (suc n) = elim (entry_same (record_at bytes i) i) [
    | inl e ↦ rw e (behind (from_same bytes (suc i) n) (entry_of later (record_at bytes i) i))
    | inr c ↦ inr (
      c.0,
      rw c.1,
      λ es q.
          let w = went_on (entry_of later (record_at bytes i) i) _ es q in
          let v = went_on (read_from (entry_of later) bytes (suc i) n) _ es w.2 in
          rw (← same (w.0 ∷ v.0) es v.2) (past_first last w.0 v.0 (c.2 w.0 w.1)),
    )
  ]
    where
      same : (a b : List Entry) → read a ≡ read b → a ≡ b
      same a b q = cc

      behind : {y z : Reading (List Entry)} → SameOrClosed (λ es. SomePast last (doses_in es)) y z → (x : Reading Entry)
          → SameOrClosed (λ es. SomePast last (doses_in es)) (and_then x (λ a. and_then y (λ l. read (a ∷ l)))) (and_then x (λ a. and_then z (λ l. read (a ∷ l))))
      behind next (read a) =
          same_before (λ es. SomePast last (doses_in es)) (λ es. SomePast last (doses_in es)) (λ l. read (a ∷ l)) (λ l es p q. rw (← same (a ∷ l) es q) (past_later last a l p)) _ _ next
      behind next (refused number place) = inl refl

  -- an order
  pub read_same : (order : List ℕ) → SameOrClosed (λ o. SomePast last o.doses) (read_order last order) (read_order later order)
  unfolding read_order
  read_same order =
      same_where (λ o. SomePast last o.doses) (eqb (length order % record_size) 0 && leb (length order) order_room) _ _ _
      (same_before (λ o. SomePast last o.doses) (λ es. SomePast last (doses_in es)) order_of
      (λ es o p e. rw (order_in_lem es o e, doses_of_records es) p) _ _ (from_same order 0 (length order / record_size)))

  -- what is read with the first is read with the later
  pub reads_later : (order : List ℕ) (o : Order) → read_order last order ≡ read o → read_order later order ≡ read o
  reads_later order o e = elim (read_same order) [ inl q ↦ sym q ∙ e | inr c ↦ absurd (no_refusal 15 c.0 o (sym c.1 ∙ e)) ]

  -- and what is refused, but not by 15, is refused so too
  pub refused_later : (order : List ℕ) (number place : ℕ) → read_order last order ≡ refused number place → number ≢ 15 → read_order later order ≡ refused number place
  refused_later order number place e n = elim (read_same order) [ inl q ↦ sym q ∙ e | inr c ↦ absurd (n (let f = c.1 in cc)) ]

  -- what is read with the later is read with the first exactly if no dose has a bay past its last
  pub read_exactly : (order : List ℕ) (o : Order) → read_order later order ≡ read o
      → (read_order last order ≡ read o) ↔ ((k : ℕ) → k < length o.doses → (dose_at o k).bay ≤ last)
  read_exactly order o e = (
    read_open last order o,
    λ below. elim (read_same order) [ inl q ↦ q ∙ e | inr c ↦ let p = c.2 o e in absurd (omega (arith, p.2, below p.0 p.1)) ],
  )
