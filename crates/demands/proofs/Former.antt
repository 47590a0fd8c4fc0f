-- How an order was read before document 02 changed its reading, in the words of the definitions then: before trial bays were closed (C-14) and before
-- byte 2 of an F named a rule (C-16); and that a stored order is read so still. Assumes nothing.
use mathlib.Core.Bool.{Bool, true, false, ◌&&◌}
use mathlib.Core.Path.{◌≡◌, refl, sym, ap, ap₂, subst, ◌∙◌, fun_ext}
use mathlib.Core.List.{List, [], ◌∷◌}
use Prim.Native.Nat.{ℕ, zero, suc, ◌+◌, ◌/◌, ◌%◌, ◌<◌}
use native.Mathlib.Omega.{arith}
use borrow.Author.Tests.{eq-eqb, le-leb, ne_eqb}
use lib.Dec.{T, eqb, eqb→eq, leb}
use lib.ListN.{get_or, length}
use Rattle.model.specs.Limits.{most_bay, most_doses, most_fans, most_top, order_room}
use Rattle.model.specs.Lists.{All, none, also}
use Rattle.model.specs.Records.{Part, field, blank, Reading, read, refused, pick, within, and_then, record_size, dose_kind, fans_kind, dose_parts, fans_parts, number_at, fields_at, blank_at, field_of, record_at, read_from, read_all}
use Rattle.model.specs.Orders.{Order, Fans, Dose, Entry, fans_entry, dose_entry, fans_of, dose_of, fans_fit, dose_fits, bay_open, checked, entry_of, fans_in, doses_in, no_clash, rest_by, order_with, order_of, read_order}
use Rattle.model.proofs.Sets.{and_left}
use Rattle.model.proofs.Orders.{bay_most}
use Rattle.model.proofs.Readings.{all_listed, all_read, passed, went_on}
use Rattle.model.proofs.Rests.{no_entry}
use Rattle.demands.proofs.Season.OneFans.{checked_is}

-- ---- the definitions then

-- "F (0x46) fans: 1 number of fans; 4-7 top grams, 8-11 top seconds": bytes 2 and 3 were not named, so they had to be zero
abbrev pub former_fans_parts : List Part
former_fans_parts = field 1 ∷ field 1 ∷ blank 2 ∷ field 4 ∷ field 4 ∷ blank 20 ∷ []

-- the fields of an F record; what is read so now has rule 0
abbrev pub former_fans_of : List ℕ → Fans
former_fans_of r = record { fans = field_of former_fans_parts r 1; rule = 0; top_grams = field_of former_fans_parts r 2; top_seconds = field_of former_fans_parts r 3 }

-- "number of fans, 1 to 8; top grams, top seconds, each 1 to 1,000,000"
abbrev pub former_fans_fit : Fans → Bool
former_fans_fit f = within 1 most_fans f.fans && within 1 most_top f.top_grams && within 1 most_top f.top_seconds

-- a record of known kind: 4 "a byte that must be zero isn't", then 5 "a field out of range"
abbrev pub former_checked : Bool → Bool → Entry → ℕ → Reading Entry
former_checked clear fits e i = pick clear (pick fits (read e) (refused 5 i)) (refused 4 i)

-- a D record in document 01
abbrev pub former_dose : List ℕ → ℕ → Reading Entry
former_dose r i = former_checked (blank_at dose_parts r 0) (dose_fits (dose_of r)) (dose_entry (dose_of r)) i

-- and since C-14: 15 behind 5
abbrev pub dose_up_to : ℕ → List ℕ → ℕ → Reading Entry
dose_up_to last r i = checked (blank_at dose_parts r 0) (dose_fits (dose_of r)) (bay_open last (dose_of r)) (dose_entry (dose_of r)) i

-- record i from its bytes: 3 "kind in an order neither F nor D", then 4, then 5; a D as `dose` has it
abbrev pub former_entry : (List ℕ → ℕ → Reading Entry) → List ℕ → ℕ → Reading Entry
former_entry dose r i =
    pick (eqb (get_or r 0 0) fans_kind) (former_checked (blank_at former_fans_parts r 0) (former_fans_fit (former_fans_of r)) (fans_entry (former_fans_of r)) i)
    (pick (eqb (get_or r 0 0) dose_kind) (dose r i) (refused 3 i))

-- 6, 7, and 8 by "overlapping windows (touching is allowed)"
abbrev pub former_order_of : List Entry → Reading Order
former_order_of es =
    pick (eqb (length (fans_in es)) 1)
    (pick (leb (length (doses_in es)) most_doses) (and_then (no_clash 0 [] 0 es) (λ ds. read (order_with (fans_in es) ds))) (refused 7 0))
    (refused 6 0)

-- 2, "then record by record 3, 4, 5 in that order, then 6, 7, 8"
abbrev pub former_order : (List ℕ → ℕ → Reading Entry) → List ℕ → Reading Order
former_order dose bytes =
    pick (eqb (length bytes % record_size) 0 && leb (length bytes) order_room) (and_then (read_all (former_entry dose) bytes) former_order_of) (refused 2 0)

-- "Byte 2 of F, zero until now": so it is in every F of a stored order
abbrev pub RuleZero : List ℕ → Type 0
RuleZero order = (i : ℕ) → i < length order / record_size → get_or (record_at order i) 0 0 ≡ fans_kind → get_or (record_at order i) 2 0 ≡ 0

-- ---- one record

-- tests of two numbers that are zero together
zero_alike : (a b : ℕ) → (a ≡ 0 → b ≡ 0) → (b ≡ 0 → a ≡ 0) → eqb a 0 ≡ eqb b 0
zero_alike a zero f g = eq-eqb a 0 (g refl)
zero_alike a (suc b) f g = ne_eqb a 0 (λ e. let z = f e in omega arith) ∙ sym (ne_eqb (suc b) 0 (λ e. omega arith))

-- an F with byte 2 zero
module _ (r : List ℕ) (e : get_or r 2 0 ≡ 0) where
  blank_same : blank_at fans_parts r 0 ≡ blank_at former_fans_parts r 0
  unfolding blank_at number_at
  blank_same = ap (λ (b : Bool). b && blank_at (blank 20 ∷ []) r 12) (zero_alike (number_at r 3 1) (number_at r 2 2) (λ z. omega arith) (λ z. omega arith))

  fields_same : fans_of r ≡ former_fans_of r
  unfolding fields_at number_at
  fields_same = ap (λ (n : ℕ). record { fans = field_of fans_parts r 1; rule = n; top_grams = field_of fans_parts r 3; top_seconds = field_of fans_parts r 4 }) (omega arith)

  fit_same : fans_fit (former_fans_of r) ≡ former_fans_fit (former_fans_of r)
  fit_same = go (within 1 most_fans (former_fans_of r).fans) _ _
    where
      go : (b x y : Bool) → b && true && x && y ≡ b && x && y
      go true x y = refl
      go false x y = refl

  fans_same : (i : ℕ) → checked (blank_at fans_parts r 0) (fans_fit (fans_of r)) true (fans_entry (fans_of r)) i
      ≡ former_checked (blank_at former_fans_parts r 0) (former_fans_fit (former_fans_of r)) (fans_entry (former_fans_of r)) i
  fans_same i =
      ap (λ (f : Fans). checked (blank_at fans_parts r 0) (fans_fit f) true (fans_entry f) i) fields_same
      ∙ ap₂ (λ clear fits. former_checked clear fits (fans_entry (former_fans_of r)) i) blank_same fit_same

-- an F that was read had byte 2 zero
fans_was : (r : List ℕ) → T (blank_at former_fans_parts r 0) → get_or r 2 0 ≡ 0
unfolding blank_at number_at
fans_was r t =
    let z = eqb→eq (number_at r 2 2) 0 (and_left (eqb (number_at r 2 2) 0) (blank_at (blank 20 ∷ []) r 12) t) in
    omega arith

-- a record of a stored order
entry_same : (last : ℕ) (r : List ℕ) (i : ℕ) → (get_or r 0 0 ≡ fans_kind → get_or r 2 0 ≡ 0) → entry_of last r i ≡ former_entry (dose_up_to last) r i
unfolding entry_of
entry_same last r i z = go (eqb (get_or r 0 0) fans_kind) refl
  where
    now : Reading Entry
    now = checked (blank_at fans_parts r 0) (fans_fit (fans_of r)) true (fans_entry (fans_of r)) i

    then : Reading Entry
    then = former_checked (blank_at former_fans_parts r 0) (former_fans_fit (former_fans_of r)) (fans_entry (former_fans_of r)) i

    others : Reading Entry
    others = pick (eqb (get_or r 0 0) dose_kind) (dose_up_to last r i) (refused 3 i)

    go : (b : Bool) → eqb (get_or r 0 0) fans_kind ≡ b → pick b now others ≡ pick b then others
    go true e = fans_same r (z (eqb→eq _ _ (rw e tt))) i
    go false e = refl

-- a D: a bay that is in its range is open where all are
dose_same : (r : List ℕ) (i : ℕ) → dose_up_to most_bay r i ≡ former_dose r i
dose_same r i = ap (λ (x : Reading Entry). pick (blank_at dose_parts r 0) x (refused 4 i)) (in_its_range (dose_fits (dose_of r)) refl)
  where
    in_its_range : (b : Bool) → dose_fits (dose_of r) ≡ b
        → pick b (pick (bay_open most_bay (dose_of r)) (read (dose_entry (dose_of r))) (refused 15 i)) (refused 5 i) ≡ pick b (read (dose_entry (dose_of r))) (refused 5 i)
    in_its_range false e = refl
    in_its_range true e =
        let d = dose_of r in
        let fits : T (dose_fits d) = rw e tt in
        rw (le-leb d.bay most_bay (bay_most d fits))

-- ---- all records

-- records that two readers read alike
read_alike : {A : Type 0} (each each' : List ℕ → ℕ → Reading A) (bytes : List ℕ) (n i : ℕ)
    → ((k : ℕ) → k < i + n → each (record_at bytes k) k ≡ each' (record_at bytes k) k) → read_from each bytes i n ≡ read_from each' bytes i n
unfolding read_from
read_alike each each' bytes zero i h = refl
read_alike each each' bytes (suc n) i h =
    ap₂ (λ x y. and_then x (λ a. and_then y (λ rest. read (a ∷ rest)))) (h i (omega arith)) (read_alike each each' bytes n (suc i) (λ k l. h k (omega arith)))

-- what is read so names rule 0
unfoldable NamesZero : Entry → Type 0
NamesZero (fans_entry f) = f.rule ≡ 0
NamesZero (dose_entry d) = Unit {0}

module _ (last : ℕ) where
  entry_zero : (r : List ℕ) (i : ℕ) (e : Entry) → former_entry (dose_up_to last) r i ≡ read e → NamesZero e
  unfolding NamesZero
  entry_zero r i e = go (eqb (get_or r 0 0) fans_kind) (eqb (get_or r 0 0) dose_kind)
    where
      fans : Fans
      fans = former_fans_of r

      dose : Dose
      dose = dose_of r

      go : (f d : Bool) → pick f (former_checked (blank_at former_fans_parts r 0) (former_fans_fit fans) (fans_entry fans) i) (pick d (dose_up_to last r i) (refused 3 i)) ≡ read e
          → NamesZero e
      go true d q = subst NamesZero (checked_is (blank_at former_fans_parts r 0) (former_fans_fit fans) true (fans_entry fans) i e q) refl
      go false d q =
          let is_dose = passed d _ 3 i e q in
          subst NamesZero (checked_is (blank_at dose_parts r 0) (dose_fits dose) (bay_open last dose) (dose_entry dose) i e is_dose.1) tt

-- and has no rest
rest_zero : (es : List Entry) (ds : List Dose) → All NamesZero es → (order_with (fans_in es) ds).rest ≡ 0
unfolding NamesZero fans_in
rest_zero [] ds none = refl
rest_zero (fans_entry f ∷ es) ds (also z a) = ap rest_by z
rest_zero (dose_entry d ∷ es) ds (also z a) = rest_zero es ds a

order_same : (es : List Entry) → All NamesZero es → order_of es ≡ former_order_of es
unfolding order_of
order_same es a =
    ap (λ (rest : ℕ). pick (eqb (length (fans_in es)) 1)
    (pick (leb (length (doses_in es)) most_doses) (and_then (no_clash rest [] 0 es) (λ ds. read (order_with (fans_in es) ds))) (refused 7 0))
    (refused 6 0))
    (rest_zero es (doses_in es) a)

-- ---- an order

-- "stored orders read as they did"
pub former_order_lem : (last : ℕ) (order : List ℕ) → RuleZero order → read_order last order ≡ former_order (dose_up_to last) order
unfolding read_order
former_order_lem last order z =
    ap (λ (x : Reading (List Entry)). pick sized (and_then x order_of) (refused 2 0))
    (read_alike (entry_of last) former order n 0 (λ k l. entry_same last (record_at order k) k (z k (omega (arith, l)))))
    ∙ ap (λ (y : Reading Order). pick sized y (refused 2 0)) (go (read_all former order) refl)
  where
    sized : Bool
    sized = eqb (length order % record_size) 0 && leb (length order) order_room

    n : ℕ
    n = length order / record_size

    former : List ℕ → ℕ → Reading Entry
    former = former_entry (dose_up_to last)

    go : (x : Reading (List Entry)) → read_all former order ≡ x → and_then x order_of ≡ and_then x former_order_of
    go (read es) e = order_same es (all_read NamesZero former (entry_zero last) order 0 n es e)
    go (refused number place) e = refl

-- where all bays are open, as document 01 read it
pub document_01_order : (order : List ℕ) → RuleZero order → read_order most_bay order ≡ former_order former_dose order
document_01_order order z =
    former_order_lem most_bay order z ∙ ap (λ (dose : List ℕ → ℕ → Reading Entry). former_order dose order) (fun_ext (λ r. fun_ext (λ i. dose_same r i)))

-- every order that was read then has byte 2 of its F zero
pub was_read : (dose : List ℕ → ℕ → Reading Entry) (order : List ℕ) (o : Order) → former_order dose order ≡ read o → RuleZero order
was_read dose order o q i l kind =
    let r = record_at order i in
    let records = went_on (read_all (former_entry dose) order) former_order_of o (passed (eqb (length order % record_size) 0 && leb (length order) order_room) _ 2 0 o q).1 in
    let es = records.0 in
    let at : former_entry dose r i ≡ read (get_or es i no_entry) = (all_listed (former_entry dose) order no_entry es records.1).1 i l in
    fans_was r (passed (blank_at former_fans_parts r 0) _ 4 i (get_or es i no_entry) (rw (eq-eqb (get_or r 0 0) fans_kind kind) at at)).0
