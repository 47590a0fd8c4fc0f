-- The rule that an F names: from its byte to the order's rest, out of its range, and another rule in its place. Assumes nothing.
use mathlib.Core.Bool.{Bool, true, false, not, ◌&&◌}
use mathlib.Core.Logic.{◌⊎◌, inl, inr}
use mathlib.Core.Path.{◌≡◌, refl, sym, ap, ◌∙◌}
use mathlib.Core.List.{List, [], ◌∷◌, ◌++◌, map}
use Prim.Native.Nat.{ℕ, zero, suc, ◌/◌, ◌%◌, ◌≤◌, ◌<◌}
use native.Mathlib.Omega.{arith}
use borrow.Author.Tests.{eq-eqb, le-leb, lt-leb}
use lib.Dec.{T, eqb, eqb→eq, leb, leb→le}
use lib.ListN.{get_or, length}
use Rattle.model.specs.Limits.{last_rule, most_doses, most_fans, most_top, order_room, valve_rest}
use Rattle.model.specs.Records.{Reading, read, refused, pick, within, and_then, record_size, fans_kind, fans_parts, number_at, fields_at, blank_at, record_at, read_all}
use Rattle.model.specs.Orders.{Order, Fans, Dose, Entry, fans_entry, dose_entry, fans_of, fans_fit, entry_of, fans_in, doses_in, clashes_any, no_clash, rest_by, order_with, order_in, order_of, read_order}
use Rattle.model.proofs.Given.{OutOfRange, range, record_exactly}
use Rattle.model.proofs.Orders.{order_in_lem}
use Rattle.model.proofs.Readings.{all_listed, passed, went_on}
use Rattle.model.proofs.Rests.{apart_shorter, no_entry}
use Rattle.demands.proofs.Season.OneFans.{checked_is}

-- ---- the rule of a record

-- byte 2 is the rule
rule_byte : (r : List ℕ) → (fans_of r).rule ≡ get_or r 2 0
unfolding fields_at number_at
rule_byte r = omega arith

-- above the last rule it is out of range
pub rule_out_of_range : (last : ℕ) (r : List ℕ) (i : ℕ) → get_or r 0 0 ≡ fans_kind → T (blank_at fans_parts r 0) → last_rule < get_or r 2 0 → entry_of last r i ≡ refused 5 i
rule_out_of_range last r i kind clear above = (record_exactly last r i 5 i).1 (range (OutOfRange.in_fans kind clear unfit), refl)
  where
    f : Fans
    f = fans_of r

    out : (a c d : Bool) → not (a && false && c && d) ≡ true
    out true c d = refl
    out false c d = refl

    unfit : T (not (fans_fit f))
    unfit =
        let b : leb f.rule last_rule ≡ false = lt-leb f.rule last_rule (omega (arith, rule_byte r)) in
        rw (b, out (within 1 most_fans f.fans) (within 1 most_top f.top_grams) (within 1 most_top f.top_seconds)) tt

-- ---- the rule of an order

-- the records of an order that was read
records_of : (last : ℕ) (order : List ℕ) (o : Order) → read_order last order ≡ read o
    → (es : List Entry) × (read_all (entry_of last) order ≡ read es) × (order_of es ≡ read o)
unfolding read_order
records_of last order o q =
    went_on (read_all (entry_of last) order) order_of o (passed (eqb (length order % record_size) 0 && leb (length order) order_room) _ 2 0 o q).1

-- an F record among them
read_as_fans : (last : ℕ) (r : List ℕ) (i : ℕ) (e : Entry) → get_or r 0 0 ≡ fans_kind → entry_of last r i ≡ read e → e ≡ fans_entry (fans_of r)
unfolding entry_of
read_as_fans last r i e kind q =
    sym (checked_is (blank_at fans_parts r 0) (fans_fit (fans_of r)) true (fans_entry (fans_of r)) i e (rw (eq-eqb (get_or r 0 0) fans_kind kind) at q))

-- where one F is among the records, it is the one that is found there
some_fans : (es : List Entry) (k : ℕ) (f : Fans) → k < length es → get_or es k no_entry ≡ fans_entry f → 1 ≤ length (fans_in es)
unfolding fans_in
some_fans [] k f l e = absurd (omega arith)
some_fans (fans_entry g ∷ es) k f l e = omega arith
some_fans (dose_entry d ∷ es) zero f l e = let z : ◌≡◌ {A = ℕ} 0 1 = cc in absurd (omega arith)
some_fans (dose_entry d ∷ es) (suc k) f l e = some_fans es k f (omega arith) e

one_fans_lem : (es : List Entry) (k : ℕ) (f : Fans) → k < length es → get_or es k no_entry ≡ fans_entry f → length (fans_in es) ≡ 1
    → (ds : List Dose) → (order_with (fans_in es) ds).rest ≡ rest_by f.rule
unfolding fans_in
one_fans_lem [] k f l e one ds = absurd (omega arith)
one_fans_lem (fans_entry g ∷ es) zero f l e one ds = let same : g ≡ f = cc in ap (λ (x : Fans). rest_by x.rule) same
one_fans_lem (fans_entry g ∷ es) (suc k) f l e one ds = absurd (omega (arith, some_fans es k f (omega arith) e))
one_fans_lem (dose_entry d ∷ es) zero f l e one ds = let z : ◌≡◌ {A = ℕ} 0 1 = cc in absurd (omega arith)
one_fans_lem (dose_entry d ∷ es) (suc k) f l e one ds = one_fans_lem es k f (omega arith) e one ds

pub rest_named : (last : ℕ) (order : List ℕ) (o : Order) → read_order last order ≡ read o
    → (i : ℕ) → i < length order / record_size → get_or (record_at order i) 0 0 ≡ fans_kind → o.rest ≡ rest_by (get_or (record_at order i) 2 0)
unfolding order_of
rest_named last order o q i l kind =
    let records = records_of last order o q in
    let es = records.0 in
    let listed = all_listed (entry_of last) order no_entry es records.1 in
    let one = eqb→eq (length (fans_in es)) 1 (passed (eqb (length (fans_in es)) 1) _ 6 0 o records.2).0 in
    ap (λ (x : Order). x.rest) (order_in_lem es o records.2)
    ∙ one_fans_lem es i (fans_of (record_at order i)) (omega (arith, listed.0)) (read_as_fans last (record_at order i) i (get_or es i no_entry) kind (listed.1 i l)) one (doses_in es)
    ∙ ap rest_by (rule_byte (record_at order i))

pub two_rests : (last : ℕ) (order : List ℕ) (o : Order) → read_order last order ≡ read o → (o.rest ≡ 0) ⊎ (o.rest ≡ valve_rest)
two_rests last order o q =
    let records = records_of last order o q in
    rw (order_in_lem records.0 o records.2) (either (fans_in records.0) (doses_in records.0))
  where
    by_test : (b : Bool) → (pick b 0 valve_rest ≡ 0) ⊎ (pick b 0 valve_rest ≡ valve_rest)
    by_test true = inl refl
    by_test false = inr refl

    either : (fs : List Fans) (ds : List Dose) → ((order_with fs ds).rest ≡ 0) ⊎ ((order_with fs ds).rest ≡ valve_rest)
    either [] ds = inl refl
    either (f ∷ fs) ds = by_test (eqb f.rule 0)

-- ---- another rule

-- a record with another rule, where it is an F
unfoldable pub by_rule : ℕ → Entry → Entry
by_rule rule (fans_entry f) = fans_entry (record { fans = f.fans; rule = rule; top_grams = f.top_grams; top_seconds = f.top_seconds })
by_rule rule (dose_entry d) = dose_entry d

-- an order with another rest
abbrev pub resting : ℕ → Order → Order
resting rest o = record { fans = o.fans; rest = rest; top_grams = o.top_grams; top_seconds = o.top_seconds; doses = o.doses }

module _ (rule : ℕ) where
  abbrev ruled : List Entry → List Entry
  ruled = map (by_rule rule)

  count_ruled : (es : List Entry) → length (fans_in (ruled es)) ≡ length (fans_in es)
  unfolding fans_in by_rule
  count_ruled [] = refl
  count_ruled (fans_entry f ∷ es) = ap suc (count_ruled es)
  count_ruled (dose_entry d ∷ es) = count_ruled es

  doses_ruled : (es : List Entry) → doses_in (ruled es) ≡ doses_in es
  unfolding doses_in by_rule
  doses_ruled [] = refl
  doses_ruled (fans_entry f ∷ es) = doses_ruled es
  doses_ruled (dose_entry d ∷ es) = ap (λ (l : List Dose). d ∷ l) (doses_ruled es)

  clash_ruled : (rest : ℕ) (earlier : List Dose) (i : ℕ) (es : List Entry) → no_clash rest earlier i (ruled es) ≡ no_clash rest earlier i es
  unfolding no_clash by_rule
  clash_ruled rest earlier i [] = refl
  clash_ruled rest earlier i (fans_entry f ∷ es) = clash_ruled rest earlier (suc i) es
  clash_ruled rest earlier i (dose_entry d ∷ es) = ap (λ (x : Reading (List Dose)). pick (clashes_any rest d earlier) (refused 8 i) x) (clash_ruled rest (earlier ++ d ∷ []) (suc i) es)

  order_ruled : (es : List Entry) (ds : List Dose) → 1 ≤ length (fans_in es) → order_with (fans_in (ruled es)) ds ≡ resting (rest_by rule) (order_with (fans_in es) ds)
  unfolding fans_in by_rule
  order_ruled [] ds l = absurd (omega arith)
  order_ruled (fans_entry f ∷ es) ds l = refl
  order_ruled (dose_entry d ∷ es) ds l = order_ruled es ds l

  -- the same order with its rest, where that is no longer
  pub rule_shorter : (es : List Entry) (o : Order) → order_of es ≡ read o → rest_by rule ≤ o.rest → order_of (ruled es) ≡ read (resting (rest_by rule) o)
  unfolding order_of
  rule_shorter es o q less =
      let is = passed (eqb (length (fans_in es)) 1) _ 6 0 o q in
      let few = passed (leb (length (doses_in es)) most_doses) _ 7 0 o is.1 in
      let free = went_on (no_clash (order_in es).rest [] 0 es) _ o few.1 in
      let one : length (fans_in es) ≡ 1 = eqb→eq _ _ is.0 in
      let ds = free.0 in
      let rest : (order_in (ruled es)).rest ≡ rest_by rule = ap (λ (x : Order). x.rest) (order_ruled es (doses_in (ruled es)) (omega arith)) in
      let still : no_clash (rest_by rule) [] 0 es ≡ read ds = apart_shorter (rest_by rule) (order_in es).rest (omega (arith, ap (λ (x : Order). x.rest) (order_in_lem es o q))) es ds free.1 in
      let apart : no_clash (order_in (ruled es)).rest [] 0 (ruled es) ≡ read ds =
      ap (λ (n : ℕ). no_clash n [] 0 (ruled es)) rest ∙ clash_ruled (rest_by rule) [] 0 es ∙ still in
      past (length (fans_in (ruled es))) (length (doses_in (ruled es))) (count_ruled es ∙ one) (rw (doses_ruled es) (leb→le _ _ few.0)) _
      ∙ ap (λ (x : Reading (List Dose)). and_then x (λ l. read (order_with (fans_in (ruled es)) l))) apart
      ∙ ap read (order_ruled es ds (omega arith) ∙ ap (resting (rest_by rule)) (same ds free.2))
    where
      past : (h n : ℕ) → h ≡ 1 → n ≤ most_doses → (x : Reading Order) → pick (eqb h 1) (pick (leb n most_doses) x (refused 7 0)) (refused 6 0) ≡ x
      past h n e l x = rw (eq-eqb h 1 e, le-leb n most_doses l)

      same : (ds : List Dose) → read (order_with (fans_in es) ds) ≡ read o → order_with (fans_in es) ds ≡ o
      same ds z = cc
