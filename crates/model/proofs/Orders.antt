-- What is known of an order that was read: every field is in its range, every bay is open, and windows of one bay are apart. Assumes nothing.
use mathlib.Core.Path.{◌≡◌, refl, sym, ap, ◌∙◌}
use mathlib.Core.Bool.{Bool, true, false, ◌&&◌}
use mathlib.Core.Logic.{◌≢◌, ◌⊎◌, inl, inr}
use mathlib.Core.List.{List, [], ◌∷◌}
use Prim.Native.Nat.{ℕ, ◌+◌, ◌/◌, ◌%◌, ◌≤◌, ◌<◌}
use native.Mathlib.Nat.{eq-or-lt_of_le}
use native.Mathlib.Omega.{arith}
use lib.Dec.{T, eqb, leb, leb→le, eqb→eq}
use lib.ListN.{length, get_or}
use Rattle.model.specs.Limits.{last_release, last_rule, most_bay, most_doses, most_fans, most_grams, most_top, order_room, week}
use Rattle.model.specs.Lists.{All, none, also, Pairs, lone}
use Rattle.model.specs.Records.{record_size, pick, within, Reading, read, refused, fans_parts, dose_parts, blank_at, read_all}
use Rattle.model.specs.Orders.{Fans, Dose, Order, no_dose, dose_at, Entry, fans_entry, dose_entry, fans_of, dose_of, fans_fit, dose_fits, bay_open, checked, entry_of, fans_in, doses_in, no_clash, rest_by, order_with, order_in, order_of, read_order}
use Rattle.model.proofs.Sets.{and_left, and_right}
use Rattle.model.proofs.Fractions.{compare≤}
use Rattle.model.proofs.Readings.{passed, went_on, all_read}
use Rattle.model.proofs.Rests.{NoClash, apart_windows, clear, doses_read}
use Rattle.model.proofs.Lists.{All-at, Pairs-at}

-- ---- one record

-- the fields of a record of an order are in their ranges, and its bay is open
unfoldable pub EntryFits : ℕ → Entry → Type 0
EntryFits last (fans_entry f) = T (fans_fit f)
EntryFits last (dose_entry d) = T (dose_fits d) × T (bay_open last d)

entry_fits : (last : ℕ) (r : List ℕ) (i : ℕ) (e : Entry) → entry_of last r i ≡ read e → EntryFits last e
unfolding entry_of EntryFits
entry_fits last r i e q = go (eqb (get_or r 0 0) 0x46) q
  where
    same : (a b : Entry) → read a ≡ read b → a ≡ b
    same a b z = cc

    dose : Reading Entry
    dose = checked (blank_at dose_parts r 0) (dose_fits (dose_of r)) (bay_open last (dose_of r)) (dose_entry (dose_of r)) i

    other : (b : Bool) → pick b dose (refused 3 i) ≡ read e → EntryFits last e
    other b z =
        let x = passed b _ 3 i e z in
        let y = passed (blank_at dose_parts r 0) _ 4 i e x.1 in
        let w = passed (dose_fits (dose_of r)) _ 5 i e y.1 in
        let v = passed (bay_open last (dose_of r)) _ 15 i e w.1 in
        rw (← same (dose_entry (dose_of r)) e v.1) (w.0, v.0)

    go : (b : Bool) → pick b (checked (blank_at fans_parts r 0) (fans_fit (fans_of r)) true (fans_entry (fans_of r)) i)
        (pick (eqb (get_or r 0 0) 0x44) dose (refused 3 i)) ≡ read e → EntryFits last e
    go true z =
        let y = passed (blank_at fans_parts r 0) _ 4 i e z in
        let w = passed (fans_fit (fans_of r)) _ 5 i e y.1 in
        rw (← same (fans_entry (fans_of r)) e w.1) w.0
    go false z = other (eqb (get_or r 0 0) 0x44) z

-- ---- all records

fans_fit_lem : (last : ℕ) (es : List Entry) → All (EntryFits last) es → All (λ f. T (fans_fit f)) (fans_in es)
unfolding fans_in EntryFits
fans_fit_lem last [] none = none
fans_fit_lem last (fans_entry f ∷ es) (also p a) = also p (fans_fit_lem last es a)
fans_fit_lem last (dose_entry d ∷ es) (also p a) = fans_fit_lem last es a

doses_fit : (last : ℕ) (es : List Entry) → All (EntryFits last) es → All (λ d. T (dose_fits d) × T (bay_open last d)) (doses_in es)
unfolding doses_in EntryFits
doses_fit last [] none = none
doses_fit last (fans_entry f ∷ es) (also p a) = doses_fit last es a
doses_fit last (dose_entry d ∷ es) (also p a) = also p (doses_fit last es a)

-- ---- the order

-- every field of the order is in its range, and windows of one bay have the order's rest between them
pub record Fit (o : Order) : Type 0 where
  pub fans_least : 1 ≤ o.fans
  pub fans_most : o.fans ≤ most_fans
  pub top_grams : 1 ≤ o.top_grams
  pub top_seconds : 1 ≤ o.top_seconds
  pub few : length o.doses ≤ most_doses
  pub window : (k : ℕ) → k < length o.doses → (dose_at o k).release < (dose_at o k).deadline
  pub week : (k : ℕ) → k < length o.doses → (dose_at o k).deadline ≤ week
  pub some_grams : (k : ℕ) → k < length o.doses → 1 ≤ (dose_at o k).grams
  pub light : (k : ℕ) → k < length o.doses → (dose_at o k).grams ≤ most_grams
  pub inlets : (i k : ℕ) → i < k → k < length o.doses → (dose_at o i).bay ≡ (dose_at o k).bay
      → ((dose_at o i).deadline + o.rest ≤ (dose_at o k).release) ⊎ ((dose_at o k).deadline + o.rest ≤ (dose_at o i).release)

-- windows of two doses of one bay have the order's rest between them, whichever is the earlier
pub windows_rest : {o : Order} → Fit o → (i k : ℕ) → i ≢ k → i < length o.doses → k < length o.doses → (dose_at o i).bay ≡ (dose_at o k).bay
    → ((dose_at o i).deadline + o.rest ≤ (dose_at o k).release) ⊎ ((dose_at o k).deadline + o.rest ≤ (dose_at o i).release)
windows_rest fit i k n li lk e = elim (compare≤ i k) [
  | inl h ↦ elim (eq-or-lt_of_le h) [ inl z ↦ absurd (n z) | inr l ↦ fit.inlets i k l lk e ]
  | inr l ↦ swap (fit.inlets k i l li (sym e))
]
  where
    swap : {A B : Type 0} → A ⊎ B → B ⊎ A
    swap (inl x) = inr x
    swap (inr x) = inl x

-- lo to hi, as an order
pub in_range : (lo hi v : ℕ) → T (within lo hi v) → (lo ≤ v) × (v ≤ hi)
in_range lo hi v t = (leb→le lo v (and_left (leb lo v) (leb v hi) t), leb→le v hi (and_right (leb lo v) (leb v hi) t))

-- the parts of a test of four parts
pub four : (a b c d : Bool) → T (a && b && c && d) → T a × T b × T c × T d
four false b c d t = elim t [ ]
four true false c d t = elim t [ ]
four true true false d t = elim t [ ]
four true true true false t = elim t [ ]
four true true true true t = (tt, tt, tt, tt)

-- and of three
pub three : (a b c : Bool) → T (a && b && c) → T a × T b × T c
three false b c t = elim t [ ]
three true false c t = elim t [ ]
three true true false t = elim t [ ]
three true true true t = (tt, tt, tt)

-- "bay, 1 to 999"
pub bay_most : (d : Dose) → T (dose_fits d) → d.bay ≤ most_bay
bay_most d t = (in_range 1 most_bay d.bay (four (within 1 most_bay d.bay) _ _ _ t).0).1

dose_parts_lem : (d : Dose) → T (dose_fits d) → (d.release < d.deadline) × (d.deadline ≤ week) × (1 ≤ d.grams) × (d.grams ≤ most_grams)
dose_parts_lem d t =
    let r = four (within 1 most_bay d.bay) (leb d.release last_release) (within (d.release + 1) week d.deadline) (within 1 most_grams d.grams) t in
    let window = in_range (d.release + 1) week d.deadline r.2 in
    let grams = in_range 1 most_grams d.grams r.3 in
    (omega (arith, window.0), window.1, grams.0, grams.1)

order_fits : (fs : List Fans) (ds : List Dose) → length fs ≡ 1 → All (λ f. T (fans_fit f)) fs → length ds ≤ most_doses → ((k : ℕ) → k < length ds → T (dose_fits (get_or ds k no_dose)))
    → Pairs (NoClash (order_with fs ds).rest) ds → Fit (order_with fs ds)
order_fits [] ds one af few ad free = absurd (omega arith)
order_fits (f ∷ fs) ds one (also p af) few ad free =
    let r = four (within 1 most_fans f.fans) (leb f.rule last_rule) (within 1 most_top f.top_grams) (within 1 most_top f.top_seconds) p in
    let fan = in_range 1 most_fans f.fans r.0 in
    record {
      fans_least = fan.0;
      fans_most = fan.1;
      top_grams = (in_range 1 most_top f.top_grams r.2).0;
      top_seconds = (in_range 1 most_top f.top_seconds r.3).0;
      few = few;
      window = λ k l. (dose_parts_lem (get_or ds k no_dose) (ad k l)).0;
      week = λ k l. (dose_parts_lem (get_or ds k no_dose) (ad k l)).1;
      some_grams = λ k l. (dose_parts_lem (get_or ds k no_dose) (ad k l)).2;
      light = λ k l. (dose_parts_lem (get_or ds k no_dose) (ad k l)).3;
      inlets = λ i k l q. apart_windows (rest_by f.rule) (get_or ds i no_dose) (get_or ds k no_dose) (Pairs-at no_dose free i k l q);
    }

-- what records come to, where 6, 7 and 8 passed
record Passed (es : List Entry) (o : Order) : Type 0 where
  one : length (fans_in es) ≡ 1
  few : length (doses_in es) ≤ most_doses
  free : no_clash (order_in es).rest [] 0 es ≡ read (doses_in es)
  is : o ≡ order_in es

records_passed : (es : List Entry) (o : Order) → order_of es ≡ read o → Passed es o
unfolding order_of
records_passed es o e =
    let rest = (order_in es).rest in
    let c = passed (eqb (length (fans_in es)) 1) _ 6 0 o e in
    let d = passed (leb (length (doses_in es)) most_doses) _ 7 0 o c.1 in
    let f = went_on (no_clash rest [] 0 es) _ o d.1 in
    let g = doses_read rest [] 0 es f.0 f.1 in
    record { one = eqb→eq _ _ c.0; few = leb→le _ _ d.0; free = f.1 ∙ ap read g; is = same f.0 g f.2 }
  where
    same : (ds : List Dose) → ds ≡ doses_in es → read (order_with (fans_in es) ds) ≡ read o → o ≡ order_in es
    same ds g q = cc

-- the order is theirs, and its doses are
pub order_in_lem : (es : List Entry) (o : Order) → order_of es ≡ read o → o ≡ order_in es
order_in_lem es o e = (records_passed es o e).is

pub doses_of_records : (es : List Entry) → (order_in es).doses ≡ doses_in es
doses_of_records es = go (fans_in es)
  where
    go : (fs : List Fans) → (order_with fs (doses_in es)).doses ≡ doses_in es
    go [] = refl
    go (f ∷ fs) = refl

-- the records of an order that was read
record RecordsOf (last : ℕ) (o : Order) : Type 0 where
  entries : List Entry
  fit : All (EntryFits last) entries
  passes : Passed entries o

order_read : (last : ℕ) (bytes : List ℕ) (o : Order) → read_order last bytes ≡ read o → RecordsOf last o
unfolding read_order
order_read last bytes o e =
    let a = passed (eqb (length bytes % record_size) 0 && leb (length bytes) order_room) _ 2 0 o e in
    let b = went_on (read_all (entry_of last) bytes) order_of o a.1 in
    record {
      entries = b.0;
      fit = all_read (EntryFits last) (entry_of last) (entry_fits last) bytes 0 (length bytes / record_size) b.0 b.1;
      passes = records_passed b.0 o b.2;
    }

-- an order that was read fits
pub read_fits : (last : ℕ) (bytes : List ℕ) (o : Order) → read_order last bytes ≡ read o → Fit o
read_fits last bytes o e =
    let r = order_read last bytes o e in
    let es = r.entries in
    let p = r.passes in
    let doses = doses_fit last es r.fit in
    rw p.is (order_fits (fans_in es) (doses_in es) p.one (fans_fit_lem last es r.fit) p.few (λ k l. (All-at no_dose doses k l).0)
    (clear (order_in es).rest [] 0 es (doses_in es) lone p.free))

-- and its doses' bays are open
pub read_open : (last : ℕ) (bytes : List ℕ) (o : Order) → read_order last bytes ≡ read o → (k : ℕ) → k < length o.doses → (dose_at o k).bay ≤ last
read_open last bytes o e =
    let r = order_read last bytes o e in
    let doses = doses_fit last r.entries r.fit in
    rw (r.passes.is, doses_of_records r.entries) (λ k l. leb→le _ _ (All-at no_dose doses k l).1)
