-- The walk over the records. Assumes nothing.
use Prim.Native.Nat.{ℕ, zero, suc, ◌+◌, ◌-◌, ◌%◌, ◌<◌, ◌≤◌}
use mathlib.Core.Path.{◌≡◌, refl, ◌∙◌}
use mathlib.Core.Bool.{Bool, true, false, ◌&&◌}
use mathlib.Core.List.{List, [], ◌∷◌, ◌++◌}
use native.Mathlib.Omega.{arith}
use native.Mathlib.Nat.{sub-zero}
use native.Mathlib.Numerals.{add-one}
use borrow.Author.Tests.{leb-true, leb-false}
use lib.Dec.{eqb, leb}
use lib.ListN.{length, get_or, length-append}
use Rattle.std.specs.Prelude.{Ok, Err}
use Rattle.model.specs.Limits.{most_doses, order_room}
use Rattle.model.specs.Records.{record_size, pick, Reading, read, refused, and_then, blank_at, fans_parts, dose_parts, record_at, read_from}
use Rattle.model.specs.Orders.{fans_entry, dose_entry, fans_of, dose_of, fans_fit, dose_fits, bay_open, checked, entry_of, fans_in, doses_in, no_clash, clashes_any, order_with, order_in, order_of, read_order}
use Rattle.model.specs.Orders as orders
use Rattle.order.proofs.Cases.{picked}
use Rattle.order.specs.declared.Entry.{Entry}
use Rattle.order.specs.declared.Entry.TheVariants as is
use Rattle.records.specs.declared.order_records.Dose.{Dose}
use Rattle.order.specs.declared.Gathered.{Gathered}
use Rattle.order.specs.declared.refusal.Refusal.{Refusal}
use Rattle.records.specs.Held.{held_fans, held_dose}
use Rattle.order.specs.Held.{number_of, place_of, held_refusal, held_entry, held_order}
use Rattle.order.specs.Gathered.{no_records, with_fans, with_dose, added, adding, walked_from}

-- ---- a refusal is one of the eight

-- a number and a place that a refusal has
abbrev pub IsRefusal : ℕ → ℕ → Type 0
IsRefusal number place = (number_of (held_refusal number place) ≡ number) × (place_of (held_refusal number place) ≡ place)

-- what is read has P, and what is refused has a refusal
abbrev pub Each : {A : Type 0} → (A → Type 0) → Reading A → Type 0
Each P (read a) = P a
Each P (refused number place) = IsRefusal number place

each_pick : {A : Type 0} (P : A → Type 0) (t : Bool) (x y : Reading A) → Each P x → Each P y → Each P (pick t x y)
each_pick P true x y p q = p
each_pick P false x y p q = q

each_then : {A B : Type 0} (P : A → Type 0) (Q : B → Type 0) (x : Reading A) (f : A → Reading B) → Each P x
    → ((a : A) → P a → Each Q (f a)) → Each Q (and_then x f)
each_then P Q (read a) f p g = g a p
each_then P Q (refused number place) f p g = p

each_map : {A : Type 0} (P Q : A → Type 0) (x : Reading A) → ((a : A) → P a → Q a) → Each P x → Each Q x
each_map P Q (read a) f p = f a p
each_map P Q (refused number place) f p = p

abbrev pub Any : {A : Type 0} → A → Type 0
Any a = 0 < 1

each_checked : (b f o : Bool) (e : orders.Entry) (i : ℕ) → Each Any (checked b f o e i)
each_checked true true true e i = omega arith
each_checked true true false e i = (refl, refl)
each_checked true false o e i = (refl, refl)
each_checked false f o e i = (refl, refl)

pub each_entry : (last : ℕ) (r : List ℕ) (i : ℕ) → Each Any (entry_of last r i)
unfolding entry_of
each_entry last r i =
    each_pick Any (eqb (get_or r 0 0) 0x46) _ _ (each_checked (blank_at fans_parts r 0) (fans_fit (fans_of r)) true (fans_entry (fans_of r)) i)
    (each_pick Any (eqb (get_or r 0 0) 0x44) _ _ (each_checked (blank_at dose_parts r 0) (dose_fits (dose_of r)) (bay_open last (dose_of r)) (dose_entry (dose_of r)) i) (refl, refl))

pub each_from : (last : ℕ) (bytes : List ℕ) (i n : ℕ) → Each Any (read_from (entry_of last) bytes i n)
unfolding read_from
each_from last bytes i zero = omega arith
each_from last bytes i (suc n) =
    each_then Any Any _ _ (each_entry last _ i) (λ a p. each_then Any Any _ _ (each_from last bytes (suc i) n) (λ l q. q))

each_clash : (rest : ℕ) (es : List orders.Entry) (ds : List orders.Dose) (i : ℕ)
    → Each (λ (l : List orders.Dose). length l ≡ length ds + length (doses_in es)) (no_clash rest ds i es)
unfolding no_clash doses_in
each_clash rest [] ds i = omega arith
each_clash rest (fans_entry f ∷ es) ds i = each_clash rest es ds (suc i)
each_clash rest (dose_entry d ∷ es) ds i =
    each_pick _ (clashes_any rest d ds) _ _ (refl, refl)
    (each_map _ _ _ (λ (l : List orders.Dose) (e : length l ≡ length (ds ++ d ∷ []) + length (doses_in es)). omega (arith, length-append ds (d ∷ [])))
    (each_clash rest es (ds ++ d ∷ []) (suc i)))

with_doses : (fs : List orders.Fans) (ds : List orders.Dose) → (order_with fs ds).doses ≡ ds
with_doses [] ds = refl
with_doses (f ∷ fs) ds = refl

-- an order with few doses
abbrev pub Few : orders.Order → Type 0
Few o = length o.doses ≤ most_doses

each_order : (es : List orders.Entry) → Each Few (order_of es)
unfolding order_of
each_order es =
    each_pick Few (eqb (length (fans_in es)) 1) _ _
    (picked (Each Few) (leb (length (doses_in es)) most_doses) _ (refused 7 0)
    (λ e.
    let few : length (doses_in es) ≤ most_doses = leb-true (length (doses_in es)) most_doses e in
    each_then (λ (l : List orders.Dose). length l ≡ length {A = orders.Dose} [] + length (doses_in es)) Few _ _ (each_clash (order_in es).rest es [] 0) (λ l q. let n : length l ≤ most_doses = omega arith in let m : Few (order_with (fans_in es) l) = rw (with_doses (fans_in es) l) n in m))
    (λ e. (refl, refl)))
    (refl, refl)

-- an order that was read has at most 24 doses
pub each_read : (last : ℕ) (bytes : List ℕ) → Each Few (read_order last bytes)
unfolding read_order
each_read last bytes =
    each_pick Few (eqb (length bytes % record_size) 0 && leb (length bytes) order_room) _ _
    (each_then Any Few _ order_of (each_from last bytes 0 _) (λ es p. each_order es))
    (refl, refl)

-- ---- one record

with_few : (s : Gathered) (d : Dose) (k : ℕ) → s.order.count ≤ most_doses → (with_dose s d k).order.count ≤ most_doses
unfolding with_dose
with_few s d k h =
    picked (λ (n : Gathered). n.order.count ≤ most_doses) (leb most_doses s.order.count) _ _ (λ e. h)
    (λ e. let q : s.order.count < most_doses = leb-false most_doses s.order.count e in omega arith)

-- a record adds at most one to each count
pub counts_dose : (s : Gathered) (d : Dose) (k : ℕ) → ((with_dose s d k).heads ≡ s.heads) × ((with_dose s d k).doses ≡ s.doses + 1)
unfolding with_dose
counts_dose s d k =
    picked (λ (n : Gathered). (n.heads ≡ s.heads) × (n.doses ≡ s.doses + 1)) (leb most_doses s.order.count) _ _ (λ e. (refl, refl)) (λ e. (refl, refl))

counts : (s : Gathered) (k : ℕ) (e : Entry) → ((added s k e).heads ≤ s.heads + 1) × ((added s k e).doses ≤ s.doses + 1)
unfolding added with_fans
counts s k (is.Fans f) = (omega arith, omega arith)
counts s k (is.Dose d) = let h = counts_dose s d k in (omega (arith, h.0), omega (arith, h.1))

-- no number of records fills the order past its room
few_added : (es : List orders.Entry) (s : Gathered) (k : ℕ) → s.order.count ≤ most_doses → (adding s k es).order.count ≤ most_doses
unfolding adding with_fans
few_added [] s k h = h
few_added (fans_entry f ∷ es) s k h = few_added es (with_fans s (held_fans f)) (suc k) h
few_added (dose_entry d ∷ es) s k h = few_added es (with_dose s (held_dose d) k) (suc k) (with_few s (held_dose d) k h)

pub few_walked : {s : Gathered} (x : Reading (List orders.Entry)) → Ok s ≡ walked_from x 0 no_records → s.order.count ≤ most_doses
unfolding walked_from no_records held_order
few_walked {s} (read es) e = let q : s ≡ adding no_records 0 es = cc in rw q (few_added es no_records 0 (omega arith))
few_walked (refused n p) e = absurd (let z : ⊥ = cc in z)

-- ---- a turn of the walk

-- record x, then the rest: a refusal stops the walk
stops_at : {r : Refusal} (x : Reading orders.Entry) (rest : Reading (List orders.Entry)) (s : Gathered) (k : ℕ) → Err r ≡ held_entry x
    → Err r ≡ walked_from (and_then x (λ a. and_then rest (λ l. read (a ∷ l)))) k s
unfolding held_entry walked_from
stops_at (read (fans_entry f)) rest s k h = absurd (let z : ⊥ = cc in z)
stops_at (read (dose_entry d)) rest s k h = absurd (let z : ⊥ = cc in z)
stops_at (refused n p) rest s k h = cc

-- and any other record is added to what was gathered
goes_at : {e : Entry} (x : Reading orders.Entry) (rest : Reading (List orders.Entry)) (s : Gathered) (k : ℕ) → Ok e ≡ held_entry x
    → walked_from rest (suc k) (added s k e) ≡ walked_from (and_then x (λ a. and_then rest (λ l. read (a ∷ l)))) k s
unfolding held_entry walked_from added adding
goes_at {e} (read (fans_entry f)) (read l) s k h = let q : e ≡ is.Fans (held_fans f) = cc in rw q
goes_at (read (fans_entry f)) (refused a b) s k h = refl
goes_at {e} (read (dose_entry d)) (read l) s k h = let q : e ≡ is.Dose (held_dose d) = cc in rw q
goes_at (read (dose_entry d)) (refused a b) s k h = refl
goes_at (refused a b) rest s k h = absurd (let z : ⊥ = cc in z)

module _ (last : ℕ) where
  stops : {r : Refusal} (bytes : List ℕ) (k m : ℕ) (s : Gathered) → 0 < m → Err r ≡ held_entry (entry_of last (record_at bytes k) k)
      → Err r ≡ walked_from (read_from (entry_of last) bytes k m) k s
  unfolding read_from
  stops bytes k zero s h e = absurd (let z : ⊥ = omega arith in z)
  stops bytes k (suc m) s h e = stops_at (entry_of last (record_at bytes k) k) (read_from (entry_of last) bytes (suc k) m) s k e

  goes : {a : Entry} (bytes : List ℕ) (k m : ℕ) (s : Gathered) → 0 < m → Ok a ≡ held_entry (entry_of last (record_at bytes k) k)
      → walked_from (read_from (entry_of last) bytes (k + 1) (m - 1)) (k + 1) (added s k a) ≡ walked_from (read_from (entry_of last) bytes k m) k s
  unfolding read_from
  goes bytes k zero s h e = absurd (let z : ⊥ = omega arith in z)
  goes bytes k (suc m) s h e =
      let q : suc m - 1 ≡ m = omega arith in
      rw (q, add-one k) (goes_at (entry_of last (record_at bytes k) k) (read_from (entry_of last) bytes (suc k) m) s k e)

  ends : (bytes : List ℕ) (k m : ℕ) (s : Gathered) → m ≡ 0 → Ok s ≡ walked_from (read_from (entry_of last) bytes k m) k s
  unfolding read_from walked_from adding
  ends bytes k m s e = rw e

empty : {s : Gathered} → s ≡ no_records → (s.heads ≡ 0) × (s.doses ≡ 0)
unfolding no_records
empty e = rw e (refl, refl)

-- ---- the walk so far

-- the first k of n records are gathered in s; s and the records left come to what all come to
pub record Walking (last : ℕ) (bytes : List ℕ) (n k : ℕ) (s : Gathered) : Type 0 where
  pub within : k ≤ n
  pub heads : s.heads ≤ k
  pub doses : s.doses ≤ k
  pub comes : walked_from (read_from (entry_of last) bytes k (n - k)) k s ≡ walked_from (read_from (entry_of last) bytes 0 n) 0 no_records

pub walking_none : {last : ℕ} {bytes : List ℕ} {n : ℕ} {s : Gathered} → s ≡ no_records → Walking last bytes n 0 s
walking_none {n = n} q =
    let none = empty q in
    record { within = omega arith; heads = omega (arith, none.0); doses = omega (arith, none.1); comes = rw (sub-zero n, q) refl }

module _ {last : ℕ} {bytes : List ℕ} {n k : ℕ} {s : Gathered} (so_far : Walking last bytes n k s) where
  -- every record is gathered
  pub walking_ends : n ≤ k → Ok s ≡ walked_from (read_from (entry_of last) bytes 0 n) 0 no_records
  walking_ends h = ends last bytes k (n - k) s (omega (arith, so_far.within)) ∙ so_far.comes

  -- record k refuses
  pub walking_stops : {r : Refusal} → k < n → Err r ≡ held_entry (entry_of last (record_at bytes k) k)
      → Err r ≡ walked_from (read_from (entry_of last) bytes 0 n) 0 no_records
  walking_stops h e = stops last bytes k (n - k) s (omega arith) e ∙ so_far.comes

  -- record k is gathered
  pub walking_goes : {t : Gathered} {a : Entry} → k < n → Ok a ≡ held_entry (entry_of last (record_at bytes k) k) → t ≡ added s k a → Walking last bytes n (k + 1) t
  walking_goes {t} {a} h e q =
      let more = counts s k a in
      let left : n - (k + 1) ≡ n - k - 1 = omega arith in
      rw q
      (record {
        within = omega arith;
        heads = omega (arith, so_far.heads, more.0);
        doses = omega (arith, so_far.doses, more.1);
        comes = rw left (goes last bytes k (n - k) s (omega arith) e ∙ so_far.comes);
      })
