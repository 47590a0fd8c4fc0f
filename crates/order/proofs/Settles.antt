-- What the records of an order come to. Assumes nothing.
use Prim.Native.Nat.{ℕ, suc, ◌+◌, ◌<◌, ◌≤◌}
use mathlib.Core.Path.{◌≡◌, refl, sym, ap, ◌∙◌}
use mathlib.Core.Bool.{Bool, true, false}
use mathlib.Core.List.{List, [], ◌∷◌, ◌++◌, append_assoc, append-nil}
use native.Mathlib.Omega.{arith}
use native.Mathlib.Nat.{zero-add}
use borrow.Author.Tests.{leb-true, eqb-true}
use lib.Dec.{eqb, leb}
use lib.ListN.{length, get_or, length-append}
use Rattle.std.specs.Prelude.{Option, Some, None, Result, Ok, Err, IfOk}
use Rattle.model.specs.Limits.{most_doses}
use Rattle.model.specs.Records.{pick, Reading, read, refused, and_then}
use Rattle.model.specs.Orders.{fans_entry, dose_entry, no_dose, fans_in, doses_in, no_clash, order_with, order_in, order_of, read_order}
use Rattle.model.specs.Orders as orders
use Rattle.order.specs.declared.Order.{Order}
use Rattle.order.specs.declared.refusal.Refusal.{Refusal}
use Rattle.order.specs.declared.refusal.Refusal.TheVariants.{NotOneFans, TooManyDoses, Clash}
use Rattle.records.specs.declared.order_records.Dose.{Dose}
use Rattle.order.specs.declared.Gathered.{Gathered}
use Rattle.records.specs.Held.{as_dose, held_fans, held_dose}
use Rattle.order.specs.Held.{number_of, place_of, zeros, dose_held, doses_from, doses_held, as_order, column, held_order, no_order, held_reading, as_reading, ReadFrom}
use Rattle.order.specs.Gathered.{no_records, with_fans, dose_behind, with_dose, adding, walked_from, first_of, clashes_earlier, first_clash, clashed, settled}
use Rattle.order.proofs.Columns.{column_set, column_at, run_all}
use Rattle.order.proofs.Cases.{picked}
use Rattle.order.proofs.Firsts.{places_in, found, first_found}
use Rattle.order.proofs.Walks.{Each, Few, counts_dose, each_read}

-- ---- the doses that an order holds

pub record Holds (o : Order) (ds : List orders.Dose) : Type 0 where
  pub count : o.count ≡ length ds
  pub doses : o.doses ≡ column zeros held_dose most_doses ds

pub holds_held : (o : orders.Order) → Holds (held_order o) o.doses
unfolding held_order
holds_held o = record { count = refl; doses = refl }

pub dose_at_lem : (o : Order) (ds : List orders.Dose) (k : ℕ) → Holds o ds → length ds ≤ most_doses → dose_held o k ≡ get_or ds k no_dose
dose_at_lem o ds k h l =
    ap (λ (a : List Dose). as_dose (get_or a k zeros)) h.doses ∙ ap as_dose (column_at zeros held_dose no_dose refl most_doses ds k l)

pub doses_held_lem : (o : Order) (ds : List orders.Dose) → Holds o ds → length ds ≤ most_doses → doses_held o ≡ ds
unfolding doses_from
doses_held_lem o ds h l = ap (doses_from o 0) h.count ∙ run_all (dose_held o) ds no_dose (λ k. dose_at_lem o ds k h l)

pub as_held : (o : orders.Order) → length o.doses ≤ most_doses → as_order (held_order o) ≡ o
unfolding as_order held_order
as_held o few =
    ap (λ (l : List orders.Dose). record { fans = o.fans; rest = o.rest; top_grams = o.top_grams; top_seconds = o.top_seconds; doses = l })
    (doses_held_lem (held_order o) o.doses (holds_held o) few)

holds_more : (o : Order) (ds : List orders.Dose) (d : orders.Dose) → Holds o ds → length ds < most_doses → Holds (dose_behind o (held_dose d)) (ds ++ d ∷ [])
holds_more o ds d h l = record {
  count = omega (arith, h.count, length-append ds (d ∷ []));
  doses = column_set zeros held_dose ds d h.doses h.count l;
}

-- ---- the counts gathered, and the fans

heads_add : (es : List orders.Entry) (s : Gathered) (k : ℕ) → (adding s k es).heads ≡ s.heads + length (fans_in es)
unfolding adding fans_in with_fans
heads_add [] s k = omega arith
heads_add (fans_entry f ∷ es) s k = let h = heads_add es (with_fans s (held_fans f)) (suc k) in omega arith
heads_add (dose_entry d ∷ es) s k = let h = heads_add es (with_dose s (held_dose d) k) (suc k) in omega (arith, (counts_dose s (held_dose d) k).0)

doses_add : (es : List orders.Entry) (s : Gathered) (k : ℕ) → (adding s k es).doses ≡ s.doses + length (doses_in es)
unfolding adding doses_in with_fans
doses_add [] s k = omega arith
doses_add (fans_entry f ∷ es) s k = doses_add es (with_fans s (held_fans f)) (suc k)
doses_add (dose_entry d ∷ es) s k = let h = doses_add es (with_dose s (held_dose d) k) (suc k) in omega (arith, (counts_dose s (held_dose d) k).1)

-- what an order has of its F, and what it has of the last of many
abbrev head_of : Order → orders.Order
head_of o = record { fans = o.fans; rest = o.rest; top_grams = o.top_grams; top_seconds = o.top_seconds; doses = [] }

last : orders.Order → List orders.Fans → orders.Order
last x [] = x
last x (f ∷ fs) = last (order_with (f ∷ []) []) fs

head_kept : (s : Gathered) (d : Dose) (k : ℕ) → head_of (with_dose s d k).order ≡ head_of s.order
unfolding with_dose
head_kept s d k = picked (λ (n : Gathered). head_of n.order ≡ head_of s.order) (leb most_doses s.order.count) _ _ (λ e. refl) (λ e. refl)

head_add : (es : List orders.Entry) (s : Gathered) (k : ℕ) → head_of (adding s k es).order ≡ last (head_of s.order) (fans_in es)
unfolding last adding fans_in with_fans
head_add [] s k = refl
head_add (fans_entry f ∷ es) s k = head_add es (with_fans s (held_fans f)) (suc k)
head_add (dose_entry d ∷ es) s k =
    head_add es (with_dose s (held_dose d) k) (suc k) ∙ ap (λ (x : orders.Order). last x (fans_in es)) (head_kept s (held_dose d) k)

-- ---- the doses gathered, and their places

-- an array of record indexes
abbrev indexes : List ℕ → List ℕ
indexes = column 0 (λ (k : ℕ). k) most_doses

-- the doses and the place of each are gathered
record HoldsAt (s : Gathered) (ds : List orders.Dose) (ps : List ℕ) : Type 0 where
  doses : Holds s.order ds
  places : s.places ≡ indexes ps
  each : length ps ≡ length ds

dose_more : (s : Gathered) (d : orders.Dose) (k : ℕ) (ds : List orders.Dose) (ps : List ℕ) → HoldsAt s ds ps → length ds < most_doses
    → HoldsAt (with_dose s (held_dose d) k) (ds ++ d ∷ []) (ps ++ k ∷ [])
unfolding with_dose
dose_more s d k ds ps h l =
    picked (λ (n : Gathered). HoldsAt n (ds ++ d ∷ []) (ps ++ k ∷ [])) (leb most_doses s.order.count) _ _
    (λ t. let q : most_doses ≤ s.order.count = leb-true most_doses s.order.count t in absurd (let z : ⊥ = omega (arith, h.doses.count) in z))
    (λ t.
    record {
      doses = holds_more s.order ds d h.doses l;
      places = column_set 0 (λ (k : ℕ). k) ps k h.places (h.doses.count ∙ sym h.each) (omega (arith, h.each));
      each = omega (arith, h.each, length-append ds (d ∷ []), length-append ps (k ∷ []));
    })

gathers : (es : List orders.Entry) (s : Gathered) (k : ℕ) (ds : List orders.Dose) (ps : List ℕ) → HoldsAt s ds ps
    → length ds + length (doses_in es) ≤ most_doses → HoldsAt (adding s k es) (ds ++ doses_in es) (ps ++ places_in k es)
unfolding places_in adding doses_in with_fans
gathers [] s k ds ps h l = rw (append-nil ds, append-nil ps) h
gathers (fans_entry f ∷ es) s k ds ps h l =
    gathers es (with_fans s (held_fans f)) (suc k) ds ps
    (record { doses = record { count = h.doses.count; doses = h.doses.doses }; places = h.places; each = h.each })
    l
gathers (dose_entry d ∷ es) s k ds ps h l =
    let few : length ds < most_doses = omega arith in
    rw (append_assoc ds (d ∷ []) (doses_in es), append_assoc ps (k ∷ []) (places_in (suc k) es)) at
    (gathers es (with_dose s (held_dose d) k) (suc k) (ds ++ d ∷ []) (ps ++ k ∷ []) (dose_more s d k ds ps h few)
    (omega (arith, length-append ds (d ∷ []))))

-- ---- the checks behind the last record

one_head : (x : orders.Order) (fs : List orders.Fans) → length fs ≡ 1 → (f : orders.Fans) × (fs ≡ f ∷ []) × (last x fs ≡ order_with (f ∷ []) [])
unfolding last
one_head x [] h = absurd (let z : ⊥ = omega arith in z)
one_head x (f ∷ []) h = (f, refl, refl)
one_head x (f ∷ g ∷ fs) h = absurd (let z : ⊥ = omega arith in z)

same_fields : {a r b c n : ℕ} {l : List Dose} (o : Order) → a ≡ o.fans → r ≡ o.rest → b ≡ o.top_grams → c ≡ o.top_seconds → n ≡ o.count → l ≡ o.doses
    → record { fans = a; rest = r; top_grams = b; top_seconds = c; count = n; doses = l } ≡ o
same_fields o p m q r s t = rw (p, m, q, r, s, t)

same_order : (o : Order) (f : orders.Fans) (ds : List orders.Dose) → head_of o ≡ order_with (f ∷ []) [] → Holds o ds → o ≡ held_order (order_with (f ∷ []) ds)
unfolding held_order
same_order o f ds e h =
    same_fields (held_order (order_with (f ∷ []) ds))
    (ap (λ (x : orders.Order). x.fans) e)
    (ap (λ (x : orders.Order). x.rest) e)
    (ap (λ (x : orders.Order). x.top_grams) e)
    (ap (λ (x : orders.Order). x.top_seconds) e)
    h.count h.doses

checks : {h n : ℕ} (f d : ℕ) (a : Result Order Refusal) (x : Reading orders.Order) → h ≡ f → n ≡ d → (f ≡ 1 → d ≤ most_doses → a ≡ held_reading x)
    → pick (eqb h 1) (pick (leb n most_doses) a (Err TooManyDoses)) (Err NotOneFans)
    ≡ held_reading (pick (eqb f 1) (pick (leb d most_doses) x (refused 7 0)) (refused 6 0))
unfolding held_reading
checks f d a x p q k = rw (p, q) (go (eqb f 1) (leb d most_doses) refl refl) where
  go : (t u : Bool) → eqb f 1 ≡ t → leb d most_doses ≡ u
      → pick t (pick u a (Err TooManyDoses)) (Err NotOneFans) ≡ held_reading (pick t (pick u x (refused 7 0)) (refused 6 0))
  go true true e g = k (eqb-true f 1 e) (leb-true d most_doses g)
  go true false e g = refl
  go false u e g = refl

-- the answer for a first clash, or none
clashed_held : (s : Gathered) (fs : List orders.Fans) (ds : List orders.Dose) (ps : List ℕ) (k : Option ℕ) → s.order ≡ held_order (order_with fs ds)
    → ((i : ℕ) → get_or s.places i 0 ≡ get_or ps i 0) → clashed s k ≡ held_reading (and_then (found ds ps k) (λ l. read (order_with fs l)))
unfolding held_reading
clashed_held s fs ds ps (Some i) e p = ap (λ (q : ℕ). Err (Clash q)) (p i)
clashed_held s fs ds ps None e p = ap Ok e

-- one F and at most 24 doses: what was gathered holds the order of the records, so that its rest, its count, its first clash and
-- the place kept for that dose are those of the records
settled_few : (es : List orders.Entry) → length (fans_in es) ≡ 1 → length (doses_in es) ≤ most_doses
    → (let t = adding no_records 0 es in clashed t (first_clash t.order.rest t.order))
    ≡ held_reading (and_then (no_clash (order_in es).rest [] 0 es) (λ ds. read (order_with (fans_in es) ds)))
unfolding no_records held_order
settled_few es one few =
    let t = adding no_records 0 es in
    let ds = doses_in es in
    let ps = places_in 0 es in
    let h = gathers es no_records 0 [] [] (record { doses = holds_held _; places = refl; each = refl }) (omega arith) in
    let (f, p, q) = one_head (head_of no_order) (fans_in es) one in
    let own = same_order t.order f ds (head_add es no_records 0 ∙ q) h.doses in
    let again = ap (λ (fs : List orders.Fans). order_with fs ds) (sym p) in
    let rest = (order_in es).rest in
    let k = first_of (clashes_earlier rest t.order) 0 (length ds) in
    let place = λ (i : ℕ). ap (λ (l : List ℕ). get_or l i 0) h.places ∙ column_at 0 (λ (k : ℕ). k) 0 refl most_doses ps i (omega (arith, h.each)) in
    ap (λ (n : ℕ). clashed t (first_clash n t.order)) (ap (λ (o : Order). o.rest) own ∙ ap (λ (o : orders.Order). o.rest) again)
    ∙ ap (λ (n : ℕ). clashed t (first_of (clashes_earlier rest t.order) 0 n)) h.doses.count
    ∙ clashed_held t (fans_in es) ds ps k (own ∙ ap held_order again) place
    ∙ ap (λ (x : Reading (List orders.Dose)). held_reading (and_then x (λ l. read (order_with (fans_in es) l))))
    (sym (first_found rest t.order ds (λ k. dose_at_lem t.order ds k h.doses few) es [] [] 0 refl refl))

pub settles : (es : List orders.Entry) → settled (adding no_records 0 es) ≡ held_reading (order_of es)
unfolding settled order_of no_records
settles es =
    checks (length (fans_in es)) (length (doses_in es)) _ _
    (heads_add es no_records 0 ∙ zero-add _)
    (doses_add es no_records 0 ∙ zero-add _)
    (settled_few es)

-- ---- the answer

as_reading_lem : (x : Reading orders.Order) → Each Few x → as_reading (held_reading x) ≡ x
unfolding held_reading
as_reading_lem (read o) few = ap read (as_held o few)
as_reading_lem (refused n p) h = rw (h.0, h.1)

few_held : (x : Reading orders.Order) → Each Few x → IfOk (held_reading x) (λ o. o.count ≤ most_doses)
unfolding held_reading held_order
few_held (read o) few = few
few_held (refused n p) h = tt

-- the answer for the bytes
pub answers : {last : ℕ} (bytes : List ℕ) (r : Result Order Refusal) → r ≡ held_reading (read_order last bytes) → ReadFrom last bytes r
answers {last} bytes r e = record {
  whole = e;
  says = ap as_reading e ∙ as_reading_lem (read_order last bytes) (each_read last bytes);
  few = rw e (few_held (read_order last bytes) (each_read last bytes));
}

-- two answers to the same bytes are the same
pub one_answer : {last : ℕ} (bytes : List ℕ) (r q : Result Order Refusal) → ReadFrom last bytes r → ReadFrom last bytes q → r ≡ q
one_answer bytes r q e f = e.whole ∙ sym f.whole

-- the order was read, and is the one that the struct holds
pub was_read : {last : ℕ} {o : Order} (bytes : List ℕ) → ReadFrom last bytes (Ok o) → read_order last bytes ≡ read (as_order o)
was_read bytes e = sym e.says

-- the order was refused, by that number and with that place
pub was_refused : {last : ℕ} {x : Refusal} (bytes : List ℕ) → ReadFrom last bytes (Err x) → read_order last bytes ≡ refused (number_of x) (place_of x)
was_refused bytes e = sym e.says

-- ---- from the walk to the answer

-- a walk that was refused
pub walk_refused : {w : Refusal} (x : Reading (List orders.Entry)) → Err w ≡ walked_from x 0 no_records → Err w ≡ held_reading (and_then x order_of)
unfolding walked_from held_reading
walk_refused (read es) e = absurd (let z : ⊥ = cc in z)
walk_refused (refused n p) e = cc

-- and one that went through
pub walk_settled : {s : Gathered} (x : Reading (List orders.Entry)) → Ok s ≡ walked_from x 0 no_records → settled s ≡ held_reading (and_then x order_of)
unfolding walked_from
walk_settled {s} (read es) e = let q : s ≡ adding no_records 0 es = cc in rw q (settles es)
walk_settled (refused n p) e = absurd (let z : ⊥ = cc in z)
