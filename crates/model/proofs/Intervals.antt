-- The instants of an order: strictly sorted, exactly the releases and deadlines. Assumes nothing.
use mathlib.Core.Path.{◌≡◌, refl, sym}
use mathlib.Core.Logic.{◌⊎◌, inl, inr}
use mathlib.Core.List.{List, [], ◌∷◌}
use Prim.Native.Nat.{ℕ, zero, suc, ◌+◌, ◌*◌, ◌≤◌, ◌<◌}
use native.Mathlib.Nat.{eq-or-lt_of_le, le_of_suc-le-suc}
use native.Mathlib.Numerals.{add-one}
use native.Mathlib.Omega.{arith}
use borrow.Author.Tests.{lt-ltb, le-ltb, eq-eqb, ne_eqb}
use lib.ListN.{length, get_or, get_or-eq_default}
use Rattle.model.specs.Limits.{most_intervals, week}
use Rattle.model.specs.Lists.{All, none, also, Pairs, lone, then}
use Rattle.model.specs.Orders.{Dose, Order, no_dose, dose_at}
use Rattle.model.specs.Intervals.{insert, instants, instant_at, interval_count}
use Rattle.model.proofs.Fractions.{compare≤}
use Rattle.model.proofs.Orders.{Fit}

-- ---- members of a list of numbers

-- v is a member
pub data Member (v : ℕ) : List ℕ → Type 0 where
  here : {x : ℕ} {l : List ℕ} → v ≡ x → Member v (x ∷ l)
  there : {x : ℕ} {l : List ℕ} → Member v l → Member v (x ∷ l)

-- what holds of all holds of a member
pub of_member : (P : ℕ → Type 0) {l : List ℕ} → All P l → (v : ℕ) → Member v l → P v
of_member P none v x3 = elim x3 [ ]
of_member P (also p a) v (here e) = rw e p
of_member P (also p a) v (there m) = of_member P a v m

-- strictly sorted: every member is below every later one
abbrev pub Rising : List ℕ → Type 0
Rising l = Pairs (λ x y. x < y) l

-- ---- a number put in its place

module _ (n x : ℕ) (l : List ℕ) where
  in_front : n < x → insert n (x ∷ l) ≡ n ∷ x ∷ l
  unfolding insert
  in_front h = rw (lt-ltb n x h)

  stands_there : n ≡ x → insert n (x ∷ l) ≡ x ∷ l
  unfolding insert
  stands_there e = rw (le-ltb n x (omega arith), eq-eqb n x e)

  further_on : x < n → insert n (x ∷ l) ≡ x ∷ insert n l
  unfolding insert
  further_on h = rw (le-ltb n x (omega arith), ne_eqb n x (omega arith))

-- before, at or behind
where_to : (a b : ℕ) → (a < b) ⊎ (a ≡ b) ⊎ (b < a)
where_to a b = elim (compare≤ a b) [
  | inl h ↦ elim (eq-or-lt_of_le h) [ inl e ↦ inr (inl e) | inr l ↦ inl l ]
  | inr l ↦ inr (inr l)
]

insert_has : (n : ℕ) (l : List ℕ) → Member n (insert n l)
unfolding insert
insert_has n [] = here refl
insert_has n (x ∷ l) =
    let ih = insert_has n l in
    elim (where_to n x) [
      | inl h ↦ rw (in_front n x l h) (here refl)
      | inr r ↦ elim r [ inl e ↦ rw (stands_there n x l e) (here e) | inr h ↦ rw (further_on n x l h) (there ih) ]
    ]

insert_keeps : (n : ℕ) (l : List ℕ) (v : ℕ) → Member v l → Member v (insert n l)
insert_keeps n [] v m = elim m [ ]
insert_keeps n (x ∷ l) v m =
    let ih = insert_keeps n l v in
    elim (where_to n x) [
      | inl h ↦ rw (in_front n x l h) (there m)
      | inr r ↦ elim r [ inl e ↦ rw (stands_there n x l e) m | inr h ↦ rw (further_on n x l h) (tail m ih) ]
    ]
  where
    tail : Member v (x ∷ l) → (Member v l → Member v (insert n l)) → Member v (x ∷ insert n l)
    tail (here e) f = here e
    tail (there q) f = there (f q)

insert_only : (n : ℕ) (l : List ℕ) (v : ℕ) → Member v (insert n l) → (v ≡ n) ⊎ Member v l
unfolding insert
insert_only n [] v (there x5) = elim x5 [ ]
insert_only n [] v (here e) = inl e
insert_only n (x ∷ l) v m =
    let ih = insert_only n l v in
    elim (where_to n x) [
      | inl h ↦ front (rw (in_front n x l h) at m)
      | inr r ↦ elim r [ inl e ↦ inr (rw (stands_there n x l e) at m) | inr h ↦ behind (rw (further_on n x l h) at m) ih ]
    ]
  where
    front : Member v (n ∷ x ∷ l) → (v ≡ n) ⊎ Member v (x ∷ l)
    front (here e) = inl e
    front (there q) = inr q

    behind : Member v (x ∷ insert n l) → (Member v (insert n l) → (v ≡ n) ⊎ Member v l) → (v ≡ n) ⊎ Member v (x ∷ l)
    behind (here e) f = inr (here e)
    behind (there q) f = elim (f q) [ inl e ↦ inl e | inr w ↦ inr (there w) ]

-- what holds of the number and of all holds of all
insert_all : (P : ℕ → Type 0) (n : ℕ) (l : List ℕ) → P n → All P l → All P (insert n l)
unfolding insert
insert_all P n [] p none = also p none
insert_all P n (x ∷ l) p (also q a) =
    let ih = insert_all P n l p a in
    elim (where_to n x) [
      | inl h ↦ rw (in_front n x l h) (also p (also q a))
      | inr r ↦ elim r [ inl e ↦ rw (stands_there n x l e) (also q a) | inr h ↦ rw (further_on n x l h) (also q ih) ]
    ]

all_above : (n x : ℕ) → n < x → {l : List ℕ} → All (λ y. x < y) l → All (λ y. n < y) l
all_above n x h none = none
all_above n x h (also {a = y} p a) = let q : n < y = omega arith in also q (all_above n x h a)

insert_rises : (n : ℕ) (l : List ℕ) → Rising l → Rising (insert n l)
unfolding insert
insert_rises n [] lone = then none lone
insert_rises n (x ∷ l) (then a r) =
    let ih = insert_rises n l r in
    elim (where_to n x) [
      | inl h ↦ rw (in_front n x l h) (then (also h (all_above n x h a)) (then a r))
      | inr c ↦ elim c [
        | inl e ↦ rw (stands_there n x l e) (then a r)
        | inr h ↦ rw (further_on n x l h) (then (insert_all (λ y. x < y) n l h a) ih)
      ]
    ]

-- ---- the instants

-- v is a release or a deadline of one of the doses
pub data Bound (v : ℕ) : List Dose → Type 0 where
  opens : {d : Dose} {ds : List Dose} → v ≡ d.release → Bound v (d ∷ ds)
  closes : {d : Dose} {ds : List Dose} → v ≡ d.deadline → Bound v (d ∷ ds)
  later : {d : Dose} {ds : List Dose} → Bound v ds → Bound v (d ∷ ds)

-- the instants are strictly sorted
pub instants_sorted : (ds : List Dose) → Rising (instants ds)
unfolding instants
instants_sorted [] = lone
instants_sorted (d ∷ ds) = insert_rises d.release _ (insert_rises d.deadline _ (instants_sorted ds))

-- every release and every deadline is one
pub instants_have : (ds : List Dose) (v : ℕ) → Bound v ds → Member v (instants ds)
unfolding instants
instants_have [] v x' = elim x' [ ]
instants_have (d ∷ ds) v (opens e) = rw e (insert_has d.release (insert d.deadline (instants ds)))
instants_have (d ∷ ds) v (closes e) = rw e (insert_keeps d.release _ _ (insert_has d.deadline (instants ds)))
instants_have (d ∷ ds) v (later b) = insert_keeps d.release _ v (insert_keeps d.deadline _ v (instants_have ds v b))

-- and nothing else is
pub instants_only : (ds : List Dose) (v : ℕ) → Member v (instants ds) → Bound v ds
unfolding instants
instants_only [] v m = elim m [ ]
instants_only (d ∷ ds) v m =
    let ih = instants_only ds v in
    elim (insert_only d.release (insert d.deadline (instants ds)) v m) [
      | inl e ↦ opens e
      | inr q ↦ elim (insert_only d.deadline (instants ds) v q) [ inl e ↦ closes e | inr w ↦ later (ih w) ]
    ]

-- ---- one list

-- where a member stands
pub place_of : (v : ℕ) {l : List ℕ} → Member v l → (i : ℕ) × (i < length l) × (get_or l i 0 ≡ v)
place_of v (here e) = (0, omega arith, sym e)
place_of v (there m) = let r = place_of v m in (suc r.0, omega (arith, r.1), r.2)

-- and back
pub member_at : (l : List ℕ) (i : ℕ) → i < length l → Member (get_or l i 0) l
member_at [] i h = absurd (omega arith)
member_at (x ∷ l) zero h = here refl
member_at (x ∷ l) (suc i) h = there (member_at l i (le_of_suc-le-suc h))

-- the head of a strictly sorted list is least
pub head_least : (v x : ℕ) (l : List ℕ) → All (λ y. x < y) l → Member v (x ∷ l) → x ≤ v
head_least v x l a (here e) = omega arith
head_least v x l a (there m) = omega (arith, of_member (λ y. x < y) a v m)

-- ---- intervals

-- a strictly sorted list rises from place to place
rises_by_one : (l : List ℕ) → Rising l → (i : ℕ) → suc i < length l → get_or l i 0 < get_or l (suc i) 0
rises_by_one [] r i h = absurd (omega arith)
rises_by_one (x ∷ l) (then a r) zero h = of_member (λ y. x < y) a (get_or l 0 0) (member_at l 0 (le_of_suc-le-suc h))
rises_by_one (x ∷ l) (then a r) (suc i) h = rises_by_one l r i (le_of_suc-le-suc h)

-- a member is at most what stands at place j, or at least what stands at the next
beside : (l : List ℕ) → Rising l → (v : ℕ) → Member v l → (j : ℕ) → suc j < length l → (v ≤ get_or l j 0) ⊎ (get_or l (suc j) 0 ≤ v)
beside [] _ v x4 j h = elim x4 [ ]
beside (x ∷ l) (then a r) v (here e) zero h = inl (omega arith)
beside (x ∷ l) (then a r) v (here e) (suc j) h =
    inl (omega (arith, of_member (λ y. x < y) a (get_or l j 0) (member_at l j (omega arith))))
beside (x ∷ l) (then a r) v (there m) zero h = inr (first l r m)
  where
    first : (l : List ℕ) → Rising l → Member v l → get_or l 0 0 ≤ v
    first [] _ m = elim m [ ]
    first (y ∷ l) (then b s) m = head_least v y l b m
beside (x ∷ l) (then a r) v (there m) (suc j) h = beside l r v m j (le_of_suc-le-suc h)

bound_release : (ds : List Dose) (k : ℕ) → k < length ds → Bound (get_or ds k no_dose).release ds
bound_release [] k h = absurd (omega arith)
bound_release (d ∷ ds) zero h = opens refl
bound_release (d ∷ ds) (suc k) h = later (bound_release ds k (le_of_suc-le-suc h))

bound_deadline : (ds : List Dose) (k : ℕ) → k < length ds → Bound (get_or ds k no_dose).deadline ds
bound_deadline [] k h = absurd (omega arith)
bound_deadline (d ∷ ds) zero h = closes refl
bound_deadline (d ∷ ds) (suc k) h = later (bound_deadline ds k (le_of_suc-le-suc h))

-- what holds of every release and deadline holds of every bound
every_bound : (P : ℕ → Type 0) (ds : List Dose) → ((k : ℕ) → k < length ds → P (get_or ds k no_dose).release) → ((k : ℕ) → k < length ds → P (get_or ds k no_dose).deadline)
    → (v : ℕ) → Bound v ds → P v
every_bound P [] f g v x3 = elim x3 [ ]
every_bound P (d ∷ ds) f g v (opens e) = rw e (f 0 (omega arith))
every_bound P (d ∷ ds) f g v (closes e) = rw e (g 0 (omega arith))
every_bound P (d ∷ ds) f g v (later b) = every_bound P ds (λ k l. f (suc k) (omega arith)) (λ k l. g (suc k) (omega arith)) v b

insert_length : (n : ℕ) (l : List ℕ) → length (insert n l) ≤ suc (length l)
unfolding insert
insert_length n [] = omega arith
insert_length n (x ∷ l) =
    let ih = insert_length n l in
    elim (where_to n x) [
      | inl h ↦ rw (in_front n x l h) (omega arith)
      | inr r ↦ elim r [ inl e ↦ rw (stands_there n x l e) (omega arith) | inr h ↦ rw (further_on n x l h) (omega arith) ]
    ]

-- there are at most two instants for each dose
pub instants_few : (ds : List Dose) → length (instants ds) ≤ 2 * length ds
unfolding instants
instants_few [] = omega arith
instants_few (d ∷ ds) = omega (arith, insert_length d.release (insert d.deadline (instants ds)), insert_length d.deadline (instants ds), instants_few ds)

module _ (o : Order) where
  -- an interval has some length
  pub instants_rise : (j : ℕ) → j < interval_count o → instant_at o j < instant_at o (j + 1)
  instants_rise j l = rw (add-one j) (rises_by_one (instants o.doses) (instants_sorted o.doses) j (omega arith))

  -- and lies in the week
  pub instants_week : Fit o → (j : ℕ) → instant_at o j ≤ week
  instants_week fit j = elim (compare≤ (length (instants o.doses)) j) [
    | inl h ↦ rw (get_or-eq_default (instants o.doses) 0 h) (omega arith)
    | inr h ↦ every_bound (λ v. v ≤ week) o.doses (λ k l. omega (arith, fit.window k l, fit.week k l)) fit.week _
        (instants_only o.doses _ (member_at (instants o.doses) j h))
  ]

  -- "at most 47"
  pub few_intervals : Fit o → interval_count o ≤ most_intervals
  few_intervals fit = omega (arith, instants_few o.doses, fit.few)

  -- no window opens inside an interval
  pub beside_release : (k j : ℕ) → k < length o.doses → j < interval_count o
      → ((dose_at o k).release ≤ instant_at o j) ⊎ (instant_at o (j + 1) ≤ (dose_at o k).release)
  beside_release k j l q =
      rw (add-one j) (beside (instants o.doses) (instants_sorted o.doses) _ (instants_have o.doses _ (bound_release o.doses k l)) j (omega arith))

  -- and none closes there
  pub beside_deadline : (k j : ℕ) → k < length o.doses → j < interval_count o
      → ((dose_at o k).deadline ≤ instant_at o j) ⊎ (instant_at o (j + 1) ≤ (dose_at o k).deadline)
  beside_deadline k j l q =
      rw (add-one j) (beside (instants o.doses) (instants_sorted o.doses) _ (instants_have o.doses _ (bound_deadline o.doses k l)) j (omega arith))

  -- every window opens at an instant
  pub release_instant : (k : ℕ) → k < length o.doses → (j : ℕ) × (j < length (instants o.doses)) × (instant_at o j ≡ (dose_at o k).release)
  release_instant k l = place_of _ (instants_have o.doses _ (bound_release o.doses k l))

  -- and closes at one
  pub deadline_instant : (k : ℕ) → k < length o.doses → (j : ℕ) × (j < length (instants o.doses)) × (instant_at o j ≡ (dose_at o k).deadline)
  deadline_instant k l = place_of _ (instants_have o.doses _ (bound_deadline o.doses k l))
