-- The whole sequence of classes: there is one, its rates fall, what the first classes have together, and a loop that finds it.
use mathlib.Core.Bool.{Bool, ◌&&◌, ◌||◌, false, not, true}
use mathlib.Core.Logic.{◌⊎◌, inl, inr}
use mathlib.Core.Path.{◌∙◌, ◌≡◌, ap, fun_ext, refl, sym}
use Prim.Native.Nat.{◌*◌, ◌+◌, ◌<◌, ◌≤◌, suc, zero, ℕ}
use native.Mathlib.Nat.{eq-or-lt_of_le, le_of_lt}
use native.Mathlib.Omega.{arith}
use lib.Dec.{T, T_not}
use Rattle.model.specs.Sets.{Doses, Nonempty, Sub, sum, weight}
use Rattle.model.specs.Classes.{Classes, NextClass, P, Row, Setting, W, class_p, free, open_fans, remaining, reserved}
use Rattle.model.proofs.Sums.{last, sum_le}
use Rattle.model.proofs.Sets.{Alike, Apart, alike, alike_back, le_weight, or_elim, or_left, or_right, size, size_all, weight_all, weight_empty, weight_mono, weight_union}
use Rattle.model.proofs.FanTime.{P-empty, P-union, left, open_fans-alike, open_fans-empty, open_fans-union}
use Rattle.model.proofs.Fractions.{compare≤, denser, pos_left}
use Rattle.model.proofs.NextClass.{falls, next_alike, next_transport, stays}

-- ---- a sequence of sets: what remains after i of them, and their union

-- the union of the first i sets
unfoldable pub upto : (ℕ → Doses) → ℕ → Doses
upto C zero k = false
upto C (suc i) k = upto C i k || C i k

de_morgan : (a b : Bool) → not a && not b ≡ not (a || b)
de_morgan true b = refl
de_morgan false b = refl

-- what remains is what is in no set so far
remaining_upto : (C : ℕ → Doses) (i k : ℕ) → remaining C i k ≡ not (upto C i k)
unfolding remaining upto
remaining_upto C zero k = refl
remaining_upto C (suc i) k = rw (remaining_upto C i k) (de_morgan (upto C i k) (C i k))

-- nothing both remains and is in the union
remaining_apart : (C : ℕ → Doses) (i k : ℕ) → T (remaining C i k) → T (upto C i k) → ⊥
remaining_apart C i k t u = T_not (upto C i k) (rw (remaining_upto C i k) at t) u

-- every dose remains, or is in a set so far
remaining_or : (C : ℕ → Doses) (i k : ℕ) → T (remaining C i k) ⊎ T (upto C i k)
remaining_or C i k = go (upto C i k) refl
  where
    go : (b : Bool) → upto C i k ≡ b → T (remaining C i k) ⊎ T b
    go true e = inr tt
    go false e = inl (rw (remaining_upto C i k, e) tt)

-- a member of a union is in one of its sets
pub upto_find : (C : ℕ → Doses) (i k : ℕ) → T (upto C i k) → (l : ℕ) × (l < i) × T (C l k)
unfolding upto
upto_find C zero k t = elim t [ ]
upto_find C (suc i) k t =
    let ih = upto_find C i k in
    or_elim (upto C i k) (C i k) t (λ u. let r = ih u in (r.0, omega arith, r.2)) (λ u. (i, omega arith, u))

-- a union has the members of its sets
pub upto_has : (C : ℕ → Doses) (i l k : ℕ) → l < i → T (C l k) → T (upto C i k)
unfolding upto
upto_has C zero l k h t = absurd (omega arith)
upto_has C (suc i) l k h t = elim (last h) [
  | inl e ↦ or_right (upto C i k) (C i k) (rw e at t)
  | inr m ↦ or_left (upto C i k) (C i k) (upto_has C i l k m t)
]

module _ (n : ℕ) (C : ℕ → Doses) where
  -- each of the first i sets lies in what those before it leave
  abbrev pub Nested : ℕ → Type 0
  Nested i = (l : ℕ) → l < i → Sub n (C l) (remaining C l)

  -- no dose is in two of them
  pub nested_one : (i : ℕ) → Nested i → (l l' k : ℕ) → l < i → l' < i → k < n → T (C l k) → T (C l' k) → l ≡ l'
  nested_one i h l l' k q q' kn t t' = elim (compare≤ l l') [
    | inl g ↦ elim (eq-or-lt_of_le g) [ inl e ↦ e | inr m ↦ absurd (remaining_apart C l' k (h l' q' k kn t') (upto_has C l' l k m t)) ]
    | inr m ↦ absurd (remaining_apart C l k (h l q k kn t) (upto_has C l l' k m t'))
  ]

  -- the next of such sets is apart from the union of those before
  pub nested_apart : (i : ℕ) → Nested (suc i) → Apart n (upto C i) (C i)
  nested_apart i h k l t u = remaining_apart C i k (h i (omega arith) k l u) t

module _ (S : Setting) where
  open S use {doses as n}

  -- ---- there is one sequence

  -- sequences that agree leave the same doses
  pub remaining_alike : (C C' : ℕ → Doses) (i : ℕ) → ((l : ℕ) → l < i → Alike n (C l) (C' l)) → Alike n (remaining C i) (remaining C' i)
  unfolding remaining
  remaining_alike C C' zero h k q = refl
  remaining_alike C C' (suc i) h k q = rw (remaining_alike C C' i (λ l r. h l (omega arith)) k q, h i (omega arith) k q)

  module _ (F : Row) (C C' : ℕ → Doses) where
    -- and the same fans
    pub free_alike : (i : ℕ) → ((l : ℕ) → l < i → Alike n (C l) (C' l)) → (j : ℕ) → free S F C i j ≡ free S F C' i j
    unfolding free
    free_alike zero h j = refl
    free_alike (suc i) h j =
        let ih = free_alike i (λ l r. h l (omega arith)) j in
        omega (arith, ih, open_fans-alike S (free S F C i) (free S F C' i) (C i) (C' i) j ih (h i (omega arith)))

  module _ (F : Row) (p p' : ℕ) (C C' : ℕ → Doses) (c : Classes S F p C) (c' : Classes S F p' C') where
    step_alike : (i : ℕ) → i < p → i < p' → Alike n (remaining C i) (remaining C' i) → ((j : ℕ) → free S F C i j ≡ free S F C' i j) → Alike n (C i) (C' i)
    step_alike i l l' h e =
        alike n (C i) (C' i) (next_alike S _ _ _ _ (C i) (C' i) e h (c.next i l) (c'.next i l'))
        (next_alike S _ _ _ _ (C' i) (C i) (λ j. sym (e j)) (λ k q. sym (h k q)) (c'.next i l') (c.next i l))

    so_far : (i : ℕ) → i ≤ p → i ≤ p' → (l : ℕ) → l < i → Alike n (C l) (C' l)
    so_far zero h h' l q = absurd (omega arith)
    so_far (suc i) h h' l q =
        let ih = so_far i (omega arith) (omega arith) in
        elim (last q) [ inl e ↦ rw e (step_alike i h h' (remaining_alike C C' i ih) (free_alike F C C' i ih)) | inr r ↦ ih l r ]

    -- two sequences of classes have the same sets
    pub classes_unique : (i : ℕ) → i < p → i < p' → Alike n (C i) (C' i)
    classes_unique i l l' = so_far (suc i) l l' i (omega arith)

    no_shorter : p < p' → ⊥
    no_shorter l =
        let b = c'.next p l in
        let r = b.some in
        c.done r.0 r.1 (alike_back n (remaining C p) (remaining C' p) (remaining_alike C C' p (so_far p (omega arith) (omega arith))) r.0 r.1 (b.within r.0 r.1 r.2))

  -- and as many
  pub count_unique : (F : Row) (p p' : ℕ) (C C' : ℕ → Doses) → Classes S F p C → Classes S F p' C' → p ≡ p'
  count_unique F p p' C C' c c' = elim (compare≤ p p') [
    | inl h ↦ elim (eq-or-lt_of_le h) [ inl e ↦ e | inr l ↦ absurd (no_shorter F p p' C C' c c' l) ]
    | inr l ↦ absurd (no_shorter F p' p C' C c' c l)
  ]

  -- ---- what the first sets have together, each in what those before it leave

  module _ (F : Row) (C : ℕ → Doses) where
    -- the first sets leave the fans that their union leaves
    pub free_left : (i : ℕ) → Nested n C i → (j : ℕ) → free S F C i j ≡ left S F (upto C i) j
    unfolding free upto
    free_left zero h j = omega (arith, open_fans-empty S F j)
    free_left (suc i) h j =
        let ih = free_left i (λ l q. h l (omega arith)) j in
        omega (
          arith,
          ih,
          open_fans-union S F (upto C i) (C i) (nested_apart n C i h) j,
          open_fans-alike S (free S F C i) (left S F (upto C i)) (C i) (C i) j ih (λ k l. refl),
        )

    -- in an interval they reserve together what their union opens
    pub prefix_interval : (i : ℕ) → Nested n C i → (j : ℕ) → sum i (λ l. reserved S F C l j) ≡ open_fans S F (upto C i) j
    unfolding sum upto
    prefix_interval zero h j = sym (open_fans-empty S F j)
    prefix_interval (suc i) h j =
        let down : Nested n C i = λ l q. h l (omega arith) in
        omega (
          arith,
          prefix_interval i down j,
          open_fans-union S F (upto C i) (C i) (nested_apart n C i h) j,
          open_fans-alike S (free S F C i) (left S F (upto C i)) (C i) (C i) j (free_left i down j) (λ k l. refl),
        )

    -- one set more adds its fan time on what is free
    time_step_lem : (i : ℕ) → Nested n C (suc i) → P S F (upto C (suc i)) ≡ P S F (upto C i) + class_p S F C i
    unfolding upto
    time_step_lem i h =
        P-union S F (upto C i) (C i) (nested_apart n C i h)
        ∙ ap (λ (row : Row). P S F (upto C i) + P S row (C i)) (sym (fun_ext (free_left i (λ l q. h l (omega arith)))))

    -- the fan times of the first sets are together that of their union
    pub prefix : (i : ℕ) → Nested n C i → sum i (λ l. class_p S F C l) ≡ P S F (upto C i)
    unfolding sum upto
    prefix zero h = sym (P-empty S F)
    prefix (suc i) h = omega (arith, prefix i (λ l q. h l (omega arith)), time_step_lem i h)

  -- and so are their weights
  pub prefix_weight : (C : ℕ → Doses) (w : ℕ → ℕ) (i : ℕ) → Nested n C i → sum i (λ l. weight n w (C l)) ≡ weight n w (upto C i)
  unfolding sum upto
  prefix_weight C w zero h = sym (weight_empty n w)
  prefix_weight C w (suc i) h = omega (arith, prefix_weight C w i (λ l q. h l (omega arith)), weight_union n w (upto C i) (C i) (nested_apart n C i h))

  -- ---- the classes

  module _ (F : Row) (p : ℕ) (C : ℕ → Doses) (c : Classes S F p C) where
    -- each class lies in what those before it leave
    pub nested : (i : ℕ) → i ≤ p → Nested n C i
    nested i h l q = (c.next l (omega arith)).within

    -- no dose is in two classes
    pub one_class : (l l' k : ℕ) → l < p → l' < p → k < n → T (C l k) → T (C l' k) → l ≡ l'
    one_class = nested_one n C p (nested p (omega arith))

    -- the union of the classes has every dose
    pub all_in_lem : (k : ℕ) → k < n → T (upto C p k)
    all_in_lem k l = elim (remaining_or C p k) [ inl t ↦ absurd (c.done k l t) | inr t ↦ t ]

    fall_step : (i : ℕ) → suc i < p → W S (C (suc i)) * class_p S F C i < W S (C i) * class_p S F C (suc i)
    unfolding remaining free
    fall_step i l =
        falls S (free S F C i) (remaining C i) (C i) (c.next i (omega arith)) (C (suc i)) (c.next (suc i) l).within (c.next (suc i) l).some

    -- the rates fall strictly from class to class
    pub rates_fall_lem : (i l : ℕ) → i < l → l < p → W S (C l) * class_p S F C i < W S (C i) * class_p S F C l
    rates_fall_lem i zero h q = absurd (omega arith)
    rates_fall_lem i (suc l) h q = elim (last h) [
      | inl e ↦ rw e (fall_step l q)
      | inr m ↦
          let ih = rates_fall_lem i l m (omega arith) in
          denser (W S (C i)) (class_p S F C i) (W S (C l)) (class_p S F C l) (W S (C (suc l))) (class_p S F C (suc l)) (le_of_lt ih) (fall_step l q) (pos_left _ _ _ ih)
    ]

    -- no earlier class is slower
    pub no_slower : (l i : ℕ) → l ≤ i → i < p → W S (C i) * class_p S F C l ≤ W S (C l) * class_p S F C i
    no_slower l i h q = elim (eq-or-lt_of_le h) [ inl e ↦ rw e (omega arith) | inr m ↦ le_of_lt (rates_fall_lem l i m q) ]

    -- the doses that the first i classes leave keep open fan time, if all doses had some at first
    pub remaining_open : ((B : Doses) → Nonempty n B → 0 < P S F B)
        → (i : ℕ) → i ≤ p → (B : Doses) → Sub n B (remaining C i) → Nonempty n B → 0 < P S (free S F C i) B
    unfolding remaining free
    remaining_open h zero l B sub some = h B some
    remaining_open h (suc i) l B sub some = stays S (free S F C i) (remaining C i) (C i) (c.next i l) B sub some

    -- every class has open fan time, if the first has
    pub stays_open : 0 < P S F (C 0) → (i : ℕ) → i < p → 0 < class_p S F C i
    unfolding remaining free
    stays_open h zero l = h
    stays_open h (suc i) l = stays S (free S F C i) (remaining C i) (C i) (c.next i (omega arith)) (C (suc i)) (c.next (suc i) l).within (c.next (suc i) l).some

    -- there are no more classes than doses
    pub few_classes : p ≤ n
    few_classes =
        omega (
          arith,
          sum_le p (λ l q. one_each l q),
          weight_all p (λ k. 1),
          size_all p,
          prefix_weight C (λ k. 1) p (nested p (omega arith)),
          weight_mono n (λ k. 1) (upto C p) (λ k. true) (λ k l t. tt),
          size_all n,
        )
      where
        one_each : (l : ℕ) → l < p → 1 ≤ size n (C l)
        one_each l q = let r = (c.next l q).some in le_weight n (λ k. 1) (C l) r.0 r.1 r.2

  -- ---- one class after the other, as a loop finds them

  -- the first i classes
  pub record Found (F : Row) (i : ℕ) (C : ℕ → Doses) : Type 0 where
    pub next : (l : ℕ) → l < i → NextClass S (free S F C l) (remaining C l) (C l)

  -- at first no class is found
  pub found_none : (F : Row) (C : ℕ → Doses) → Found F 0 C
  found_none F C = record { next = λ l q. absurd (omega arith) }

  -- C' has the sets of C below i, and at i the next class
  pub found_more : (F : Row) (i : ℕ) (C C' : ℕ → Doses) → ((l : ℕ) → l < i → Alike n (C l) (C' l)) → Found F i C
      → NextClass S (free S F C i) (remaining C i) (C' i) → Found F (suc i) C'
  found_more F i C C' h f a = record { next = λ l q. go l (last q) }
    where
      up_to : (l : ℕ) → l ≤ i → (l' : ℕ) → l' < l → Alike n (C l') (C' l')
      up_to l q l' r = h l' (omega arith)

      go : (l : ℕ) → (l ≡ i) ⊎ (l < i) → NextClass S (free S F C' l) (remaining C' l) (C' l)
      go l (inl e) =
          rw e (next_transport S (free S F C i) (free S F C' i) (remaining C i) (remaining C' i) (C' i) (C' i)
          (free_alike F C C' i h) (remaining_alike C C' i h) (λ k r. refl) a)
      go l (inr q) =
          next_transport S (free S F C l) (free S F C' l) (remaining C l) (remaining C' l) (C l) (C' l)
          (free_alike F C C' l (up_to l (le_of_lt q))) (remaining_alike C C' l (up_to l (le_of_lt q))) (h l q) (f.next l q)

  -- nothing remains: these are the classes
  pub found_all : (F : Row) (p : ℕ) (C : ℕ → Doses) → Found F p C → size n (remaining C p) ≡ 0 → Classes S F p C
  found_all F p C f z = record { next = f.next; done = λ k l t. omega (arith, le_weight n (λ k. 1) (remaining C p) k l t) }
