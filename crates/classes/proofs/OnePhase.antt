-- One phase: the tally so far with the next class is the tally so far. Assumes nothing.
use mathlib.Core.Bool.{Bool, true, false, not, ◌&&◌}
use mathlib.Core.List.{List}
use mathlib.Core.Logic.{inl, inr}
use mathlib.Core.Path.{◌≡◌, refl, sym, ap, ap₂, ◌∙◌, subst}
use Prim.Native.Nat.{ℕ, zero, suc, ◌+◌, ◌-◌, ◌*◌, ◌<◌, ◌≤◌}
use native.Mathlib.Numerals.{add-one}
use native.Mathlib.Omega.{arith}
use borrow.Author.Tests.{eq-eqb, lt-ltb, le-ltb}
use lib.Arith.{digits_div}
use lib.Dec.{T, T_not, eqb, eqb→eq}
use lib.ListN.{length, get_or, replicate}
use Rattle.model.specs.Limits.{cells, most_doses, most_intervals}
use Rattle.model.specs.Sets.{sum, on, Doses, Nonempty}
use Rattle.model.specs.Classes.{Setting, Row, W, P, NextClass, Classes, class_p, reserved, remaining, free, open_fans}
use Rattle.model.specs.Shares.{Valid}
use Rattle.model.proofs.Sums.{last}
use Rattle.model.proofs.Sets.{Alike, ◌∩◌, and_left, and_right, and_both, same_test, on_no, on_yes, size, size_all, le_weight, weight_pos, weight_part, weight_alike}
use Rattle.model.proofs.Same.{agree_refl, fans_same, time_same, valid_same, next_same}
use Rattle.model.proofs.Sequence.{Found, found_none, found_more, found_all, remaining_alike, free_alike}
use Rattle.class_chains.specs.Chains.{cell}
use Rattle.measure.specs.declared.arrays.Setting as measure
use Rattle.measure.specs.Arrays.{set_of, active_of, row_of, intervals_of}
use Rattle.measure.specs.Held.{as_setting}
use Rattle.steps.proofs.Arrays.{all_same}
use Rattle.measure.specs.Measure.{Measured}
use Rattle.measure.proofs.Free.{frees_sum}
use Rattle.class_rounds.specs.Rounds.{Chosen}
use Rattle.classes.specs.declared.Tally.{Tally}
use Rattle.classes.specs.Phase.{choose, row_at, classes_in, shares_in, Start, Blank, Reserved, After, KeptShares, Past, SoFar}

-- a set with a member has a size
pub some_size : (n : ℕ) (A : Doses) → Nonempty n A → 1 ≤ size n A
some_size n A r = le_weight n (λ k. 1) A r.0 r.1 r.2

-- what remains is in no class so far
remaining_not : (C : ℕ → Doses) (i l k : ℕ) → l < i → T (remaining C i k) → T (C l k) → ⊥
unfolding remaining
remaining_not C zero l k h t u = omega arith
remaining_not C (suc i) l k h t u = elim (last h) [
  | inl e ↦ T_not (C i k) (and_right (remaining C i k) (not (C i k)) t) (rw e at u)
  | inr m ↦ remaining_not C i l k m (and_left (remaining C i k) (not (C i k)) t) u
]

rows_same : (n i j : ℕ) → row_at (replicate n (replicate most_intervals 0)) i j ≡ 0
rows_same zero i j = refl
rows_same (suc n) zero j = all_same most_intervals j 0
rows_same (suc n) (suc i) j = rows_same n i j

-- at first nothing is reserved or given
pub blank : Blank (replicate most_doses (replicate most_intervals 0)) (replicate cells 0)
blank = record { rows = rows_same most_doses; cells = λ i. all_same cells i 0 }

all_remain : (C : ℕ → Doses) (k : ℕ) → remaining C 0 k ≡ true
unfolding remaining
all_remain C k = refl

module _ (laid : measure.Setting) (F : Row) where
  abbrev S : Setting
  S = as_setting laid

  abbrev n : ℕ
  n = laid.order.count

  abbrev J : ℕ
  J = intervals_of laid.instants

  -- the laws of `Same`, for one setting and other fans
  module _ (row row' : Row) (er : (j : ℕ) → j < J → row j ≡ row' j) where
    next_as : (rest rest' A A' : Doses) → Alike n rest rest' → Alike n A A' → NextClass S row rest A → NextClass S row' rest' A'
    next_as = next_same S S (agree_refl S) row row' er

    module _ (A A' : Doses) (e_a : Alike n A A') where
      time_as : P S row A ≡ P S row' A'
      time_as = time_same S S (agree_refl S) row row' er A A' e_a

      fans_as : (j : ℕ) → j < J → open_fans S row A j ≡ open_fans S row' A' j
      fans_as = fans_same S S (agree_refl S) row row' er A A' e_a

      valid_as : (x x' : ℕ → ℕ → ℕ) → ((k j : ℕ) → k < n → j < J → x k j ≡ x' k j) → Valid S row A x → Valid S row' A' x'
      valid_as = valid_same S S (agree_refl S) row row' er A A' e_a

  module _ (t : Tally) (table : List (List ℕ)) (shares : List ℕ) (so : SoFar S F t table shares) (less : t.classed < n) where
    abbrev i : ℕ
    i = t.class

    abbrev C : ℕ → Doses
    C = classes_in t

    -- the next class has a dose
    pub some_remain : Nonempty n (set_of t.remaining)
    some_remain =
        let r = weight_pos n (λ k. 1) (remaining C i) (omega (arith, so.counted)) in
        (r.0, r.1, rw (so.rest r.0 r.1) r.2)

    module _ (free-row : List ℕ) (hf : (j : ℕ) → j < most_intervals → get_or free-row j 0 ≡ F j - sum i (λ l. row_at table l j)) where
      rows_here : (j : ℕ) → j < J → row_of free-row j ≡ free S F C i j
      rows_here = (frees_sum S F C i free-row (row_at table) so_rows (λ j q. hf j (omega arith))).left
        where
          so_rows : (l j : ℕ) → l < i → j < J → row_at table l j ≡ reserved S F C l j
          so_rows l j m q = so.rows l j m q

      module _ (members : List Bool) (x reserved-fans : List ℕ) (w p : ℕ) (measured : Measured S (row_of free-row) (set_of members) w p reserved-fans)
          (chosen : Chosen S (row_of free-row) (set_of t.remaining) (set_of members) x) (t' : Tally) (table' : List (List ℕ)) (shares' : List ℕ)
          (after : After n members w p t t') (row : Reserved i reserved-fans table table') (kept : KeptShares members x shares shares') where
        abbrev C' : ℕ → Doses
        C' = classes_in t'

        abbrev A : Doses
        A = set_of members

        -- a member remained
        remained : (k : ℕ) → k < n → T (A k) → T (remaining C i k)
        remained k q u = rw (so.rest k q) at (chosen.next.within k q u)

        number : (k : ℕ) → k < n → get_or t'.numbers k 0 ≡ choose (A k) (i + 1) (get_or t.numbers k 0)
        number k q = after.numbers k (omega arith)

        of_member : (k l : ℕ) → k < n → T (A k) → C' l k ≡ eqb (i + 1) (l + 1)
        of_member k l q u = go (A k) u (number k q)
          where
            go : (b : Bool) → T b → get_or t'.numbers k 0 ≡ choose b (i + 1) (get_or t.numbers k 0) → C' l k ≡ eqb (i + 1) (l + 1)
            go false u e = elim u [ ]
            go true u e = ap (λ (m : ℕ). eqb m (l + 1)) e

        of_other : (k l : ℕ) → k < n → (T (A k) → ⊥) → C' l k ≡ C l k
        of_other k l q u = go (A k) u (number k q)
          where
            go : (b : Bool) → (T b → ⊥) → get_or t'.numbers k 0 ≡ choose b (i + 1) (get_or t.numbers k 0) → C' l k ≡ C l k
            go true u e = absurd (u tt)
            go false u e = ap (λ (m : ℕ). eqb m (l + 1)) e

        member_or : {X : Type 0} (k : ℕ) → (T (A k) → X) → ((T (A k) → ⊥) → X) → X
        member_or {X} k f g = go (A k) refl
          where
            go : (b : Bool) → A k ≡ b → X
            go true e = f (rw e tt)
            go false e = g (λ u. rw e at u)

        -- the earlier classes are as before
        alike_below : (l : ℕ) → l < i → Alike n (C l) (C' l)
        alike_below l m k q =
            member_or k
            (λ u. same_test (C l k) (C' l k) (λ v. absurd (remaining_not C i l k m (remained k q u) v))
            (λ v. absurd (omega (arith, eqb→eq (i + 1) (l + 1) (rw (of_member k l q u) at v)))))
            (λ u. sym (of_other k l q u))

        -- and the next is the members
        alike_here : Alike n A (C' i)
        alike_here k q =
            same_test (A k) (C' i k) (λ u. rw (of_member k i q u, eq-eqb (i + 1) (i + 1) refl) tt)
            (λ v. member_or k (λ u. u) (λ u. absurd (so.later k i q (omega arith) (rw (of_other k i q u) at v))))

        free' : (l : ℕ) → l ≤ i → (j : ℕ) → free S F C l j ≡ free S F C' l j
        free' l m j = free_alike S F C C' l (λ l' q. alike_below l' (omega arith)) j

        rows' : (j : ℕ) → j < J → row_of free-row j ≡ free S F C' i j
        rows' j q = rows_here j q ∙ free' i (omega arith) j

        -- what holds of the next class and of the earlier ones holds of all
        each_class : (P : ℕ → Type 0) → P i → ((l : ℕ) → l < i → P l) → (l : ℕ) → l < t'.class → P l
        each_class P here below l q = let h : l < suc i = omega (arith, after.class) in elim (last h) [ inl e ↦ rw e here | inr m ↦ below l m ]

        next_number : t'.class ≡ suc i
        next_number = after.class ∙ add-one i

        taken : size n (set_of members) ≡ size n (C' i)
        taken = weight_alike n (λ k. 1) A (C' i) alike_here

        -- what remains
        rest' : (k : ℕ) → k < n → get_or t'.remaining k false ≡ remaining C' (suc i) k
        unfolding remaining
        rest' k q =
            after.remaining k (omega arith)
            ∙ ap₂ (λ (a b : Bool). a && not b) (so.rest k q ∙ remaining_alike S C C' i alike_below k q) (alike_here k q)

        counted' : size n (remaining C' (suc i)) + t'.classed ≡ n
        unfolding remaining
        counted' =
            omega (
              arith,
              so.counted,
              after.classed,
              taken,
              weight_part n (λ k. 1) (C' i) (remaining C' i),
              weight_alike n (λ k. 1) (remaining C i) (remaining C' i) (remaining_alike S C C' i alike_below),
              weight_alike n (λ k. 1) (remaining C' i ∩ C' i) (C' i)
                  (λ k q. same_test _ (C' i k) (and_right (remaining C' i k) (C' i k))
                  (λ u. and_both (remaining C' i k) (C' i k) (rw (remaining_alike S C C' i alike_below k q) at (remained k q (rw (← alike_here k q) at u))) u)),
            )

        later' : (k l : ℕ) → k < n → t'.class ≤ l → T (C' l k) → ⊥
        later' k l q m v =
            member_or k (λ u. omega (arith, eqb→eq (i + 1) (l + 1) (rw (of_member k l q u) at v), after.class))
            (λ u. so.later k l q (omega (arith, after.class)) (rw (of_other k l q u) at v))

        -- the shares
        cell_at : (k j : ℕ) → k < most_doses → j < most_intervals → cell shares' k j ≡ choose (A k) (cell x k j) (cell shares k j)
        cell_at k j l q =
            kept (k * most_intervals + j) (omega arith) ∙ ap (λ (d : ℕ). choose (get_or members d false) (cell x k j) (cell shares k j)) (digits_div k q)

        share_at_lem : (k j : ℕ) → k < n → j < J → cell shares' k j ≡ choose (A k) (cell x k j) (cell shares k j)
        share_at_lem k j q m = cell_at k j (omega arith) (omega arith)

        share_other : (k j : ℕ) → k < n → j < J → (T (A k) → ⊥) → cell shares' k j ≡ cell shares k j
        share_other k j q m u = go (A k) u (share_at_lem k j q m)
          where
            go : (b : Bool) → (T b → ⊥) → cell shares' k j ≡ choose b (cell x k j) (cell shares k j) → cell shares' k j ≡ cell shares k j
            go true u e = absurd (u tt)
            go false u e = e

        share_member : (k j : ℕ) → k < n → j < J → T (A k) → cell shares' k j ≡ cell x k j
        share_member k j q m u = go (A k) u (share_at_lem k j q m)
          where
            go : (b : Bool) → T b → cell shares' k j ≡ choose b (cell x k j) (cell shares k j) → cell shares' k j ≡ cell x k j
            go false u e = elim u [ ]
            go true u e = e

        shares_below : (l k j : ℕ) → l < i → k < n → j < J → shares_in t shares l k j ≡ shares_in t' shares' l k j
        shares_below l k j m q h =
            let gone : T (A k) → T (C l k) → ⊥ = λ u v. remaining_not C i l k m (remained k q u) v in
            member_or k
            (λ u. on_no (C l k) _ (gone u) ∙ sym (on_no (C' l k) _ (λ v. gone u (rw (← alike_below l m k q) at v))))
            (λ u. ap₂ on (alike_below l m k q) (sym (share_other k j q h u)))

        shares_here : (k j : ℕ) → k < n → j < J → cell x k j ≡ shares_in t' shares' i k j
        shares_here k j q m =
            member_or k
            (λ u. sym (on_yes (C' i k) (cell shares' k j) (rw (alike_here k q) at u) ∙ share_member k j q m u))
            (λ u. none u ∙ sym (on_no (C' i k) _ (λ v. u (rw (← alike_here k q) at v))))
          where
            none : (T (A k) → ⊥) → cell x k j ≡ 0
            none u =
                let e : on (A k && active_of laid.active k j) (get_or laid.lens j 0 * W S A) ≡ 0 = on_no (A k && active_of laid.active k j) _ (λ v. u (and_left (A k) (active_of laid.active k j) v)) in
                omega (arith, chosen.valid.roomy k j q m)

        -- what is worked out for the members is so for the next class, and what was for an earlier class still is
        module _ (l : ℕ) (m : l < i) where
          weight_below : get_or t'.weight l 0 ≡ W S (C' l)
          weight_below = after.other_weight l (λ e. omega arith) ∙ so.weight l m ∙ weight_alike n _ (C l) (C' l) (alike_below l m)

          time_below : get_or t'.time l 0 ≡ class_p S F C' l
          time_below = after.other_time l (λ e. omega arith) ∙ so.time l m ∙ time_as (free S F C l) (free S F C' l) (λ j q. free' l (omega arith) j) (C l) (C' l) (alike_below l m)

          row_below : (j : ℕ) → j < J → row_at table' l j ≡ reserved S F C' l j
          row_below j q = row.others l j (λ e. omega arith) ∙ so.rows l j m q ∙ fans_as (free S F C l) (free S F C' l) (λ j q. free' l (omega arith) j) (C l) (C' l) (alike_below l m) j q

          valid_below : Valid S (free S F C' l) (C' l) (shares_in t' shares' l)
          valid_below =
              valid_as (free S F C l) (free S F C' l) (λ j q. free' l (omega arith) j) (C l) (C' l) (alike_below l m) (shares_in t shares l) (shares_in t' shares' l)
              (λ k j q h. shares_below l k j m q h) (so.valid l m)

        -- nothing stands past the doses, the intervals and the classes
        none_of : (b : Bool) {u v : ℕ} → u ≡ 0 → v ≡ 0 → choose b u v ≡ 0
        none_of true e f = e
        none_of false e f = f

        past' : Past n J t' table' shares'
        past' = record {
          no_rest = λ k g l. after.remaining k l ∙ ap (λ (b : Bool). b && not (get_or members k false)) (so.past.no_rest k g l);
          no_number = λ k g l. after.numbers k l ∙ ap (λ (b : Bool). choose b (i + 1) (get_or t.numbers k 0)) (chosen.past k g l) ∙ so.past.no_number k g l;
          no_weight = λ l g. after.other_weight l (λ e. omega (arith, after.class)) ∙ so.past.no_weight l (omega (arith, after.class));
          no_time = λ l g. after.other_time l (λ e. omega (arith, after.class)) ∙ so.past.no_time l (omega (arith, after.class));
          no_row = λ l j g. row.others l j (λ e. omega (arith, after.class)) ∙ so.past.no_row l j (omega (arith, after.class));
          no_column = λ l j q g h. each_class (λ l. row_at table' l j ≡ 0) (row.own j h ∙ measured.no_fans j g h)
              (λ l m. row.others l j (λ e. omega arith) ∙ so.past.no_column l j m g h) l q;
          no_dose = λ k j g l q. cell_at k j l q ∙ ap (λ (b : Bool). choose b (cell x k j) (cell shares k j)) (chosen.past k g l) ∙ so.past.no_dose k j g l q;
          no_interval = λ k j l g q. cell_at k j l q ∙ none_of (A k) (chosen.none k j l q (laid.arrays.no_interval k j l g q)) (so.past.no_interval k j l g q);
        }

        pub so_far_next : SoFar S F t' table' shares'
        so_far_next = record {
          tall = row.tall;
          found = subst (λ (m : ℕ). Found S F m C') (sym next_number) (found_more S F i C C' alike_below so.found
              (next_as (row_of free-row) (free S F C i) rows_here
              (set_of t.remaining) (remaining C i) A (C' i) so.rest alike_here chosen.next));
          rest = λ k q. rest' k q ∙ ap (λ (m : ℕ). remaining C' m k) (sym next_number);
          counted = subst (λ (m : ℕ). size n (remaining C' m) + t'.classed ≡ n) (sym next_number) counted';
          each = omega (arith, so.each, after.class, after.classed, some_size n A chosen.next.some);
          later = later';
          weight = each_class (λ l. get_or t'.weight l 0 ≡ W S (C' l)) (after.weight ∙ measured.weight ∙ weight_alike n _ A (C' i) alike_here) weight_below;
          time = each_class (λ l. get_or t'.time l 0 ≡ class_p S F C' l) (after.time ∙ measured.time ∙ time_as (row_of free-row) (free S F C' i) rows' A (C' i) alike_here) time_below;
          rows = λ l j q m. each_class (λ l. row_at table' l j ≡ reserved S F C' l j)
              (row.own j (omega arith) ∙ measured.fans j m ∙ fans_as (row_of free-row) (free S F C' i) rows' A (C' i) alike_here j m)
              (λ l h. row_below l h j m) l q;
          valid = each_class (λ l. Valid S (free S F C' l) (C' l) (shares_in t' shares' l))
              (valid_as (row_of free-row) (free S F C' i) rows' A (C' i) alike_here (cell x) (shares_in t' shares' i) shares_here chosen.valid) valid_below;
          past = past';
        }

  -- at first no class is found, and every dose remains
  pub so_far_start : (t : Tally) (table : List (List ℕ)) (shares : List ℕ) → Start n t → length table ≡ most_doses → Blank table shares → SoFar S F t table shares
  so_far_start t table shares z h blank = record {
    tall = h;
    found = subst (λ (i : ℕ). Found S F i (classes_in t)) (sym z.class) (found_none S F (classes_in t));
    rest = λ k q. z.remaining k (omega arith) ∙ lt-ltb k n q ∙ sym (ap (λ (i : ℕ). remaining (classes_in t) i k) z.class ∙ all_remain (classes_in t) k);
    counted = ap (λ (i : ℕ). size n (remaining (classes_in t) i) + t.classed) z.class
        ∙ omega (arith, z.classed, weight_alike n (λ k. 1) (remaining (classes_in t) 0) (λ k. true) (λ k q. all_remain (classes_in t) k), size_all n);
    each = omega (arith, z.class);
    later = λ k i q g v. omega (arith, eqb→eq (get_or t.numbers k 0) (i + 1) v, ap (λ (l : List ℕ). get_or l k 0) z.numbers, all_same {A = ℕ} most_doses k 0);
    weight = λ i l. absurd (omega (arith, z.class));
    time = λ i l. absurd (omega (arith, z.class));
    rows = λ i j l. absurd (omega (arith, z.class));
    valid = λ i l. absurd (omega (arith, z.class));
    past = record {
      no_rest = λ k g l. z.remaining k l ∙ le-ltb k n g;
      no_number = λ k g l. ap (λ (l : List ℕ). get_or l k 0) z.numbers ∙ all_same {A = ℕ} most_doses k 0;
      no_weight = λ i g. ap (λ (l : List ℕ). get_or l i 0) z.weight ∙ all_same most_doses i 0;
      no_time = λ i g. ap (λ (l : List ℕ). get_or l i 0) z.time ∙ all_same most_doses i 0;
      no_row = λ i j g. blank.rows i j;
      no_column = λ i j l g h. blank.rows i j;
      no_dose = λ k j g l q. blank.cells (k * most_intervals + j);
      no_interval = λ k j l g q. blank.cells (k * most_intervals + j);
    };
  }

  -- no dose remains: these are the classes
  pub so_far_end : (t : Tally) (table : List (List ℕ)) (shares : List ℕ) → SoFar S F t table shares → t.classed ≡ n → Classes S F t.class (classes_in t)
  so_far_end t table shares so e = found_all S F t.class (classes_in t) so.found (omega (arith, so.counted))

  pub none_remains : (t : Tally) (table : List (List ℕ)) (shares : List ℕ) → SoFar S F t table shares → t.classed ≡ n → (k : ℕ) → k < n
      → get_or t.remaining k false ≡ false
  none_remains t table shares so e k q = so.rest k q ∙ off (remaining (classes_in t) t.class k) (λ u. omega (arith, le_weight n (λ k. 1) (remaining (classes_in t) t.class) k q u, so.counted))
    where
      off : (b : Bool) → (T b → ⊥) → b ≡ false
      off true f = absurd (f tt)
      off false f = refl
