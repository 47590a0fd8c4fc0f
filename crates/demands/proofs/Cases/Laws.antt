-- What the tests of CaseTests show: of numbers and sets, of the next class, of shares, of equality. Assumes nothing.
use mathlib.Core.Path.{◌≡◌, refl, ap, ap₂}
use mathlib.Core.Bool.{Bool, true, false, not, ◌&&◌, ◌||◌}
use mathlib.Core.Logic.{◌⊎◌, inl, inr}
use mathlib.Core.List.{List, [], ◌∷◌}
use Prim.Native.Nat.{ℕ, zero, suc, ◌<◌}
use native.Mathlib.Nat.{le_of_suc-le-suc}
use native.Mathlib.Omega.{arith}
use lib.Dec.{T, T_not, not_T, eqb, leb, eqb→eq, leb→le}
use Rattle.model.specs.Sets.{Doses, Sub, Nonempty}
use Rattle.model.specs.Lists.{All, none, also}
use Rattle.model.specs.Classes.{Setting, Row, no_denser, as_dense, NextClass}
use Rattle.model.specs.Shares.{Valid, room, holds, need, got, given}
use Rattle.model.specs.Plans.{Class, Slot}
use Rattle.model.specs.Line.{State, finished, shut, idle, dosing, Point}
use Rattle.model.specs.Answers.{Answer}
use Rattle.model.specs.CaseTests.{all_below, all_in, every_set, marked, inside_test, some_test, gives_way, next_test, room_test, full_test, met_test, valid_test, same_list, same_class, same_slot, same_state, same_point, same_answer, empty_list}
use Rattle.model.proofs.Sums.{last}
use Rattle.model.proofs.Sets.{Alike, alike_sub, alike_back, and_left, and_right, and_both, weight_alike}
use Rattle.model.proofs.FanTime.{P-alike}
use Rattle.model.proofs.Orders.{three, four}

-- ---- what the tests of all members show

pub all_below_lem : (n : ℕ) (f : ℕ → Bool) → T (all_below n f) → (k : ℕ) → k < n → T (f k)
unfolding all_below
all_below_lem zero f t k l = absurd (omega arith)
all_below_lem (suc n) f t k l = elim (last l) [
  | inl e ↦ rw e (and_right (all_below n f) (f n) t)
  | inr q ↦ all_below_lem n f (and_left (all_below n f) (f n) t) k q
]

-- of every member of a list
pub all_in_lem : {A : Type 0} (P : A → Type 0) (f : A → Bool) → ((a : A) → T (f a) → P a) → (l : List A) → T (all_in f l) → All P l
unfolding all_in
all_in_lem P f h [] t = none
all_in_lem P f h (a ∷ l) t = also (h a (and_left (f a) (all_in f l) t)) (all_in_lem P f h l (and_right (f a) (all_in f l) t))

-- all pass, or one does not
all_or_one : (n : ℕ) (f : ℕ → Bool) → T (all_below n f) ⊎ ((k : ℕ) × (k < n) × T (not (f k)))
unfolding all_below
all_or_one zero f = inl tt
all_or_one (suc n) f = elim (all_or_one n f) [
  | inl t ↦ here (f n) refl t
  | inr r ↦ inr (r.0, omega (arith, r.1), r.2)
]
  where
    here : (b : Bool) → f n ≡ b → T (all_below n f) → T (all_below n f && b) ⊎ ((k : ℕ) × (k < suc n) × T (not (f k)))
    here true e t = inl (and_both (all_below n f) true t tt)
    here false e t = inr (n, omega arith, rw e tt)

-- a set of doses below n as a list of marks
marks : ℕ → Doses → List Bool
marks zero B = []
marks (suc n) B = B 0 ∷ marks n (λ k. B (suc k))

marks_alike : (n : ℕ) (B : Doses) → Alike n (marked (marks n B)) B
unfolding marks
marks_alike zero B k l = absurd (omega arith)
marks_alike (suc n) B zero l = refl
marks_alike (suc n) B (suc k) l = marks_alike n (λ k. B (suc k)) k (le_of_suc-le-suc l)

every_set_lem : (n : ℕ) (f : List Bool → Bool) → T (every_set n f) → (B : Doses) → T (f (marks n B))
unfolding every_set marks
every_set_lem zero f t B = t
every_set_lem (suc n) f t B =
    let out = every_set_lem n (λ m. f (false ∷ m)) (and_left (every_set n (λ m. f (false ∷ m))) (every_set n (λ m. f (true ∷ m))) t) (λ k. B (suc k)) in
    let in' = every_set_lem n (λ m. f (true ∷ m)) (and_right (every_set n (λ m. f (false ∷ m))) (every_set n (λ m. f (true ∷ m))) t) (λ k. B (suc k)) in
    go (B 0) out in'
  where
    go : (b : Bool) → T (f (false ∷ marks n (λ k. B (suc k)))) → T (f (true ∷ marks n (λ k. B (suc k)))) → T (f (b ∷ marks n (λ k. B (suc k))))
    go false x y = x
    go true x y = y

-- ---- sets

-- where the one test holds, so does the other
then_so : (a b : Bool) → T (not a || b) → T a → T b
then_so false b t s = elim s [ ]
then_so true b t s = t

so_then : (a b : Bool) → (T a → T b) → T (not a || b)
so_then true b h = h tt
so_then false b h = tt

module _ (S : Setting) where
  open S use {doses as n, intervals as J, grams}

  inside : (A B : Doses) → T (inside_test S A B) → Sub n A B
  unfolding inside_test
  inside A B t k l = then_so (A k) (B k) (all_below_lem n (λ k. not (A k) || B k) t k l)

  inside_back : (A B : Doses) → Sub n A B → T (inside_test S A B)
  unfolding inside_test
  inside_back A B h = elim (all_or_one n (λ k. not (A k) || B k)) [
    | inl t ↦ t
    | inr r ↦ absurd (T_not (not (A r.0) || B r.0) r.2 (so_then (A r.0) (B r.0) (h r.0 r.1)))
  ]

  some : (A : Doses) → T (some_test S A) → Nonempty n A
  unfolding some_test
  some A t = elim (all_or_one n (λ k. not (A k))) [
    | inl all ↦ absurd (T_not (all_below n (λ k. not (A k))) t all)
    | inr r ↦ (r.0, r.1, double (A r.0) r.2)
  ]
    where
      double : (b : Bool) → T (not (not b)) → T b
      double false u = elim u [ ]
      double true u = tt

  some_back : (A : Doses) → Nonempty n A → T (some_test S A)
  unfolding some_test
  some_back A r = not_T (all_below n (λ k. not (A k))) (λ all. T_not (A r.0) (all_below_lem n (λ k. not (A k)) all r.0 r.1) r.2)

  module _ (row : Row) (rest : Doses) where
    -- the test of one set against another, and what it shows
    gives_way_lem : (A B : Doses) → T (gives_way S row rest A B) → Sub n B rest → Nonempty n B → T (no_denser S row B A) × (T (as_dense S row B A) → Sub n B A)
    unfolding gives_way
    gives_way_lem A B t h w =
        let u = then_so (some_test S B) _ (then_so (inside_test S B rest) _ (regroup (inside_test S B rest) (some_test S B) _ t) (inside_back B rest h)) (some_back B w) in
        (and_left (no_denser S row B A) _ u, λ e. inside B A (then_so (as_dense S row B A) (inside_test S B A) (and_right (no_denser S row B A) _ u) e))
      where
        regroup : (a b c : Bool) → T (not a || not b || c) → T (not a || (not b || c))
        regroup true b c x = x
        regroup false b c x = tt

    -- a set that passes is the next class
    pub next : (A : Doses) → T (next_test S row rest A) → NextClass S row rest A
    unfolding next_test
    next A t = record {
      within = inside A rest (and_left (inside_test S A rest) _ (and_left (inside_test S A rest && some_test S A) _ t));
      some = some A (and_right (inside_test S A rest) (some_test S A) (and_left (inside_test S A rest && some_test S A) _ t));
      greatest = λ B h w. rw (weight_alike n grams _ _ (marks_alike n B), P-alike S row _ _ (marks_alike n B)) at (way B h w).0;
      largest = λ B h w e k l u.
          (way B h w).1 (rw (weight_alike n grams _ _ (marks_alike n B), P-alike S row _ _ (marks_alike n B)) e) k l (alike_back n _ _ (marks_alike n B) k l u);
    }
      where
        way : (B : Doses) → Sub n B rest → Nonempty n B
            → T (no_denser S row (marked (marks n B)) A) × (T (as_dense S row (marked (marks n B)) A) → Sub n (marked (marks n B)) A)
        way B h w =
            gives_way_lem A (marked (marks n B)) (every_set_lem n (λ m. gives_way S row rest A (marked m)) (and_right (inside_test S A rest && some_test S A) _ t) B)
            (λ k l u. h k l (alike_sub n _ _ (marks_alike n B) k l u))
            (w.0, w.1, alike_back n _ _ (marks_alike n B) w.0 w.1 w.2)

  -- shares that pass are valid
  pub valid : (row : Row) (A : Doses) (x : ℕ → ℕ → ℕ) → T (valid_test S row A x) → Valid S row A x
  unfolding valid_test room_test full_test met_test
  valid row A x t =
      let r = three (all_below n (room_test S row A x)) (all_below J (full_test S row A x)) (all_below n (met_test S row A x)) t in
      record {
        roomy = λ k j hk hj.
            leb→le (x k j) (room S row A k j) (all_below_lem J (λ j. leb (x k j) (room S row A k j)) (all_below_lem n (room_test S row A x) r.0 k hk) j hj);
        full = λ j hj. eqb→eq (given S row A x j) (holds S row A j) (all_below_lem J (full_test S row A x) r.1 j hj);
        met = λ k hk a.
            eqb→eq (got S row A x k) (need S row A k) (then_so (A k) (eqb (got S row A x k) (need S row A k)) (all_below_lem n (met_test S row A x) r.2 k hk) a);
      }

-- ---- equality

pub same_list_lem : {A : Type 0} (same : A → A → Bool) → ((a b : A) → T (same a b) → a ≡ b) → (l m : List A) → T (same_list same l m) → l ≡ m
unfolding same_list
same_list_lem {A = A} same h [] (b ∷ m) t = elim t [ ]
same_list_lem {A = A} same h (a ∷ l) [] t = elim t [ ]
same_list_lem same h [] [] t = refl
same_list_lem same h (a ∷ l) (b ∷ m) t =
    ap₂ (λ x y. x ∷ y) (h a b (and_left (same a b) (same_list same l m) t)) (same_list_lem same h l m (and_right (same a b) (same_list same l m) t))

pub same_class_lem : (a b : Class) → T (same_class a b) → a ≡ b
unfolding same_class
same_class_lem a b t =
    let r = four (eqb a.number b.number) (eqb a.doses b.doses) (eqb a.weight b.weight) (eqb a.time b.time) t in
    let number = eqb→eq a.number b.number r.0 in
    let doses = eqb→eq a.doses b.doses r.1 in
    let weight = eqb→eq a.weight b.weight r.2 in
    let time = eqb→eq a.time b.time r.3 in
    λ i. record { number = number i; doses = doses i; weight = weight i; time = time i }

pub same_slot_lem : (a b : Slot) → T (same_slot a b) → a ≡ b
unfolding same_slot
same_slot_lem a b t =
    let r = three (eqb a.fan b.fan && eqb a.dose b.dose && eqb a.class b.class)
    (eqb a.start_tick b.start_tick && eqb a.start_part b.start_part && eqb a.end_tick b.end_tick && eqb a.end_part b.end_part)
    (eqb a.weight b.weight && eqb a.time b.time) t in
    let x = three (eqb a.fan b.fan) (eqb a.dose b.dose) (eqb a.class b.class) r.0 in
    let y = four (eqb a.start_tick b.start_tick) (eqb a.start_part b.start_part) (eqb a.end_tick b.end_tick) (eqb a.end_part b.end_part) r.1 in
    let fan = eqb→eq a.fan b.fan x.0 in
    let dose = eqb→eq a.dose b.dose x.1 in
    let class = eqb→eq a.class b.class x.2 in
    let start_tick = eqb→eq a.start_tick b.start_tick y.0 in
    let start_part = eqb→eq a.start_part b.start_part y.1 in
    let end_tick = eqb→eq a.end_tick b.end_tick y.2 in
    let end_part = eqb→eq a.end_part b.end_part y.3 in
    let weight = eqb→eq a.weight b.weight (and_left (eqb a.weight b.weight) (eqb a.time b.time) r.2) in
    let time = eqb→eq a.time b.time (and_right (eqb a.weight b.weight) (eqb a.time b.time) r.2) in
    λ i. record {
      fan = fan i;
      dose = dose i;
      start_tick = start_tick i;
      start_part = start_part i;
      end_tick = end_tick i;
      end_part = end_part i;
      weight = weight i;
      time = time i;
      class = class i;
    }

same_state_lem : (a b : State) → T (same_state a b) → a ≡ b
unfolding same_state
same_state_lem finished shut t = elim t [ ]
same_state_lem finished idle t = elim t [ ]
same_state_lem finished (dosing g) t = elim t [ ]
same_state_lem shut finished t = elim t [ ]
same_state_lem shut idle t = elim t [ ]
same_state_lem shut (dosing g) t = elim t [ ]
same_state_lem idle finished t = elim t [ ]
same_state_lem idle shut t = elim t [ ]
same_state_lem idle (dosing g) t = elim t [ ]
same_state_lem (dosing f) finished t = elim t [ ]
same_state_lem (dosing f) shut t = elim t [ ]
same_state_lem (dosing f) idle t = elim t [ ]
same_state_lem finished finished t = refl
same_state_lem shut shut t = refl
same_state_lem idle idle t = refl
same_state_lem (dosing f) (dosing g) t = ap dosing (eqb→eq f g t)

pub same_point_lem : (a b : Point) → T (same_point a b) → a ≡ b
unfolding same_point
same_point_lem a b t =
    let amount = eqb→eq a.amount b.amount (and_left (eqb a.amount b.amount) (same_state a.state b.state) t) in
    let state = same_state_lem a.state b.state (and_right (eqb a.amount b.amount) (same_state a.state b.state) t) in
    λ i. record { amount = amount i; state = state i }

pub same_answer_lem : (a b : Answer) → T (same_answer a b) → a ≡ b
unfolding same_answer
same_answer_lem a b t =
    let r = three (eqb a.number b.number) (eqb a.place b.place) (eqb a.set b.set && eqb a.weight b.weight && eqb a.time b.time) t in
    let x = three (eqb a.set b.set) (eqb a.weight b.weight) (eqb a.time b.time) r.2 in
    let number = eqb→eq a.number b.number r.0 in
    let place = eqb→eq a.place b.place r.1 in
    let set = eqb→eq a.set b.set x.0 in
    let weight = eqb→eq a.weight b.weight x.1 in
    let time = eqb→eq a.time b.time x.2 in
    λ i. record { number = number i; place = place i; set = set i; weight = weight i; time = time i }

pub empty_list_lem : {A : Type 0} (l : List A) → T (empty_list l) → l ≡ []
unfolding empty_list
empty_list_lem {A = A} (_ ∷ _) t = elim t [ ]
empty_list_lem [] t = refl
