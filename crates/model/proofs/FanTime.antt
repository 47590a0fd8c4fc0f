-- Laws of open fan time: larger sets, unions, sets apart, and the same sum over any finer division of time.
use mathlib.Core.Bool.{Bool, ◌&&◌, ◌||◌, false, not, true}
use mathlib.Core.Path.{◌∙◌, ◌≡◌, ap}
use Prim.Native.Nat.{◌*◌, ◌+◌, ◌-◌, ◌<◌, ◌≤◌, ℕ}
use native.Mathlib.Nat.{le_antisymm, mul-add, mul-le-mul_left}
use native.Mathlib.Omega.{arith}
use lib.Dec.{T, T_not}
use Rattle.model.specs.Sets.{Doses, Nonempty, Sub, on}
use Rattle.model.specs.Classes.{P, Row, Setting, W, open_fans}
use Rattle.model.proofs.Sums.{sum_add, sum_congr, sum_le, sum_le₂, sum_zero}
use Rattle.model.proofs.Sets.{Alike, Apart, ◌∖◌, ◌∩◌, ◌∪◌, alike_back, alike_sub, and_left, and_right, inter, le_weight, or_elim, or_left, or_right, weight_alike, weight_empty, weight_modular, weight_mono, weight_union}

-- every dose weighs at least a gram
abbrev pub Heavy : Setting → Type 0
Heavy S = (k : ℕ) → k < S.doses → 1 ≤ S.grams k

module _ (S : Setting) where
  open S use {doses as n, intervals as J, active, len, grams}

  -- where every dose weighs, a set with a member weighs
  pub weighs : Heavy S → (A : Doses) → Nonempty n A → 0 < W S A
  weighs heavy A (k, l, t) = omega (arith, le_weight n grams A k l t, heavy k l)

  -- the fans that A leaves
  abbrev pub left : Row → Doses → Row
  left row A j = row j - open_fans S row A j

  module _ (row : Row) (A B : Doses) where
    -- more doses open no fewer fans
    pub open_fans-mono : Sub n A B → (j : ℕ) → open_fans S row A j ≤ open_fans S row B j
    unfolding open_fans
    open_fans-mono h j = omega (arith, weight_mono n (λ k. on (active k j) 1) A B h)

    open_fans-sub : (j : ℕ) → open_fans S row (A ∪ B) j + open_fans S row (A ∩ B) j ≤ open_fans S row A j + open_fans S row B j
    unfolding open_fans
    open_fans-sub j =
        omega (
          arith,
          weight_modular n (λ k. on (active k j) 1) A B,
          weight_mono n (λ k. on (active k j) 1) (A ∩ B) A (λ k l. and_left (A k) (B k)),
          weight_mono n (λ k. on (active k j) 1) (A ∩ B) B (λ k l. and_right (A k) (B k)),
        )

    -- more doses have no less fan time
    pub P-mono : Sub n A B → P S row A ≤ P S row B
    unfolding P
    P-mono h = sum_le J (λ j l. mul-le-mul_left (len j) (open_fans-mono h j))

    -- a union and what is common have no more fan time than the two sets
    pub P-sub : P S row (A ∪ B) + P S row (A ∩ B) ≤ P S row A + P S row B
    unfolding P
    P-sub = sum_le₂ J _ _ _ _ (λ j l. omega (arith, mul-le-mul_left (len j) (open_fans-sub j)))

    -- of two sets apart, the second opens fans that the first leaves
    pub open_fans-union : Apart n A B → (j : ℕ) → open_fans S row (A ∪ B) j ≡ open_fans S row A j + open_fans S (left row A) B j
    unfolding open_fans
    open_fans-union h j = omega (arith, weight_union n (λ k. on (active k j) 1) A B h)

    -- and has fan time on those
    pub P-union : Apart n A B → P S row (A ∪ B) ≡ P S row A + P S (left row A) B
    unfolding P
    P-union h = sum_congr J (λ j l. ap (λ (x : ℕ). len j * x) (open_fans-union h j) ∙ mul-add _ _ _) ∙ sum_add J _ _

  -- sets that agree open the same fans
  pub open_fans-alike : (row row' : Row) (A B : Doses) (j : ℕ) → row j ≡ row' j → Alike n A B → open_fans S row A j ≡ open_fans S row' B j
  unfolding open_fans
  open_fans-alike row row' A B j e h = omega (arith, weight_alike n (λ k. on (active k j) 1) A B h)

  -- and have the same fan time
  pub P-alike : (row : Row) (A B : Doses) → Alike n A B → P S row A ≡ P S row B
  P-alike row A B h = le_antisymm (P-mono row A B (alike_sub n A B h)) (P-mono row B A (alike_back n A B h))

  -- the part of B in A, and the rest of B on what A leaves, have no more than B
  pub P-part : (row : Row) (A B : Doses) → P S row (B ∩ A) + P S (left row A) (B ∖ A) ≤ P S row B
  P-part row A B =
      omega (
        arith,
        P-union row A (B ∖ A) (λ k l s t. T_not (A k) (and_right (B k) (not (A k)) t) s),
        P-sub row A B,
        P-mono row (A ∪ B) (A ∪ (B ∖ A)) (λ k l t. joined (A k) (B k) t),
        P-mono row (A ∪ (B ∖ A)) (A ∪ B) (λ k l t. or_elim (A k) ((B ∖ A) k) t (or_left (A k) (B k)) (λ u. or_right (A k) (B k) (and_left (B k) (not (A k)) u))),
        P-mono row (B ∩ A) (A ∩ B) (λ k l t. search inter),
      )
    where
      joined : (a b : Bool) → T (a || b) → T (a || b && not a)
      joined false false t = elim t [ ]
      joined true b t = tt
      joined false true t = tt

  -- the empty set opens no fan
  pub open_fans-empty : (row : Row) (j : ℕ) → open_fans S row (λ k. false) j ≡ 0
  unfolding open_fans
  open_fans-empty row j = omega (arith, weight_empty n (λ k. on (active k j) 1))

  -- and has no fan time
  pub P-empty : (row : Row) → P S row (λ k. false) ≡ 0
  unfolding P
  P-empty row = sum_congr J (λ j l. rw (open_fans-empty row j) (omega arith)) ∙ sum_zero J
