-- A plan is its own certificate: sets with strictly falling rates, none of which has a part of greater rate, are the classes, and pieces that meet the totals show that none has.
use mathlib.Core.Bool.{Bool, false, not, true}
use mathlib.Core.Logic.{inl, inr}
use mathlib.Core.Path.{◌∙◌, ◌≡◌, ap, refl, sym}
use Prim.Native.Nat.{◌*◌, ◌+◌, ◌-◌, ◌<◌, ◌≤◌, suc, zero, ℕ}
use native.Mathlib.Nat.{eq_of_mul-eq-mul_left, eq-or-lt_of_le, eq-zero-or-pos, le_of_lt, le_of_mul-le-mul_left, mul-le-mul_left}
use native.Mathlib.Omega.{arith}
use lib.Dec.{T, eqb}
use Rattle.model.specs.Sets.{Doses, Nonempty, Sub, weight, sum}
use Rattle.model.specs.Classes.{Classes, P, Row, Setting, W, class_p, free, open_fans, remaining, reserved}
use Rattle.model.proofs.Sums.{sum_congr, sum_scale}
use Rattle.model.proofs.Sets.{◌∖◌, ◌∩◌, and_both, and_left, and_right, weight_on_set, weight_part, weight_pos, weight_scale, weight_empty, weight_union}
use Rattle.model.proofs.FanTime.{Heavy, P-part, left, open_fans-alike, open_fans-union, weighs}
use Rattle.model.proofs.Fractions.{denser'}
use Rattle.model.proofs.NextClass.{next_class_lem}
use Rattle.model.proofs.Sequence.{Nested, free_left, nested_apart, upto, prefix}
use Rattle.model.proofs.Moments.{House, InInterval, Pieces, Runs, crew, crowd, gather, running, running_mono, running_union, time, time_bound, time_full}

-- ---- rates

module _ (S : Setting) (F : Row) (p : ℕ) (C : ℕ → Doses) where
  open S use {doses as n, grams}

  -- what a list of sets shows by itself: each lies in what those before it leave, none is empty, nothing is left, the rates fall
  pub record Falling : Type 0 where
    pub nest : Nested n C p
    pub some : (i : ℕ) → i < p → Nonempty n (C i)
    pub done : (k : ℕ) → k < n → T (remaining C p k) → ⊥
    pub fall : (i : ℕ) → suc i < p → W S (C (suc i)) * class_p S F C i < W S (C i) * class_p S F C (suc i)

  -- no part of a set has a greater rate than the set
  abbrev pub Even : Type 0
  Even = (i : ℕ) → i < p → (B : Doses) → Sub n B (C i) → W S B * class_p S F C i ≤ W S (C i) * P S (free S F C i) B

  module _ (heavy : Heavy S) (c : Falling) (even : Even) where
    -- B has no greater rate than set i, and a lower one where it is not inside
    record Thin (i : ℕ) (B : Doses) : Type 0 where
      dense : W S B * class_p S F C i ≤ W S (C i) * P S (free S F C i) B
      most : W S B * class_p S F C i ≡ W S (C i) * P S (free S F C i) B → Sub n B (C i)

    none_left : (i : ℕ) → i ≡ p → (B : Doses) → Sub n B (remaining C i) → 0 < W S B → ⊥
    none_left i e B h w = let r = weight_pos n grams B w in c.done r.0 r.1 (rw e at (h r.0 r.1 r.2))

    -- B is all in set i
    inside : (i : ℕ) → i < p → (B : Doses) → W S (B ∖ C i) ≡ 0 → Thin i B
    inside i l B z = record { dense = even i l B sub; most = λ e. sub }
      where
        sub : Sub n B (C i)
        sub k q t = go (C i k) refl
          where
            go : (b : Bool) → C i k ≡ b → T b
            go true e = tt
            go false e = omega (arith, weighs S heavy (B ∖ C i) (k, q, and_both (B k) (not (C i k)) t (rw e tt)))

    -- B has a part beyond set i
    beyond : (i : ℕ) → suc i < p → (B : Doses) → 0 < W S (B ∖ C i) → Thin (suc i) (B ∖ C i) → Thin i B
    unfolding free
    beyond i l B w t = record { dense = le_of_lt less; most = λ e. absurd (omega (arith, less)) }
      where
        less : W S B * class_p S F C i < W S (C i) * P S (free S F C i) B
        less =
            omega (
              arith,
              ap (λ (y : ℕ). class_p S F C i * y) (weight_part n grams (C i) B),
              even i (omega arith) (B ∩ C i) (λ k l. and_right (B k) (C i k)),
              mul-le-mul_left (W S (C i)) (P-part S (free S F C i) (C i) B),
              denser' (W S (C i)) (class_p S F C i) (W S (C (suc i))) (class_p S F C (suc i))
                  (W S (B ∖ C i)) (P S (free S F C (suc i)) (B ∖ C i)) (c.fall i l) t.dense w,
            )

    thin : (g i : ℕ) → i + g ≡ p → (B : Doses) → Sub n B (remaining C i) → 0 < W S B → Thin i B
    unfolding remaining
    thin zero i e B h w = absurd (none_left i (omega arith) B h w)
    thin (suc g) i e B h w =
        let deeper : Sub n (B ∖ C i) (remaining C (suc i)) = λ k l t. and_both (remaining C i k) (not (C i k)) (h k l (and_left (B k) (not (C i k)) t)) (and_right (B k) (not (C i k)) t) in
        let ih = thin g (suc i) (omega arith) (B ∖ C i) deeper in
        elim (eq-zero-or-pos (W S (B ∖ C i))) [
          | inl z ↦ inside i (omega arith) B z
          | inr v ↦ elim (eq-or-lt_of_le {n = suc i} {m = p} (omega arith)) [
            | inl q ↦ absurd (none_left (suc i) q (B ∖ C i) deeper v)
            | inr q ↦ beyond i q B v (ih v)
          ]
        ]

    -- the sets are the classes
    pub certified : Classes S F p C
    certified = record {
      next = λ i l.
          next_class_lem S (free S F C i) (remaining C i) (C i) (c.nest i l) (c.some i l)
          (λ B h w. (thin (p - i) i (omega arith) B h (weighs S heavy B w)).dense) (λ B h w. (thin (p - i) i (omega arith) B h (weighs S heavy B w)).most);
      done = c.done;
    }

-- ---- counting

-- what the pieces of the first i sets have together is what the pieces of their union have
piece_prefix : (n : ℕ) (C : ℕ → Doses) (m : ℕ) (dose f : ℕ → ℕ) → ((q : ℕ) → q < m → dose q < n) → (i : ℕ) → Nested n C i
    → sum i (λ l. weight m f (λ q. C l (dose q))) ≡ weight m f (λ q. upto C i (dose q))
unfolding sum upto
piece_prefix n C m dose f h zero g = sym (weight_empty m f)
piece_prefix n C m dose f h (suc i) g =
    omega (
      arith,
      piece_prefix n C m dose f h i (λ l q. g l (omega arith)),
      weight_union m f (λ q. upto C i (dose q)) (λ q. C i (dose q)) (λ q l. nested_apart n C i g (dose q) (h q l)),
    )

-- the pieces of each class take its open fan time
abbrev pub Exact : (S : Setting) → House S → Pieces → ℕ → (ℕ → Doses) → Type 0
Exact S G Z p C = (l : ℕ) → l < p → time Z (C l) ≡ Z.Q * class_p S (crew G) C l

-- the pieces of dose k of set l last Q * grams * P / W cells
abbrev pub Totals : (S : Setting) → House S → Pieces → ℕ → (ℕ → Doses) → Type 0
Totals S G Z p C =
    (l k : ℕ) → l < p → k < S.doses → T (C l k)
    → W S (C l) * weight Z.m (λ i. Z.e i - Z.s i) (λ i. eqb (Z.dose i) k) ≡ Z.Q * class_p S (crew G) C l * S.grams k

module _ (S : Setting) (G : House S) (Z : Pieces) (h : Runs S G Z) (p : ℕ) (C : ℕ → Doses) where
  open S use {doses as n, intervals as J, grams}
  open G use {τ}
  open Z use {Q, m, s, e, dose}

  abbrev F : Row
  F = crew G

  -- the first classes take together all that they can
  pub takes_all : Exact S G Z p C → Nested n C p → (i : ℕ) → i ≤ p → time Z (upto C i) ≡ Q * P S F (upto C i)
  takes_all exact g i l =
      let down : Nested n C i = λ k q. g k (omega arith) in
      sym (piece_prefix n C m dose (λ i. e i - s i) h.in_dose i down)
      ∙ sum_congr i (λ k r. exact k (omega arith)) ∙ sum_scale i Q _
      ∙ ap (λ (y : ℕ). Q * y) (prefix S F C i down)

  module _ (totals : Totals S G Z p C) where
    -- a part of a set takes what its grams say
    pub takes : (l : ℕ) → l < p → (B : Doses) → Sub n B (C l) → W S (C l) * time Z B ≡ Q * class_p S F C l * W S B
    takes l r B sub =
        ap (λ (y : ℕ). W S (C l) * y) (sym (gather n m dose (λ i. e i - s i) B h.in_dose))
        ∙ sym (weight_scale n (W S (C l)) (λ k. weight m (λ i. e i - s i) (λ i. eqb (dose i) k)) B)
        ∙ weight_on_set n _ _ B (λ k q t. totals l k r q (sub k q t)) ∙ weight_scale n (Q * class_p S F C l) grams B

    -- each set takes its open fan time
    pub exact : Heavy S → ((i : ℕ) → i < p → Nonempty n (C i)) → Exact S G Z p C
    exact heavy some l r = eq_of_mul-eq-mul_left (W S (C l)) (weighs S heavy (C l) (some l r)) _ _ (omega (arith, takes l r (C l) (λ k q t. t)))

    module _ (heavy : Heavy S) (nest : Nested n C p) (some : (i : ℕ) → i < p → Nonempty n (C i)) where
      full : (i : ℕ) → i ≤ p → (j x : ℕ) → j < J → InInterval Q τ j x → running Z (upto C i) x ≡ open_fans S F (upto C i) j
      full i l =
          time_full S G Z h (upto C i)
          (omega (arith, takes_all (exact heavy some) nest i l))

      -- at every cell a set runs as many fans as it has reserved
      pub runs_reserved : (i : ℕ) → i < p → (j x : ℕ) → j < J → InInterval Q τ j x → running Z (C i) x ≡ reserved S F C i j
      unfolding upto
      runs_reserved i l j x jl q =
          let down : Nested n C (suc i) = λ k r. nest k (omega arith) in
          let below : Nested n C i = λ k r. nest k (omega arith) in
          omega (
            arith,
            full i (omega arith) j x jl q,
            full (suc i) l j x jl q,
            open_fans-union S F (upto C i) (C i) (nested_apart n C i down) j,
            open_fans-alike S (free S F C i) (left S F (upto C i)) (C i) (C i) j (free_left S F C i below j) (λ k r. refl),
            running_union Z (upto C i) (C i) x (λ i' r. nested_apart n C i down (dose i') (h.in_dose i' r)),
          )

      -- so a part of it runs no more than it could alone
      alone : (i : ℕ) → i < p → (B : Doses) → Sub n B (C i) → (j x : ℕ) → j < J → InInterval Q τ j x
          → running Z B x ≤ open_fans S (free S F C i) B j
      unfolding open_fans
      alone i l B sub j x jl q =
          omega (
            arith,
            runs_reserved i l j x jl q,
            crowd S G Z h B j x jl q,
            running_mono Z B (C i) x (λ i' r. sub (dose i') (h.in_dose i' r)),
          )

      -- no set has a part of greater rate
      pub even_by_pieces : 0 < Q → Even S F p C
      unfolding P
      even_by_pieces pos i l B sub =
          le_of_mul-le-mul_left {k = Q} (omega (
            arith,
            takes i l B sub,
            mul-le-mul_left (W S (C i)) (time_bound S G Z h B (open_fans S (free S F C i) B) (alone i l B sub)),
          )) pos

  -- pieces that meet the totals of a sequence of sets show that the sets are the classes
  pub judged : Heavy S → 0 < Q → Falling S F p C → Totals S G Z p C → Classes S F p C
  judged heavy pos c totals = certified S F p C heavy c (even_by_pieces totals heavy c.nest c.some pos)
