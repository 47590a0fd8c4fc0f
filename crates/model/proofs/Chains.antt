-- Where no chain is left, the shares bound the rate of every part of a candidate class, and name a part of greater rate where they are short.
use mathlib.Core.Bool.{Bool, ◌&&◌, false, not, true}
use mathlib.Core.Logic.{◌⊎◌, inl, inr}
use mathlib.Core.Path.{◌∙◌, ◌≡◌, ap, refl}
use Prim.Native.Nat.{◌*◌, ◌+◌, ◌<◌, ◌≤◌, ℕ}
use native.Mathlib.Nat.{eq-zero-or-pos, min-le_left, min-le_right, mul-le-mul, mul-le-mul_left}
use native.Mathlib.Omega.{arith}
use lib.Dec.{T}
use Rattle.model.specs.Sets.{Doses, Nonempty, Sub, on, sum, weight}
use Rattle.model.specs.Classes.{P, Row, Setting, W, active_in, open_fans}
use Rattle.model.specs.Shares.{Closed, Within, got, missing, shares_total, short}
use Rattle.model.proofs.Sums.{sum_congr, sum_le, sum_pos, sum_scale}
use Rattle.model.proofs.Sets.{◌∩◌, ◌∪◌, and_left, and_right, on_pos, on_times, or_elim, weight_add, weight_all, weight_congr, weight_le, weight_modular, weight_mono, weight_pos, weight_same, weight_scale, weight_swap}
use Rattle.model.proofs.FanTime.{Heavy, P-mono, P-sub, open_fans-mono}
use Rattle.model.proofs.Fractions.{compare≤, le_mul_min, part_gains}

on_under_and : (a b : Bool) (x : ℕ) → on (a && b) x ≤ on b x
on_under_and true b x = omega arith
on_under_and false b x = omega arith

module _ (S : Setting) (row : Row) (A : Doses) (x : ℕ → ℕ → ℕ) where
  open S use {doses as n, intervals as J, active, len, grams}

  -- a fan's reserved time in interval j
  abbrev unit : ℕ → ℕ
  unit j = len j * W S A

  abbrev lacking : ℕ → ℕ
  lacking = short S row A x

  module _ (f : Within S row A x) where
    -- the needs of B are its shares and what it is short of
    split : (B : Doses) → W S B * P S row A ≡ sum J (λ j. weight n (λ k. x k j) B) + weight n lacking B
    split B =
        let e : weight n (λ k. P S row A * grams k) B ≡ weight n (λ k. got S row A x k + lacking k) B = weight_congr n _ _ B (λ k l. omega (arith, f.needed k l)) in
        omega (arith, e, weight_scale n (P S row A) grams B, weight_add n (got S row A x) lacking B, weight_swap n J x B)

    module _ (B : Doses) (j : ℕ) (l : j < J) where
      -- all of B at once, each with the whole interval
      whole : weight n (λ k. on (active k j) (unit j)) B ≡ unit j * active_in S B j
      whole = weight_congr n _ _ B (λ k l. on_times (active k j) (unit j)) ∙ weight_scale n (unit j) _ B

      open_room : (k : ℕ) → k < n → x k j ≤ on (active k j) (unit j)
      open_room k m = omega (arith, f.roomy k j m l, on_under_and (A k) (active k j) (unit j))

      -- an interval gives B at most what B could use there
      interval_most : weight n (λ k. x k j) B ≤ unit j * open_fans S row B j
      unfolding open_fans
      interval_most =
          le_mul_min (unit j) (active_in S B j) (row j)
          (omega (arith, whole, weight_le n (λ k. x k j) (λ k. on (active k j) (unit j)) B B (λ k l t p. t) (λ k m t. open_room k m)))
          (omega (
            arith,
            weight_mono n (λ k. x k j) B (λ k. true) (λ k l t. tt),
            weight_all n (λ k. x k j),
            f.held j l,
            mul-le-mul_left (unit j) (min-le_right (active_in S A j) (row j)),
          ))

    fan_times : (B : Doses) → sum J (λ j. unit j * open_fans S row B j) ≡ W S A * P S row B
    unfolding P
    fan_times B = sum_congr J (λ j l. omega arith) ∙ sum_scale J (W S A) (λ j. len j * open_fans S row B j)

    -- no part of A needs more than its fan time gives and what is missing
    pub bound : (B : Doses) → Sub n B A → W S B * P S row A ≤ P S row B * W S A + missing S row A x
    bound B h = omega (arith, split B, sum_le J (interval_most B), fan_times B, weight_mono n lacking B A h)

    -- nothing is missing: no part of A has a greater rate than A
    pub densest : missing S row A x ≡ 0 → (B : Doses) → Sub n B A → W S B * P S row A ≤ W S A * P S row B
    densest d B h = omega (arith, bound B h)

    -- only doses of A have shares
    in_class : (k : ℕ) → k < n → 0 < got S row A x k → T (A k)
    in_class k l p =
        let r = sum_pos J (x k) p in
        let j = r.0 in
        and_left (A k) (active k j) (on_pos (A k && active k j) (unit j) (omega (arith, f.roomy k j l r.1, r.2)))

    -- what A needs is the shares' total and what is missing
    pub given_out : shares_total S row A x + missing S row A x ≡ W S A * P S row A
    given_out =
        omega (
          arith,
          split A,
          weight_swap n J x A,
          weight_all n (got S row A x),
          weight_mono n (got S row A x) A (λ k. true) (λ k l t. tt),
          weight_le n (got S row A x) (got S row A x) (λ k. true) A (λ k l t. in_class k l) (λ k l t. omega arith),
        )

    -- ---- no chain leads out of the doses R and the intervals Q

    module _ (R : Doses) (Q : ℕ → Bool) (c : Closed S row A x R Q) where
      -- a dose of R has all of an interval that is not in Q
      whole_share : (k j : ℕ) (a s : Bool) → active k j ≡ a → Q j ≡ s → k < n → j < J → T (R k) → T (not s) → on a (unit j) ≤ x k j
      whole_share k j true true e g l m r t = elim t [ ]
      whole_share k j false s e g l m r t = omega arith
      whole_share k j true false e g l m r t = elim (compare≤ (unit j) (x k j)) [
        | inl h ↦ h
        | inr h ↦ absurd (rw g at (c.out k j r (record { dose = l; interval = m; live = rw e tt; less = h })))
      ]

      -- an interval gives R all that R could use there
      interval_least : (j : ℕ) (s : Bool) → Q j ≡ s → j < J → unit j * open_fans S row R j ≤ weight n (λ k. x k j) R
      unfolding open_fans
      interval_least j true e l =
          omega (
            arith,
            weight_le n (λ k. x k j) (λ k. x k j) (λ k. true) R (λ k m t p. c.back k j m l (rw e tt) p) (λ k m t. omega arith),
            weight_all n (λ k. x k j),
            c.spent j l (rw e tt),
            mul-le-mul_left (unit j) (open_fans-mono S row R A c.inside j),
          )
      interval_least j false e l =
          omega (
            arith,
            whole R j l,
            weight_le n (λ k. on (active k j) (unit j)) (λ k. x k j) R R (λ k m t p. t)
                (λ k m t. whole_share k j (active k j) (Q j) refl refl m l t (rw e tt)),
            mul-le-mul_left (unit j) (min-le_left (active_in S R j) (row j)),
          )

      -- R needs all that its fan time gives and all that is missing
      pub tight : W S R * P S row A ≡ P S row R * W S A + missing S row A x
      tight =
          omega (
            arith,
            bound R c.inside,
            split R,
            sum_le J (λ j l. interval_least j (Q j) refl l),
            fan_times R,
            weight_le n lacking lacking A R (λ k l t p. c.shorts k l t (omega arith)) (λ k l t. omega arith),
          )

      -- R gains the most on A
      best : (B : Doses) → Sub n B A → W S B * P S row A + P S row R * W S A ≤ W S R * P S row A + P S row B * W S A
      best B h = omega (arith, bound B h, tight)

      -- with something missing, R has a greater rate than A
      pub denser_part : 0 < missing S row A x → W S A * P S row R < W S R * P S row A
      denser_part d = omega (arith, tight)

      -- has a dose
      pub some_part : 0 < missing S row A x → Nonempty n R
      some_part d = weight_pos n grams R (elim (eq-zero-or-pos (W S R)) [ inl q ↦ absurd (omega (arith, rw q at tight)) | inr h ↦ h ])

      -- and is less than A
      pub smaller : Heavy S → 0 < missing S row A x → W S R < W S A
      smaller heavy d = elim (compare≤ (W S A) (W S R)) [
        | inl h ↦
            let same : Sub n A R = weight_same n grams heavy R A c.inside h in
            absurd (omega (arith, denser_part d, mul-le-mul (weight_mono n grams R A c.inside) (P-mono S row A R same)))
        | inr h ↦ h
      ]

      -- what a part of A has in R gains on A what the part gains
      gain : (E : Doses) → Sub n E A → W S E * P S row A + W S A * P S row (E ∩ R) ≤ W S (E ∩ R) * P S row A + W S A * P S row E
      gain E h =
          omega (
            arith,
            best (E ∪ R) (λ k l t. or_elim (E k) (R k) t (h k l) (c.inside k l)),
            mul-le-mul_left (W S A) (P-sub S row E R),
            ap (λ (y : ℕ). P S row A * y) (weight_modular n grams E R),
          )

      -- a part of A with a greater rate than A lies in R, or has a part of greater rate there
      pub moves : Heavy S → (E : Doses) → Sub n E A → W S A * P S row E < W S E * P S row A
          → Sub n E R ⊎ (W S E * P S row (E ∩ R) < W S (E ∩ R) * P S row E)
      moves heavy E h m = elim (compare≤ (W S E) (W S (E ∩ R))) [
        | inl g ↦
            let s : Sub n E (E ∩ R) = weight_same n grams heavy (E ∩ R) E (λ k l. and_left (E k) (R k)) g in
            inl (λ k l t. and_right (E k) (R k) (s k l t))
        | inr g ↦ inr (part_gains (W S E) (P S row E) (W S (E ∩ R)) (P S row (E ∩ R)) (W S A) (P S row A) g m (gain E h))
      ]
