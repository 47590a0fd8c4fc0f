-- The rounds that find the next class: from all remaining doses, by parts of greater rate, to a set none of whose parts has a greater rate.
use mathlib.Core.Bool.{Bool}
use mathlib.Core.Logic.{◌⊎◌, inl, inr}
use mathlib.Core.Path.{◌≡◌}
use Prim.Native.Nat.{◌*◌, ◌<◌, ◌≤◌, ℕ}
use native.Mathlib.Nat.{le_antisymm, le_of_lt, mul-le-mul_left, mul-le-mul_right}
use native.Mathlib.Omega.{arith}
use Rattle.model.specs.Sets.{Doses, Nonempty, Sub}
use Rattle.model.specs.Classes.{NextClass, P, Row, Setting, W}
use Rattle.model.specs.Shares.{Closed, Within, missing}
use Rattle.model.proofs.Sets.{◌∩◌, and_both, and_left, and_right, inter, weight_mono}
use Rattle.model.proofs.FanTime.{Heavy, P-mono, weighs}
use Rattle.model.proofs.Fractions.{compare≤, denser, denser', pos_left}
use Rattle.model.proofs.NextClass.{next_class_lem}
use Rattle.model.proofs.Chains.{denser_part, densest, moves}

module _ (S : Setting) (row : Row) where
  open S use {doses as n, grams}

  -- a set of remaining doses at A's rate or above lies in A, or its part in A has a greater rate than itself
  pub Keeps : Doses → Doses → Type 0
  Keeps rest A =
      (B : Doses) → Sub n B rest → 0 < W S B → W S A * P S row B ≤ W S B * P S row A
      → Sub n B A ⊎ (W S B * P S row (B ∩ A) < W S (B ∩ A) * P S row B)

  -- so it is of all remaining doses
  pub keeps_start : (rest : Doses) → Keeps rest rest
  unfolding Keeps
  keeps_start rest B h p d = inl h

  module _ (heavy : Heavy S) (rest A : Doses) (keeps : Keeps rest A) (x : ℕ → ℕ → ℕ) (f : Within S row A x) where
    -- nothing is missing: A is the next class
    pub keeps_end : Sub n A rest → Nonempty n A → missing S row A x ≡ 0 → NextClass S row rest A
    unfolding Keeps
    keeps_end sub some none =
        next_class_lem S row rest A sub some
        (λ B h p. elim (compare≤ (W S B * P S row A) (W S A * P S row B)) [ inl g ↦ g | inr g ↦ absurd (none_denser B h (weighs S heavy B p) g) ])
        (λ B h p e. elim (keeps B h (weighs S heavy B p) (omega arith)) [ inl s ↦ s | inr g ↦ absurd (no_part B (weighs S heavy B p) g (omega arith)) ])
      where
        no_part : (B : Doses) → 0 < W S B → W S B * P S row (B ∩ A) < W S (B ∩ A) * P S row B → W S A * P S row B ≤ W S B * P S row A → ⊥
        no_part B p g h =
            omega (
              arith,
              densest S row A x f none (B ∩ A) (λ k l. and_right (B k) (A k)),
              denser' (W S (B ∩ A)) (P S row (B ∩ A)) (W S B) (P S row B) (W S A) (P S row A) g h (weighs S heavy A some),
            )

        none_denser : (B : Doses) → Sub n B rest → 0 < W S B → W S A * P S row B < W S B * P S row A → ⊥
        none_denser B h p g = elim (keeps B h p (le_of_lt g)) [
          | inl s ↦ omega (arith, densest S row A x f none B s)
          | inr q ↦ no_part B p q (le_of_lt g)
        ]

    module _ (R : Doses) (Q : ℕ → Bool) (c : Closed S row A x R Q) where
      -- a set has in R what its part in A has there
      same : (v : Doses → ℕ) → ((X Y : Doses) → Sub n X Y → v X ≤ v Y) → (B : Doses) → v ((B ∩ A) ∩ R) ≡ v (B ∩ R)
      same v mono B = le_antisymm (mono _ _ (λ k l t. search inter)) (mono _ _ (λ k l t. search (inter, c.inside)))

      -- something is missing: so it is of the doses that no chain leads out of
      pub keeps_step : 0 < missing S row A x → Keeps rest R
      unfolding Keeps
      keeps_step d B h p e = elim (keeps B h p (le_of_lt less)) [
        | inl s ↦ moves S row A x f R Q c heavy B s less
        | inr q ↦ inr (elim (moves S row A x f R Q c heavy (B ∩ A) (λ k l. and_right (B k) (A k)) (deeper q)) [
          | inl s ↦ rw (← same (W S) (weight_mono n grams) B, ← same (P S row) (P-mono S row) B) (inside (B ∩ A) s q)
          | inr r ↦ rw (← same (W S) (weight_mono n grams) B, ← same (P S row) (P-mono S row) B)
              (denser (W S ((B ∩ A) ∩ R)) (P S row ((B ∩ A) ∩ R)) (W S (B ∩ A)) (P S row (B ∩ A)) (W S B) (P S row B) (le_of_lt r) q (pos_left _ _ _ r))
        ])
      ]
        where
          less : W S A * P S row B < W S B * P S row A
          less = denser (W S B) (P S row B) (W S R) (P S row R) (W S A) (P S row A) e (denser_part S row A x f R Q c d) p

          deeper : W S B * P S row (B ∩ A) < W S (B ∩ A) * P S row B → W S A * P S row (B ∩ A) < W S (B ∩ A) * P S row A
          deeper q = denser (W S (B ∩ A)) (P S row (B ∩ A)) (W S B) (P S row B) (W S A) (P S row A) (le_of_lt q) less (pos_left _ _ _ q)

          inside : (E : Doses) → Sub n E R → W S B * P S row E < W S E * P S row B → W S B * P S row (E ∩ R) < W S (E ∩ R) * P S row B
          inside E s q =
              omega (
                arith,
                q,
                mul-le-mul_left (W S B) (P-mono S row (E ∩ R) E (λ k l. and_left (E k) (R k))),
                mul-le-mul_right (P S row B) (weight_mono n grams E (E ∩ R) (λ k l t. and_both (E k) (R k) t (s k l t))),
              )
