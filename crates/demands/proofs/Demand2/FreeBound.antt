-- A plan with any moments and any rates up to the top: no set of doses weighs more than its open fan time lets through at the top rate.
use mathlib.Core.Path.{◌∙◌, ◌≡◌, ap, sym}
use Prim.Native.Nat.{◌*◌, ◌-◌, ◌<◌, ◌≤◌, ℕ}
use native.Mathlib.Nat.{le_of_mul-le-mul_left, mul-le-mul_left, mul-pos}
use native.Mathlib.Omega.{arith}
use lib.Dec.{eqb}
use Rattle.model.specs.Sets.{Doses, weight}
use Rattle.model.specs.Classes.{P, Setting, W}
use Rattle.model.proofs.Sets.{weight_congr, weight_le, weight_scale}
use Rattle.model.proofs.Moments.{House, Pieces, Runs, crew, gather, time_within}

-- piece i runs at a rate of `rate i` / r grams a tick; each dose has its grams
abbrev pub Delivers : Setting → Pieces → (ℕ → ℕ) → ℕ → Type 0
Delivers S Z rate r = (k : ℕ) → k < S.doses → weight Z.m (λ i. (Z.e i - Z.s i) * rate i) (λ i. eqb (Z.dose i) k) ≡ Z.Q * r * S.grams k

module _ (S : Setting) (G : House S) (Z : Pieces) (h : Runs S G Z) (rate : ℕ → ℕ) (r : ℕ) (d : Delivers S Z rate r) where
  open S use {doses as n, grams}
  open Z use {Q, m, s, e, dose}

  -- the grams of A are those that its pieces carry
  pub carried : (A : Doses) → weight m (λ i. (e i - s i) * rate i) (λ i. A (dose i)) ≡ Q * r * W S A
  carried A =
      sym (gather n m dose (λ i. (e i - s i) * rate i) A h.in_dose)
      ∙ weight_congr n _ _ A d ∙ weight_scale n (Q * r) grams A

  -- no piece is faster than top_grams in topSeconds: no set is heavier than its open fan time lets through at that rate
  pub top_bound : 0 < Q → 0 < r → (top_grams top_seconds : ℕ) → ((i : ℕ) → i < m → rate i * top_seconds ≤ top_grams * r)
      → (A : Doses) → W S A * top_seconds ≤ P S (crew G) A * top_grams
  top_bound q pos g t slow A =
      let mine : Doses = λ i. A (dose i) in
      let faster : weight m (λ i. t * ((e i - s i) * rate i)) mine ≤ weight m (λ i. g * r * (e i - s i)) mine =
      weight_le m _ _ mine mine (λ i l u v. u) (λ i l u. omega (arith, mul-le-mul_left (e i - s i) (slow i l))) in
      le_of_mul-le-mul_left {k = Q * r} (omega (
        arith,
        faster,
        weight_scale m t (λ i. (e i - s i) * rate i) mine,
        weight_scale m (g * r) (λ i. e i - s i) mine,
        ap (λ (y : ℕ). t * y) (carried A),
        mul-le-mul_left (g * r) (time_within S G Z h A),
      )) (mul-pos q pos)
