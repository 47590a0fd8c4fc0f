-- The classes' own pieces, each at its class's rate: each dose has its grams, and no rate is above the first class's.
use mathlib.Core.Path.{◌∙◌, ◌≡◌, ap}
use Prim.Native.Nat.{◌*◌, ◌-◌, ◌<◌, ◌≤◌, ℕ}
use native.Mathlib.Nat.{eq_of_mul-eq-mul_left, le_of_mul-le-mul_left, mul_comm, mul-le-mul_left, mul-pos}
use native.Mathlib.Omega.{arith}
use lib.Dec.{T, eqb, eqb→eq}
use Rattle.model.specs.Sets.{Doses, weight}
use Rattle.model.specs.Classes.{Classes, P, Row, Setting, W, class_p, free}
use Rattle.model.proofs.Sets.{weight_on_set, weight_scale}
use Rattle.model.proofs.Sequence.{all_in_lem, no_slower, stays_open, upto_find}
use Rattle.model.proofs.Moments.{House, Pieces, Runs, crew}
use Rattle.model.proofs.Certificate.{Totals}
use Rattle.demands.proofs.Demand2.FreeBound.{Delivers}

-- the rate of class l is speed l / R
abbrev pub Speeds : (S : Setting) → Row → ℕ → (ℕ → Doses) → ℕ → (ℕ → ℕ) → Type 0
Speeds S F p C R speed = (l : ℕ) → l < p → speed l * class_p S F C l ≡ W S (C l) * R

-- later classes are no faster
speeds_fall : (S : Setting) (F : Row) (p : ℕ) (C : ℕ → Doses) → Classes S F p C → (R : ℕ) (speed : ℕ → ℕ) → Speeds S F p C R speed → 0 < P S F (C 0)
    → (i l : ℕ) → l ≤ i → i < p → speed i ≤ speed l
speeds_fall S F p C c R speed fit some i l q r =
    le_of_mul-le-mul_left {k = class_p S F C i * class_p S F C l} (omega (
      arith,
      ap (λ (y : ℕ). class_p S F C l * y) (fit i r),
      ap (λ (y : ℕ). class_p S F C i * y) (fit l (omega arith)),
      mul-le-mul_left R (no_slower S F p C c l i q r),
    )) (mul-pos (stays_open S F p C c some i r) (stays_open S F p C c some l (omega arith)))

module _ (S : Setting) (G : House S) (Z : Pieces) (h : Runs S G Z) (p : ℕ) (C : ℕ → Doses) (c : Classes S (crew G) p C)
    (R : ℕ) (speed : ℕ → ℕ) (fit : Speeds S (crew G) p C R speed) (some : 0 < P S (crew G) (C 0))
    (rate : ℕ → ℕ) (same : (i l : ℕ) → i < Z.m → l < p → T (C l (Z.dose i)) → rate i ≡ speed l) where
  open S use {doses as n, grams}
  open Z use {Q, m, s, e, dose}

  abbrev Pl : ℕ → ℕ
  Pl l = class_p S (crew G) C l

  -- every dose has its grams
  pub own_delivers : Totals S G Z p C → Delivers S Z rate R
  own_delivers totals k l =
      let r = upto_find C p k (all_in_lem S (crew G) p C c k l) in
      grams_of_lem r.0 r.1 r.2
    where
      grams_of_lem : (i : ℕ) → i < p → T (C i k) → weight m (λ q. (e q - s q) * rate q) (λ q. eqb (dose q) k) ≡ Q * R * grams k
      grams_of_lem i q t =
          let at_speed : weight m (λ x. (e x - s x) * rate x) (λ x. eqb (dose x) k) ≡ speed i * weight m (λ x. e x - s x) (λ x. eqb (dose x) k) =
          weight_on_set m _ _ (λ x. eqb (dose x) k)
          (λ x r u. rw (same x i r q (rw (eqb→eq (dose x) k u) t)) (mul_comm (e x - s x) (speed i)))
          ∙ weight_scale m (speed i) (λ x. e x - s x) (λ x. eqb (dose x) k) in
          eq_of_mul-eq-mul_left (Pl i) (stays_open S (crew G) p C c some i q) _ _ (omega (
            arith,
            ap (λ (y : ℕ). Pl i * y) at_speed,
            ap (λ (y : ℕ). y * weight m (λ x. e x - s x) (λ x. eqb (dose x) k)) (fit i q),
            ap (λ (y : ℕ). R * y) (totals i k q l t),
          ))

  -- no piece is above the top, if the first class is not
  pub own_slow : (top_grams top_seconds : ℕ) → W S (C 0) * top_seconds ≤ P S (crew G) (C 0) * top_grams
      → (i : ℕ) → i < m → rate i * top_seconds ≤ top_grams * R
  unfolding free
  own_slow g t first i l =
      let r = upto_find C p (dose i) (all_in_lem S (crew G) p C c (dose i) (h.in_dose i l)) in
      let some_class : 0 < p = omega (arith, r.1) in
      le_of_mul-le-mul_left {k = P S (crew G) (C 0)} (omega (
        arith,
        ap (λ (y : ℕ). P S (crew G) (C 0) * (y * t)) (same i r.0 l r.1 r.2),
        mul-le-mul_left (P S (crew G) (C 0) * t) (speeds_fall S (crew G) p C c R speed fit some r.0 0 (omega arith) r.1),
        ap (λ (y : ℕ). t * y) (fit 0 some_class),
        mul-le-mul_left R first,
      )) some
