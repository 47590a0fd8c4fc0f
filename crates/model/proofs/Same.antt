-- Two settings that agree in doses, intervals and what stands in them: what is known of one is known of the other. Assumes nothing.
use mathlib.Core.Bool.{Bool, ◌&&◌}
use mathlib.Core.Path.{◌≡◌, refl, sym, ap, ap₂, ◌∙◌}
use Prim.Native.Nat.{ℕ, zero, suc, ◌*◌, ◌-◌, ◌<◌, min}
use native.Mathlib.Omega.{arith}
use Rattle.model.specs.Sets.{sum, on, weight, Doses, Sub, Nonempty}
use Rattle.model.specs.Classes.{Setting, Row, W, P, open_fans, NextClass, class_p, free, remaining, Classes}
use Rattle.model.specs.Shares.{Valid, room}
use Rattle.model.proofs.Sums.{sum_congr}
use Rattle.model.proofs.Sets.{Alike, alike_sub, alike_back, weight_congr, weight_alike}
use Rattle.model.proofs.NextClass.{no_denser_lem, as_dense_lem, next_class_lem}

pub record Agree (S S' : Setting) : Type 0 where
  pub doses : S.doses ≡ S'.doses
  pub intervals : S.intervals ≡ S'.intervals
  pub active : (k j : ℕ) → k < S.doses → j < S.intervals → S.active k j ≡ S'.active k j
  pub len : (j : ℕ) → j < S.intervals → S.len j ≡ S'.len j
  pub grams : (k : ℕ) → k < S.doses → S.grams k ≡ S'.grams k

pub agree_refl : (S : Setting) → Agree S S
agree_refl S = record { doses = refl; intervals = refl; active = λ k j l q. refl; len = λ j q. refl; grams = λ k l. refl }

module _ (S S' : Setting) (a : Agree S S') where
  below_doses : {k : ℕ} → k < S'.doses → k < S.doses
  below_doses l = omega (arith, a.doses)

  below_intervals : {j : ℕ} → j < S'.intervals → j < S.intervals
  below_intervals q = omega (arith, a.intervals)

  -- a weight of one set, and a sum over the intervals
  pub weight_same : (w w' : ℕ → ℕ) (A A' : Doses) → ((k : ℕ) → k < S.doses → w k ≡ w' k) → Alike S.doses A A'
      → weight S.doses w A ≡ weight S'.doses w' A'
  weight_same w w' A A' e e_a =
      weight_congr S.doses w w' A e ∙ weight_alike S.doses w' A A' e_a ∙ ap (λ (n : ℕ). weight n w' A') a.doses

  sum_same : (f f' : ℕ → ℕ) → ((j : ℕ) → j < S.intervals → f j ≡ f' j) → sum S.intervals f ≡ sum S'.intervals f'
  sum_same f f' e = sum_congr S.intervals e ∙ ap (λ (J : ℕ). sum J f') a.intervals

  dose_sum_same : (f f' : ℕ → ℕ) → ((k : ℕ) → k < S.doses → f k ≡ f' k) → sum S.doses f ≡ sum S'.doses f'
  dose_sum_same f f' e = sum_congr S.doses e ∙ ap (λ (n : ℕ). sum n f') a.doses

  -- W of one set
  pub W-same : (A A' : Doses) → Alike S.doses A A' → W S A ≡ W S' A'
  W-same A A' e_a = weight_same S.grams S'.grams A A' a.grams e_a

  module _ (row row' : Row) (er : (j : ℕ) → j < S.intervals → row j ≡ row' j) where
    module _ (A A' : Doses) (e_a : Alike S.doses A A') where
      -- its open fans
      pub fans_same : (j : ℕ) → j < S.intervals → open_fans S row A j ≡ open_fans S' row' A' j
      unfolding open_fans
      fans_same j q = ap₂ min (weight_same _ _ A A' (λ k l. ap (λ (b : Bool). on b 1) (a.active k j l q)) e_a) (er j q)

      -- its P
      pub time_same : P S row A ≡ P S' row' A'
      unfolding P
      time_same = sum_same _ _ (λ j q. ap₂ ◌*◌ (a.len j q) (fans_same j q))

      -- its valid shares
      pub valid_same : (x x' : ℕ → ℕ → ℕ) → ((k j : ℕ) → k < S.doses → j < S.intervals → x k j ≡ x' k j) → Valid S row A x → Valid S' row' A' x'
      valid_same x x' ex v = record {
        roomy = λ k j l q. let k< = below_doses l in let j< = below_intervals q in omega (arith, v.roomy k j k< j<, ex k j k< j<, room_same k j k< j<);
        full = λ j q. let j< = below_intervals q in
            sym (dose_sum_same _ _ (λ k l. ex k j l j<)) ∙ v.full j j< ∙ ap₂ ◌*◌ (fans_same j j<) (ap₂ ◌*◌ (a.len j j<) (W-same A A' e_a));
        met = λ k l t. let k< = below_doses l in
            sym (sum_same _ _ (λ j q. ex k j k< q)) ∙ v.met k k< (alike_back S.doses A A' e_a k k< t) ∙ ap₂ ◌*◌ (a.grams k k<) time_same;
      }
        where
          room_same : (k j : ℕ) → k < S.doses → j < S.intervals → room S row A k j ≡ room S' row' A' k j
          room_same k j l q = ap₂ on (ap₂ ◌&&◌ (e_a k l) (a.active k j l q)) (ap₂ ◌*◌ (a.len j q) (W-same A A' e_a))

    -- the next class
    pub next_same : (rest rest' A A' : Doses) → Alike S.doses rest rest' → Alike S.doses A A' → NextClass S row rest A → NextClass S' row' rest' A'
    next_same rest rest' A A' e_r e_a c =
        next_class_lem S' row' rest' A' (λ k l t. let k< = below_doses l in alike_sub S.doses rest rest' e_r k k< (c.within k k< (alike_back S.doses A A' e_a k k< t)))
        (let r = c.some in (r.0, omega (arith, r.1, a.doses), alike_sub S.doses A A' e_a r.0 r.1 r.2))
        (λ B h w. omega (arith, no_denser_lem S row rest A c B (down B h) (some B w), left B, right B))
        (λ B h w e k l t. let k< = below_doses l in alike_sub S.doses A A' e_a k k< (as_dense_lem S row rest A c B (down B h) (some B w) (left B ∙ e ∙ sym (right B)) k k< t))
      where
        down : (B : Doses) → Sub S'.doses B rest' → Sub S.doses B rest
        down B h k l t = alike_back S.doses rest rest' e_r k l (h k (omega (arith, a.doses)) t)

        some : (B : Doses) → Nonempty S'.doses B → Nonempty S.doses B
        some B r = (r.0, below_doses r.1, r.2)

        left : (B : Doses) → W S B * P S row A ≡ W S' B * P S' row' A'
        left B = ap₂ ◌*◌ (W-same B B (λ k l. refl)) (time_same A A' e_a)

        right : (B : Doses) → W S A * P S row B ≡ W S' A' * P S' row' B
        right B = ap₂ ◌*◌ (W-same A A' e_a) (time_same B B (λ k l. refl))

  module _ (F F' : Row) (e_f : (j : ℕ) → j < S.intervals → F j ≡ F' j) (C : ℕ → Doses) where
    -- the fans that the first classes leave
    pub free_same : (i j : ℕ) → j < S.intervals → free S F C i j ≡ free S' F' C i j
    unfolding free
    free_same zero j q = e_f j q
    free_same (suc i) j q =
        ap₂ ◌-◌ (free_same i j q) (fans_same (free S F C i) (free S' F' C i) (free_same i) (C i) (C i) (λ k l. refl) j q)

    -- P of class i
    pub class_time_same : (i : ℕ) → class_p S F C i ≡ class_p S' F' C i
    class_time_same i = time_same (free S F C i) (free S' F' C i) (free_same i) (C i) (C i) (λ k l. refl)

    -- the sequence of classes
    pub classes_same : (p : ℕ) → Classes S F p C → Classes S' F' p C
    classes_same p c = record {
      next = λ i q. next_same (free S F C i) (free S' F' C i) (free_same i) (remaining C i) (remaining C i) (C i) (C i) (λ k l. refl) (λ k l. refl) (c.next i q);
      done = λ k l. c.done k (below_doses l);
    }
