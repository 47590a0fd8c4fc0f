-- The next class: there is one, what is left is at a lower rate, and keeps open fan time.
use mathlib.Core.Bool.{not}
use mathlib.Core.Logic.{inl, inr}
use mathlib.Core.Path.{◌≡◌, fun_ext, refl}
use Prim.Native.Nat.{◌*◌, ◌+◌, ◌<◌, ◌≤◌, ℕ}
use native.Mathlib.Nat.{eq-or-lt_of_le, eq-zero-or-pos, le_antisymm}
use native.Mathlib.Omega.{arith}
use lib.Dec.{T_not, leb→le, le→leb}
use Rattle.model.specs.Sets.{Doses, Nonempty, Sub}
use Rattle.model.specs.Classes.{NextClass, P, Row, Setting, W}
use Rattle.model.proofs.Sets.{Alike, Apart, ◌∖◌, ◌∪◌, alike, alike_back, alike_sub, and_left, and_right, or_elim, or_left, or_right, weight_alike, weight_union}
use Rattle.model.proofs.FanTime.{P-alike, P-union, left}

module _ (S : Setting) where
  open S use {doses as n, grams}

  module _ (row : Row) (rest A : Doses) where
    -- no set of remaining doses is denser than the next class
    pub no_denser_lem : NextClass S row rest A → (B : Doses) → Sub n B rest → Nonempty n B → W S B * P S row A ≤ W S A * P S row B
    no_denser_lem a B h w = leb→le (W S B * P S row A) (W S A * P S row B) (a.greatest B h w)

    -- and one that is as dense lies in it
    pub as_dense_lem : NextClass S row rest A → (B : Doses) → Sub n B rest → Nonempty n B → W S B * P S row A ≡ W S A * P S row B → Sub n B A
    as_dense_lem a B h w e = a.largest B h w (omega (arith, le→leb))

    -- these make the next class
    pub next_class_lem : Sub n A rest → Nonempty n A → ((B : Doses) → Sub n B rest → Nonempty n B → W S B * P S row A ≤ W S A * P S row B)
        → ((B : Doses) → Sub n B rest → Nonempty n B → W S B * P S row A ≡ W S A * P S row B → Sub n B A) → NextClass S row rest A
    next_class_lem sub some dense most = record {
      within = sub;
      some = some;
      greatest = λ B h w. le→leb (W S B * P S row A) (W S A * P S row B) (dense B h w);
      largest = λ B h w t. most B h w (le_antisymm (dense B h w) (leb→le _ _ t));
    }

  -- one next class for one row of fans and one set of remaining doses
  pub next_alike : (row row' : Row) (rest rest' A B : Doses) → ((j : ℕ) → row j ≡ row' j) → Alike n rest rest'
      → NextClass S row rest A → NextClass S row' rest' B → Sub n A B
  next_alike row row' rest rest' A B e h a b =
      let b' : NextClass S row rest' B = rw (← fun_ext e) at b in
      let to : Sub n A rest' = λ k l t. alike_sub n rest rest' h k l (a.within k l t) in
      let back : Sub n B rest = λ k l t. alike_back n rest rest' h k l (b'.within k l t) in
      as_dense_lem row rest' B b' A to a.some (omega (arith, no_denser_lem row rest A a B back b'.some, no_denser_lem row rest' B b' A to a.some))

  -- the next class in other words
  pub next_transport : (row row' : Row) (rest rest' A A' : Doses) → ((j : ℕ) → row j ≡ row' j) → Alike n rest rest' → Alike n A A'
      → NextClass S row rest A → NextClass S row' rest' A'
  next_transport row row' rest rest' A A' e h g a =
      let down : (B : Doses) → Sub n B rest' → Sub n B rest = λ B b k l t. alike_back n rest rest' h k l (b k l t) in
      let r = a.some in
      let here : NextClass S row rest' A' = next_class_lem row rest' A'
      (λ k l t. alike_sub n rest rest' h k l (a.within k l (alike_back n A A' g k l t)))
      (r.0, r.1, alike_sub n A A' g r.0 r.1 r.2)
      (λ B b w. rw (weight_alike n grams A A' g, P-alike S row A A' g) at (no_denser_lem row rest A a B (down B b) w))
      (λ B b w q k l t. alike_sub n A A' g k l (as_dense_lem row rest A a B (down B b) w (rw (weight_alike n grams A A' g, P-alike S row A A' g) q) k l t)) in
      rw (fun_ext e) at here

  -- two next classes are the same set
  pub next_unique : (row : Row) (rest A B : Doses) → NextClass S row rest A → NextClass S row rest B → Alike n A B
  next_unique row rest A B a b =
      alike n A B (next_alike row row rest rest A B (λ j. refl) (λ k l. refl) a b) (next_alike row row rest rest B A (λ j. refl) (λ k l. refl) b a)

  module _ (row : Row) (rest A : Doses) (a : NextClass S row rest A) (B : Doses) (b : Sub n B (rest ∖ A)) where
    apart : Apart n A B
    apart k l s t = T_not (A k) (and_right (rest k) (not (A k)) (b k l t)) s

    both : Sub n (A ∪ B) rest
    both k l t = or_elim (A k) (B k) t (a.within k l) (λ s. and_left (rest k) (not (A k)) (b k l s))

    some_both : Nonempty n (A ∪ B)
    some_both = let r = a.some in (r.0, r.1, or_left (A r.0) (B r.0) r.2)

    weight_both : W S (A ∪ B) ≡ W S A + W S B
    weight_both = weight_union n grams A B apart

    time_both : P S row (A ∪ B) ≡ P S row A + P S (left S row A) B
    time_both = P-union S row A B apart

    -- the rate of B on what A leaves is at most that of A, since A with B has no greater rate than A
    slower : W S B * P S row A ≤ W S A * P S (left S row A) B
    slower = omega (arith, rw (weight_both, time_both) at (no_denser_lem row rest A a (A ∪ B) both some_both))

    -- and less, since A contains every set of its rate
    pub falls : Nonempty n B → W S B * P S row A < W S A * P S (left S row A) B
    falls (k, l, t) = elim (eq-or-lt_of_le slower) [
      | inl e ↦
          let same : W S (A ∪ B) * P S row A ≡ W S A * P S row (A ∪ B) = rw (weight_both, time_both) (omega arith) in
          absurd (apart k l (as_dense_lem row rest A a (A ∪ B) both some_both same k l (or_right (A k) (B k) t)) t)
      | inr h ↦ h
    ]

    -- so B has open fan time on what A leaves
    pub stays : Nonempty n B → 0 < P S (left S row A) B
    stays w = elim (eq-zero-or-pos (P S (left S row A) B)) [ inl e ↦ absurd (omega (arith, rw e at (falls w))) | inr l ↦ l ]
