-- There are classes: rounds end in a next class, and one class after the other leaves no dose.
use mathlib.Core.Bool.{Bool, false, not, true}
use mathlib.Core.Logic.{inl, inr}
use mathlib.Core.Path.{refl}
use Prim.Native.Nat.{◌<◌, ◌≤◌, suc, zero, ℕ}
use native.Mathlib.Nat.{eq-zero-or-pos}
use native.Mathlib.Omega.{arith}
use borrow.Author.Tests.{eq-eqb, ne_eqb}
use lib.Dec.{eqb}
use Rattle.model.specs.Sets.{Doses, Nonempty, Sub}
use Rattle.model.specs.Classes.{NextClass, Row, Setting, W, Classes, free, remaining}
use Rattle.model.specs.Shares.{Closed, Within, missing}
use Rattle.model.proofs.Sets.{and_left, Alike, ◌∖◌, and_not, size, weight_alike, weight_lt, weight_pos}
use Rattle.model.proofs.FanTime.{Heavy, weighs}
use Rattle.model.proofs.NextClass.{next_transport}
use Rattle.model.proofs.Chains.{smaller, some_part}
use Rattle.model.proofs.Rounds.{Keeps, keeps_start, keeps_end, keeps_step}
use Rattle.model.proofs.Sequence.{remaining_alike, Found, found_none, found_more, found_all}

-- ---- a next class

-- whoever finds, for each candidate, shares that no chain raises, finds the next class: the weight falls at each round
module _ (S : Setting) (row : Row) (heavy : Heavy S) (solve : (A : Doses) → (x : ℕ → ℕ → ℕ) × Within S row A x × (R : Doses) × (Q : ℕ → Bool) × Closed S row A x R Q)
    (rest : Doses) where
  open S use {doses as n}

  run : (fuel : ℕ) (A : Doses) → W S A ≤ fuel → Nonempty n A → Sub n A rest → Keeps S row rest A → (E : Doses) × NextClass S row rest E
  run zero A h p s q = absurd (omega (arith, weighs S heavy A p))
  run (suc fuel) A h p s q =
      let r = solve A in
      elim (eq-zero-or-pos (missing S row A r.0)) [
        | inl e ↦ (A, keeps_end S row heavy rest A q r.0 r.1 s p e)
        | inr d ↦ run fuel r.2 (omega (arith, smaller S row A r.0 r.1 r.2 r.3 r.4 heavy d))
            (some_part S row A r.0 r.1 r.2 r.3 r.4 d) (λ k l t. s k l (r.4.inside k l t))
            (keeps_step S row heavy rest A q r.0 r.1 r.2 r.3 r.4 d)
      ]

  -- there is a next class of any doses that remain
  pub next_exists : Nonempty n rest → (E : Doses) × NextClass S row rest E
  next_exists p = run (W S rest) rest (omega arith) p (λ k l t. t) (keeps_start S row rest)

-- ---- one after the other

module _ (S : Setting) where
  open S use {doses as n}

  -- fewer doses remain after each class
  left_falls : (F : Row) (i : ℕ) (C : ℕ → Doses) → NextClass S (free S F C i) (remaining C i) (C i) → size n (remaining C (suc i)) < size n (remaining C i)
  unfolding remaining
  left_falls F i C a =
      let r = a.some in
      weight_lt n (λ k. 1) (remaining C i ∖ C i) (remaining C i) (λ k l. and_left (remaining C i k) (not (C i k))) r.0 r.1
      (a.within r.0 r.1 r.2) (and_not (remaining C i r.0) (C i r.0) r.2) (omega arith)

  choose : Bool → Bool → Bool → Bool
  choose true x y = x
  choose false x y = y

  -- C with A at i
  put : (ℕ → Doses) → ℕ → Doses → ℕ → Doses
  put C i A l k = choose (eqb l i) (A k) (C l k)

  put_here : (C : ℕ → Doses) (i : ℕ) (A : Doses) → Alike n A (put C i A i)
  unfolding put choose
  put_here C i A k l = rw (eq-eqb i i refl)

  put_below : (C : ℕ → Doses) (i : ℕ) (A : Doses) (l : ℕ) → l < i → Alike n (C l) (put C i A l)
  unfolding put choose
  put_below C i A l h k q = rw (ne_eqb l i (omega arith))

  -- shares that no chain raises, for each candidate and each row of fans, show that there are classes
  module _ (heavy : Heavy S) (solve : (row : Row) (A : Doses) → (x : ℕ → ℕ → ℕ) × Within S row A x × (R : Doses) × (Q : ℕ → Bool) × Closed S row A x R Q)
      (F : Row) where
    build : (fuel i : ℕ) (C : ℕ → Doses) → size n (remaining C i) ≤ fuel → Found S F i C → (p : ℕ) × (C' : ℕ → Doses) × Classes S F p C'
    build zero i C h f = (i, C, found_all S F i C f (omega arith))
    build (suc fuel) i C h f = elim (eq-zero-or-pos (size n (remaining C i))) [
      | inl z ↦ (i, C, found_all S F i C f z)
      | inr w ↦
          let r = next_exists S (free S F C i) heavy (solve (free S F C i)) (remaining C i) (weight_pos n (λ k. 1) (remaining C i) w) in
          let C' : ℕ → Doses = put C i r.0 in
          let here : NextClass S (free S F C i) (remaining C i) (C' i) =
          next_transport S (free S F C i) (free S F C i) (remaining C i) (remaining C i) r.0 (C' i) (λ j. refl) (λ k l. refl) (put_here C i r.0) r.1 in
          let f' = found_more S F i C C' (put_below C i r.0) f here in
          build fuel (suc i) C'
          (omega (
            arith,
            left_falls F i C' (f'.next i (omega arith)),
            weight_alike n (λ k. 1) (remaining C i) (remaining C' i) (remaining_alike S C C' i (put_below C i r.0)),
          )) f'
    ]

    -- there are classes
    pub classes_exist : (p : ℕ) × (C : ℕ → Doses) × Classes S F p C
    classes_exist = build (size n (remaining (λ l k. false) 0)) 0 (λ l k. false) (omega arith) (found_none S F (λ l k. false))
