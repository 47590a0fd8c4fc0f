-- Every order that fits has its classes, and every class has valid shares.
pub mod Raise
pub mod Shares
pub mod Sequence
use mathlib.Core.Logic.{inl, inr}
use Prim.Native.Nat.{ℕ, ◌<◌}
use native.Mathlib.Nat.{eq-zero-or-pos}
use native.Mathlib.Omega.{arith}
use Rattle.model.specs.Sets.{Doses}
use Rattle.model.specs.Orders.{Order}
use Rattle.model.specs.Classes.{Classes, NextClass, Row, Setting, free}
use Rattle.model.specs.Intervals.{fans_present, setting_of}
use Rattle.model.specs.Shares.{Valid, missing}
use Rattle.model.specs.Answers.{ValidShares}
use Rattle.model.proofs.Fractions.{compare≤}
use Rattle.model.proofs.NextClass.{no_denser_lem}
use Rattle.model.proofs.Chains.{denser_part, some_part}
use Rattle.demands.proofs.Existence.Sequence.{classes_exist}
use Rattle.demands.proofs.Existence.Shares.{shares_exist}
use Rattle.model.proofs.Orders.{Fit}
use Rattle.model.proofs.Windows.{heavy}
use Rattle.model.proofs.ValidShares.{valid_if_met}

-- the next class has valid shares: were something missing, a part of it would have a greater rate
pub next_shares : (S : Setting) (row : Row) (A rest : Doses) → NextClass S row rest A → (x : ℕ → ℕ → ℕ) × Valid S row A x
next_shares S row A rest a =
    let r = shares_exist S row A in
    let x = r.0 in
    let c = r.4 in
    elim (eq-zero-or-pos (missing S row A x)) [
      | inl z ↦ (x, valid_if_met S row A x r.1 z)
      | inr m ↦ absurd (omega (
        arith,
        denser_part S row A x r.1 r.2 r.3 c m,
        no_denser_lem S row rest A a r.2 (λ k l t. a.within k l (c.inside k l t)) (some_part S row A x r.1 r.2 r.3 c m),
      ))
    ]

module _ (o : Order) where
  -- every order that fits has its classes
  pub classes_of_lem : Fit o → (p : ℕ) × (C : ℕ → Doses) × Classes (setting_of o) (fans_present o) p C
  classes_of_lem fit = classes_exist (setting_of o) (heavy o fit) (shares_exist (setting_of o)) (fans_present o)

  module _ (p : ℕ) (C : ℕ → Doses) (c : Classes (setting_of o) (fans_present o) p C) where
    of_class_lem : (i : ℕ) → (x : ℕ → ℕ → ℕ) × (i < p → Valid (setting_of o) (free (setting_of o) (fans_present o) C i) (C i) x)
    of_class_lem i = elim (compare≤ p i) [
      | inl h ↦ (λ k j. 0, λ l. absurd (omega arith))
      | inr h ↦ let r = next_shares (setting_of o) _ (C i) _ (c.next i h) in (r.0, λ l. r.1)
    ]

    -- the classes have valid shares
    pub shares_of : (x : ℕ → ℕ → ℕ → ℕ) × ValidShares o p C x
    shares_of = (λ i. (of_class_lem i).0, λ i. (of_class_lem i).1)
