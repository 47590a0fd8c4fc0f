-- Laws of tests: both ways of a test, and a number where one holds. Assumes nothing.
use mathlib.Core.Bool.{Bool, true, false, ◌&&◌}
use mathlib.Core.Logic.{◌≢◌, inl, inr}
use mathlib.Core.Path.{◌≡◌, refl, sym, ◌∙◌}
use Prim.Native.Nat.{ℕ, ◌<◌, ◌≤◌}
use native.Mathlib.Omega.{arith}
use borrow.Author.Tests.{eqb-true, eqb-false}
use lib.Dec.{eqb}
use Rattle.model.specs.Sets.{on}
use Rattle.model.proofs.Sets.{on_below}
use Rattle.model.proofs.Fractions.{compare≤}

pub not_both : {b : Bool} → b ≡ true → b ≡ false → ⊥
not_both {b} p q = let z : true ≡ false = sym p ∙ q in let y : ◌≡◌ {A = ℕ} 0 1 = cc in omega arith

-- both of a test and false
pub and_false : (b : Bool) → (b && false) ≡ false
and_false true = refl
and_false false = refl

-- either way of a test, and of two numbers
pub known : {A : Type 0} (b : Bool) → (b ≡ true → A) → (b ≡ false → A) → A
known true f g = f refl
known false f g = g refl

pub alike : {A : Type 0} (m n : ℕ) → (m ≡ n → A) → (m ≢ n → A) → A
alike m n f g = known (eqb m n) (λ e. f (eqb-true m n e)) (λ e. g (eqb-false m n e))

-- i is below m, or at m and past it
pub below_or : {A : Type 0} (i m : ℕ) → (i < m → A) → (m ≤ i → A) → A
below_or i m f g = elim (compare≤ m i) [ inl h ↦ g h | inr h ↦ f h ]

-- a number or 0 is at most the number
pub on_most : (b : Bool) (v x m : ℕ) → v ≡ on b x → x ≤ m → v ≤ m
on_most b v x m e l = omega (arith, on_below b x)
