-- The product of numbers, a common denominator of the classes: of all of them, and of all but one.
use mathlib.Core.Bool.{Bool, false, true}
use mathlib.Core.Logic.{inl, inr}
use mathlib.Core.Path.{◌≡◌, refl}
use Prim.Native.Nat.{◌*◌, ◌<◌, suc, zero, ℕ}
use native.Mathlib.Nat.{mul-pos}
use native.Mathlib.Omega.{arith}
use borrow.Author.Tests.{eq-eqb, ne_eqb}
use lib.Dec.{eqb}
use Rattle.model.proofs.Sums.{last}

-- the product of the first p numbers
unfoldable pub product : ℕ → (ℕ → ℕ) → ℕ
product zero f = 1
product (suc p) f = product p f * f p

-- a product of numbers above 0 is above 0
pub product_pos : (p : ℕ) (f : ℕ → ℕ) → ((i : ℕ) → i < p → 0 < f i) → 0 < product p f
unfolding product
product_pos zero f h = omega arith
product_pos (suc p) f h = mul-pos (product_pos p f (λ i q. h i (omega arith))) (h p (omega arith))

-- x, or 1 where the test passes
abbrev unless : Bool → ℕ → ℕ
unless true x = 1
unless false x = x

-- the product of all but one
unfoldable pub others : ℕ → (ℕ → ℕ) → ℕ → ℕ
others p f l = product p (λ i. unless (eqb l i) (f i))

product_congr : (p : ℕ) (f g : ℕ → ℕ) → ((i : ℕ) → i < p → f i ≡ g i) → product p f ≡ product p g
unfolding product
product_congr zero f g h = refl
product_congr (suc p) f g h = rw (product_congr p f g (λ i q. h i (omega arith)), h p (omega arith))

-- times that one, it is the product
pub others_times : (p : ℕ) (f : ℕ → ℕ) (l : ℕ) → l < p → others p f l * f l ≡ product p f
unfolding others product
others_times zero f l h = absurd (omega arith)
others_times (suc p) f l h = elim (last h) [
  | inl e ↦ rw (e, eq-eqb p p refl, product_congr p (λ i. unless (eqb p i) (f i)) f (λ i q. rw (ne_eqb p i (omega arith)))) (omega arith)
  | inr q ↦ rw (ne_eqb l p (omega arith), ← others_times p f l q) (omega arith)
]
