-- A set as a number, bit by bit. Assumes nothing.
use mathlib.Core.Path.{◌≡◌, sym, ap, ◌∙◌}
use Prim.Native.Nat.{ℕ, ◌+◌, ◌*◌, ◌^◌, ◌<◌}
use native.Mathlib.Nat.{pow-suc}
use native.Mathlib.Numerals.{add-one}
use native.Mathlib.Omega.{arith}
use Rattle.model.specs.Sets.{on, weight, Doses}
use Rattle.steps.proofs.Tests.{on_most}
use Rattle.steps.proofs.Loops.{sum_next}

-- one bit more
pub bits_next : (k s bit v : ℕ) (A : Doses) → s ≡ weight k (λ i. 2 ^ i) A → bit ≡ 2 ^ k → s < bit → v ≡ on (A k) bit
    → (s + v ≡ weight (k + 1) (λ i. 2 ^ i) A) × (bit * 2 ≡ 2 ^ (k + 1)) × (s + v < bit * 2)
unfolding weight
bits_next k s bit v A e b h q = (
  omega (arith, sum_next k (λ k. on (A k) (2 ^ k)), q ∙ ap (on (A k)) b),
  ap (λ (y : ℕ). y * 2) b ∙ sym (ap (λ (m : ℕ). 2 ^ m) (add-one k) ∙ pow-suc 2 k),
  omega (arith, on_most (A k) v bit bit q (omega arith)),
)
