use mathlib.Core.List.{List}
use mathlib.Core.Path.{◌≡◌}
use Prim.Native.Nat.{ℕ, ◌<◌, ◌^◌}
use Rattle.model.specs.Sets.{weight}
use Rattle.measure.specs.Arrays.{sets_of}
use Rattle.measure.proofs.first_set.Given as goal

-- of the first k doses: the set's number, and the next bit above it
pub record NumberTo (numbers : List ℕ) (k sum bit : ℕ) : Type 0 where
  pub number : sum ≡ weight k (λ i. 2 ^ i) (sets_of numbers 0)
  pub next : bit ≡ 2 ^ k
  pub below : sum < bit

abbrev pub invariant-loop-k : goal.invariant-loop-k
invariant-loop-k l = NumberTo l.numbers l.k l.sum l.bit
