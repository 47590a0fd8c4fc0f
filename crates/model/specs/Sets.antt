-- Sums over numbers, and sets of doses. A set is a test of dose numbers; only numbers below the order's count of doses matter.
use Rattle.std.specs.Prelude.{Bool, true, false, ℕ, zero, suc, ◌+◌, ◌<◌, T}

-- f 0 + f 1 + .. + f (n - 1)
unfoldable pub sum : ℕ → (ℕ → ℕ) → ℕ
sum zero f = 0
sum (suc n) f = sum n f + f n

-- the number x where the test holds, and 0 where not
abbrev pub on : Bool → ℕ → ℕ
on true x = x
on false x = 0

-- a set of doses
abbrev pub Doses : Type 0
Doses = ℕ → Bool

-- what the members of A below n weigh together, member k weighing w k
unfoldable pub weight : ℕ → (ℕ → ℕ) → Doses → ℕ
weight n w A = sum n (λ k. on (A k) (w k))

module _ (n : ℕ) where
  -- every member of A is one of B
  abbrev pub Sub : Doses → Doses → Type 0
  Sub A B = (k : ℕ) → k < n → T (A k) → T (B k)

  -- A has a member
  abbrev pub Nonempty : Doses → Type 0
  Nonempty A = (k : ℕ) × (k < n) × T (A k)
