-- The rounds that find the next class.
use Rattle.std.specs.Prelude.{◌≡◌, false, List, ℕ, ◌<◌, ◌≤◌, T}
use Rattle.model.specs.Limits.{most_doses, most_intervals}
use Rattle.model.specs.Sets.{Doses, Sub, Nonempty}
use Rattle.model.specs.Classes.{Setting, Row, W, NextClass}
use Rattle.model.specs.Shares.{Valid}
use Rattle.model.proofs.Rounds.{Keeps}
use Rattle.class_chains.specs.Chains.{cell}
use Rattle.measure.specs.Arrays.{set_of, Below}
use Rattle.measure.specs.Measure.{Measured}
use Rattle.class_rounds.specs.declared.Class.{Class}

-- a candidate: a set of remaining doses that keeps what the next class has
pub record Candidate (S : Setting) (row : Row) (rest A : Doses) : Type 0 where
  pub within : Sub S.doses A rest
  pub some : Nonempty S.doses A
  pub keeps : Keeps S row rest A

-- no dose has a share where it is not active
abbrev pub NoShares : Setting → List ℕ → Type 0
NoShares S x = (k j : ℕ) → k < most_doses → j < most_intervals → S.active k j ≡ false → cell x k j ≡ 0

-- no number past the n doses is marked
abbrev pub NonePast : ℕ → Doses → Type 0
NonePast n A = (k : ℕ) → n ≤ k → k < most_doses → A k ≡ false

-- A is the next class, with the shares x
pub record Chosen (S : Setting) (row : Row) (rest A : Doses) (x : List ℕ) : Type 0 where
  pub next : NextClass S row rest A
  pub valid : Valid S row A (cell x)
  pub past : NonePast S.doses A
  pub none : NoShares S x

-- the next class c of the remaining doses: its doses, W and P, and the fans that it reserves; x are its shares
pub record NextOf (S : Setting) (row : Row) (rest : Doses) (c : Class) (x : List ℕ) : Type 0 where
  pub measured : Measured S row (set_of c.members) c.weight c.time c.reserved
  pub small : Below most_doses c.reserved
  pub chosen : Chosen S row rest (set_of c.members) x

-- B is the next candidate after A, and lighter
pub record Onward (S : Setting) (row : Row) (A B : Doses) : Type 0 where
  pub candidate : (rest : Doses) → Candidate S row rest A → Candidate S row rest B
  pub lighter : (rest : Doses) → Candidate S row rest A → W S B < W S A
  pub fewer : (k : ℕ) → T (B k) → T (A k)
