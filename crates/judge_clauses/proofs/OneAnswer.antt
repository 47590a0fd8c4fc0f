-- Two answers of `lead` are equal. Assumes nothing.
use mathlib.Core.List.{List}
use mathlib.Core.Logic.{inl, inr}
use mathlib.Core.Path.{◌≡◌}
use Prim.Native.Nat.{ℕ, ◌<◌}
use native.Mathlib.Nat.{eq-or-lt_of_le}
use native.Mathlib.Omega.{arith}
use Rattle.model.proofs.Fractions.{compare≤}
use Rattle.judge_clauses.specs.Tests.{Leads}

-- a count of C records that stops earlier would stop at a C record
not_shorter : {plan : List ℕ} {p q : ℕ} → Leads plan p → Leads plan q → p < q → ⊥
not_shorter {p = p} a b l = a.stops (omega (arith, b.short)) (b.classes p l)

pub leads_one : {plan : List ℕ} {p q : ℕ} → Leads plan p → Leads plan q → p ≡ q
leads_one {p = p} {q = q} a b = elim (compare≤ p q) [
  | inl h ↦ elim (eq-or-lt_of_le h) [ inl e ↦ e | inr l ↦ absurd (not_shorter a b l) ]
  | inr l ↦ absurd (not_shorter b a l)
]
