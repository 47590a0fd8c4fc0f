-- Laws of the arrays that are filled for a candidate. Assumes nothing.
use mathlib.Core.Bool.{Bool, false, ◌&&◌}
use mathlib.Core.List.{List}
use mathlib.Core.Logic.{inl, inr}
use mathlib.Core.Path.{◌≡◌, sym, ap, ◌∙◌}
use Prim.Native.Nat.{ℕ, ◌+◌, ◌*◌, ◌/◌, ◌%◌, ◌<◌, ◌≤◌}
use native.Mathlib.Omega.{arith}
use lib.Arith.{digits_div, digits_mod}
use borrow.Author.Tests.{lt-ltb, le-ltb}
use lib.Dec.{ltb}
use lib.ListN.{length, get_or, get_or-eq_default}
use Rattle.model.specs.Limits.{most_doses, most_intervals}
use Rattle.model.specs.Sets.{on, Nonempty}
use Rattle.model.proofs.Fractions.{compare≤}
use Rattle.model.proofs.Sets.{Alike}
use Rattle.steps.proofs.Tests.{and_false}
use Rattle.measure.specs.Arrays.{set_of}
use Rattle.class_rounds.specs.Rounds.{NonePast}

-- a room by dose and interval, and by its place
pub room_place : (active set : List Bool) (lens : List ℕ) (w k j : ℕ) → j < most_intervals
    → on (get_or set k false) (on (get_or active (k * most_intervals + j) false) (get_or lens j 0 * w))
    ≡ on (get_or set ((k * most_intervals + j) / most_intervals) false) (on (get_or active (k * most_intervals + j) false) (get_or lens ((k * most_intervals + j) % most_intervals) 0 * w))
room_place active set lens w k j h = rw (digits_div k h, digits_mod k h)

-- marks of both arrays, also past their ends
pub marks_both : (n : ℕ) (dead set part : List Bool) → length set ≡ n → length part ≡ n
    → ((k : ℕ) → k < n → get_or part k false ≡ (get_or dead k false && get_or set k false)) → (k : ℕ) → get_or part k false ≡ (get_or dead k false && get_or set k false)
marks_both n dead set part e g all k = elim (compare≤ n k) [
  | inl h ↦ rw (past part (omega arith), past set (omega arith)) (sym (and_false (get_or dead k false)))
  | inr h ↦ all k h
]
  where
    past : (l : List Bool) → length l ≤ k → get_or l k false ≡ false
    past l h = get_or-eq_default l false {n = k} h

-- the marks of doses, of an array with more marks: the same set of doses, and no other marks
module _ (n : ℕ) (few : n ≤ most_doses) (marks own : List Bool) (all : (k : ℕ) → k < most_doses → get_or own k false ≡ (ltb k n && get_or marks k false)) where
  pub own_alike : Alike n (set_of own) (set_of marks)
  own_alike k l = all k (omega arith) ∙ ap (λ (b : Bool). b && get_or marks k false) (lt-ltb k n l)

  pub own_some : Nonempty n (set_of marks) → Nonempty n (set_of own)
  own_some some = (some.0, some.1, rw (← own_alike some.0 some.1) at some.2)

  pub own_none_past : NonePast n (set_of own)
  own_none_past k g l = all k l ∙ ap (λ (b : Bool). b && get_or marks k false) (le-ltb k n g)
