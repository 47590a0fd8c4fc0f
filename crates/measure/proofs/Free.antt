-- "fans − fans reserved by earlier classes": class by class, and by the sum of what they reserve. Assumes nothing.
use mathlib.Core.List.{List}
use mathlib.Core.Path.{◌≡◌, sym, ap, ◌∙◌}
use Prim.Native.Nat.{ℕ, zero, suc, ◌+◌, ◌-◌, ◌<◌}
use native.Mathlib.Numerals.{add-one}
use native.Mathlib.Omega.{arith}
use lib.ListN.{get_or}
use Rattle.model.specs.Sets.{sum, Doses}
use Rattle.model.specs.Classes.{Setting, Row, free, reserved}
use Rattle.model.proofs.Sums.{sum_congr}

module _ (S : Setting) (F : Row) (C : ℕ → Doses) where
  -- the array has the fans that the first i classes leave
  pub record Frees (i : ℕ) (fans : List ℕ) : Type 0 where
    pub left : (j : ℕ) → j < S.intervals → get_or fans j 0 ≡ free S F C i j

  -- at first all of them
  pub frees_all : (fans : List ℕ) → ((j : ℕ) → j < S.intervals → get_or fans j 0 ≡ F j) → Frees 0 fans
  unfolding free
  frees_all fans e = record { left = e }

  -- after one class more, less what it reserves
  pub frees_next : (i : ℕ) (fans row next : List ℕ) → Frees i fans → ((j : ℕ) → j < S.intervals → get_or row j 0 ≡ reserved S F C i j)
      → ((j : ℕ) → j < S.intervals → get_or next j 0 ≡ get_or fans j 0 - get_or row j 0) → Frees (i + 1) next
  unfolding free
  frees_next i fans row next f r e = record { left = λ j l. rw add-one (omega (arith, e j l, f.left j l, r j l)) }

  free_sum : (i j : ℕ) → free S F C i j ≡ F j - sum i (λ l. reserved S F C l j)
  unfolding free sum
  free_sum zero j = omega arith
  free_sum (suc i) j = omega (arith, free_sum i j)

  -- after i classes, less all that they reserve: row l has what class l reserves
  pub frees_sum : (i : ℕ) (fans : List ℕ) (rows : ℕ → Row) → ((l j : ℕ) → l < i → j < S.intervals → rows l j ≡ reserved S F C l j)
      → ((j : ℕ) → j < S.intervals → get_or fans j 0 ≡ F j - sum i (λ l. rows l j)) → Frees i fans
  frees_sum i fans rows r e =
      record { left = λ j q. e j q ∙ ap (λ (s : ℕ). F j - s) (sum_congr i (λ l m. r l j m q)) ∙ sym (free_sum i j) }
