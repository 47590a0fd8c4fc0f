-- A table kept in one array, row by row: its cells, and what one store does to the totals of rows and columns. Assumes nothing.
use mathlib.Core.Path.{◌≡◌, sym, ap, ◌∙◌}
use mathlib.Core.Logic.{◌≢◌}
use mathlib.Core.List.{List}
use Prim.Native.Nat.{ℕ, ◌+◌, ◌*◌, ◌/◌, ◌%◌, ◌<◌}
use native.Mathlib.Nat.{mul-le-mul_right}
use native.Mathlib.Omega.{arith}
use lib.ListN.{length, get_or, set}
use lib.Seq.{get_or-set_same, get_or-set_other}
use lib.Arith.{digits_div, digits_mod}
use Rattle.model.specs.Sets.{sum}
use Rattle.model.proofs.Sums.{sum_congr, sum_change}

-- a table of n rows of J numbers, in one array
abbrev pub at : List ℕ → ℕ → ℕ → ℕ → ℕ
at l J k j = get_or l (k * J + j) 0

pub cell_lt : (n J k j : ℕ) → k < n → j < J → k * J + j < n * J
cell_lt n J k j h l = omega (arith, mul-le-mul_right J h)

-- a cell has one row and one column
pub cell_row : (J k j k' j' : ℕ) → j < J → j' < J → k * J + j ≡ k' * J + j' → k ≡ k'
cell_row J k j k' j' h l e = sym (digits_div k h) ∙ ap (λ (y : ℕ). y / J) e ∙ digits_div k' l

pub cell_col : (J k j k' j' : ℕ) → j < J → j' < J → k * J + j ≡ k' * J + j' → j ≡ j'
cell_col J k j k' j' h l e = sym (digits_mod k h) ∙ ap (λ (y : ℕ). y % J) e ∙ digits_mod k' l

module _ (l : List ℕ) (n J k j v : ℕ) (kn : k < n) (j_j : j < J) (sized : length l ≡ n * J) where
  pub at_same : at (set l (k * J + j) v) J k j ≡ v
  at_same = get_or-set_same l (k * J + j) v 0 (omega (arith, cell_lt n J k j kn j_j))

  pub at_other_row : (k' j' : ℕ) → j' < J → k' ≢ k → at (set l (k * J + j) v) J k' j' ≡ at l J k' j'
  at_other_row k' j' h d = get_or-set_other l (k * J + j) (k' * J + j') v 0 (λ e. d (cell_row J k' j' k j h j_j e))

  pub at_other_col : (k' j' : ℕ) → j' < J → j' ≢ j → at (set l (k * J + j) v) J k' j' ≡ at l J k' j'
  at_other_col k' j' h d = get_or-set_other l (k * J + j) (k' * J + j') v 0 (λ e. d (cell_col J k' j' k j h j_j e))

-- one cell holds v, and the others what they held: the row and the column of the cell, and the other rows and columns
module _ (l m : List ℕ) (n J k j v : ℕ) (kn : k < n) (j_j : j < J) (own : at m J k j ≡ v) where
  module _ (rows : (k' j' : ℕ) → j' < J → k' ≢ k → at m J k' j' ≡ at l J k' j') where
    pub col_change : sum n (λ i. at m J i j) + at l J k j ≡ sum n (λ i. at l J i j) + v
    col_change = omega (arith, own, sum_change n (λ i. at l J i j) (λ i. at m J i j) k kn (λ i h d. sym (rows i j j_j d)))

    pub row_other : (k' : ℕ) → k' ≢ k → sum J (λ i. at m J k' i) ≡ sum J (λ i. at l J k' i)
    row_other k' d = sum_congr J (λ i h. rows k' i h d)

  module _ (cols : (k' j' : ℕ) → j' < J → j' ≢ j → at m J k' j' ≡ at l J k' j') where
    pub row_change : sum J (λ i. at m J k i) + at l J k j ≡ sum J (λ i. at l J k i) + v
    row_change = omega (arith, own, sum_change J (λ i. at l J k i) (λ i. at m J k i) j j_j (λ i h d. sym (cols k i h d)))

    pub col_other : (j' : ℕ) → j' < J → j' ≢ j → sum n (λ i. at m J i j') ≡ sum n (λ i. at l J i j')
    col_other j' h d = sum_congr n (λ i q. cols i j' h d)
