-- Row i of a table is replaced. Assumes nothing.
use mathlib.Core.List.{List, []}
use mathlib.Core.Logic.{◌≢◌}
use mathlib.Core.Path.{◌≡◌}
use Prim.Native.Nat.{ℕ, ◌<◌}
use lib.ListN.{length, get_or, set}
use lib.Seq.{get_or-set_same, get_or-set_other}

module _ (table : List (List ℕ)) (i : ℕ) (row : List ℕ) where
  pub row_same : i < length table → (j : ℕ) → get_or (get_or (set table i row) i []) j 0 ≡ get_or row j 0
  row_same h j = rw (get_or-set_same table i row [] h)

  pub row_other : (l j : ℕ) → l ≢ i → get_or (get_or (set table i row) l []) j 0 ≡ get_or (get_or table l []) j 0
  row_other l j d = rw (get_or-set_other table i l row [] d)
