-- Laws of a season's lines: which refusals have one, and how long they are. Assumes nothing.
use mathlib.Core.Bool.{Bool, true, false}
use mathlib.Core.List.{List, [], ◌∷◌, ◌++◌}
use Prim.Native.Nat.{ℕ, ◌+◌, ◌*◌, ◌≤◌}
use native.Mathlib.Omega.{arith}
use lib.Dec.{eqb}
use lib.ListN.{get_or, length, length-append}
use Rattle.model.specs.Limits.{order_numbers}
use Rattle.model.specs.Records.{pick}
use Rattle.lines.specs.Text.{bare_text, met_text, refusals_text, season_text, totals_text}
use Rattle.lines.proofs.Puts.{bare_length, lines_length}

-- the line of a number is at most 42 bytes long
pub met_length : (number count : ℕ) → length (met_text number count) ≤ 42
unfolding met_text
met_length number count = go (eqb count 0)
  where
    go : (t : Bool) → length (pick t [] (bare_text number (count ∷ []))) ≤ 42
    go true = omega arith
    go false = omega (arith, bare_length number (count ∷ []))

pub refusals_length : (counts : List ℕ) → length (refusals_text counts) ≤ 42 * order_numbers
refusals_length counts = lines_length (λ n. met_text n (get_or counts n 0)) 42 (λ n. met_length n (get_or counts n 0)) order_numbers

totals_length : (grams seconds weight time : ℕ) → length (totals_text grams seconds weight time) ≤ 126
unfolding totals_text
totals_length grams seconds weight time =
    omega (
      arith,
      length-append (bare_text grams []) (bare_text seconds [] ++ bare_text weight (time ∷ [])),
      length-append (bare_text seconds []) (bare_text weight (time ∷ [])),
      bare_length grams [],
      bare_length seconds [],
      bare_length weight (time ∷ []),
    )

-- the whole text: a line for each number, and four more
pub season_length : (accepted : ℕ) (counts : List ℕ) (grams seconds weight time : ℕ)
    → length (season_text accepted counts grams seconds weight time) ≤ 42 * (order_numbers + 4)
unfolding season_text
season_length accepted counts grams seconds weight time =
    omega (
      arith,
      length-append (bare_text accepted []) (refusals_text counts ++ totals_text grams seconds weight time),
      length-append (refusals_text counts) (totals_text grams seconds weight time),
      bare_length accepted [],
      refusals_length counts,
      totals_length grams seconds weight time,
    )
