-- What a set of doses weighs and opens (document 01, "From doses to classes").
use Rattle.std.specs.Prelude.{◌≡◌, Bool, List, ℕ, ◌<◌, ◌≤◌, min, get_or}
use Rattle.model.specs.Limits.{most_doses, most_intervals}
use Rattle.model.specs.Sets.{on, weight, Doses}
use Rattle.model.specs.Classes.{Setting, Row, W, P, open_fans}
use Rattle.order.specs.declared.Order.{Order}
use Rattle.interval.specs.declared.Instants.{Instants}
use Rattle.interval.specs.Held.{active_in}
use Rattle.measure.specs.Arrays.{intervals_of, set_of, Below}

-- "(active doses of A)", in interval j, by the doses' windows
abbrev pub count_in : Order → Instants → List Bool → ℕ → ℕ
count_in o s set j = weight o.count (λ k. on (active_in o s k j) 1) (set_of set)

-- "the smaller of (active doses of A) and (fans − fans reserved by earlier classes)", interval by interval, and none past the intervals
pub record Opens (o : Order) (s : Instants) (set : List Bool) (free open-fans : List ℕ) : Type 0 where
  pub smaller : (j : ℕ) → j < intervals_of s → get_or open-fans j 0 ≡ min (count_in o s set j) (get_or free j 0)
  pub none : (j : ℕ) → intervals_of s ≤ j → get_or open-fans j 0 ≡ 0
  pub small : Below most_doses open-fans

-- W, P and the open fans of a set are worked out
pub record Measured (S : Setting) (row : Row) (A : Doses) (w p : ℕ) (open-fans : List ℕ) : Type 0 where
  pub weight : w ≡ W S A
  pub time : p ≡ P S row A
  pub fans : (j : ℕ) → j < S.intervals → get_or open-fans j 0 ≡ open_fans S row A j
  pub no_fans : (j : ℕ) → S.intervals ≤ j → j < most_intervals → get_or open-fans j 0 ≡ 0
