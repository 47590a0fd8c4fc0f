-- The arrays in which classes are found: what stands in them, and the setting that they stand for.
use Rattle.std.specs.Prelude.{◌≡◌, Bool, false, ◌&&◌, List, ℕ, ◌+◌, ◌-◌, ◌*◌, ◌/◌, ◌%◌, ◌<◌, ◌≤◌, eqb, ltb, get_or}
use Rattle.model.specs.Limits.{cells, most_doses, most_grams, most_intervals, week}
use Rattle.model.specs.Sets.{Doses}
use Rattle.model.specs.Classes.{Setting, Row}
use Rattle.model.proofs.Same.{Agree}
use Rattle.order.specs.declared.Order.{Order}
use Rattle.order.specs.Held.{dose_held}
use Rattle.interval.specs.declared.Instants.{Instants}
use Rattle.interval.specs.Held.{span_in, active_in}

-- ---- the arrays of an order

-- what dose k weighs
abbrev pub grams_of : Order → ℕ → ℕ
grams_of o k = (dose_held o k).grams

-- how many intervals the instants bound
abbrev pub intervals_of : Instants → ℕ
intervals_of s = s.count - 1

-- the grams of each dose, and zeros past the doses
pub record GramsIn (o : Order) (grams : List ℕ) : Type 0 where
  pub doses : (k : ℕ) → k < o.count → get_or grams k 0 ≡ grams_of o k
  pub past : (k : ℕ) → o.count ≤ k → get_or grams k 0 ≡ 0

-- the length of each interval, and zeros past the array
pub record LensIn (s : Instants) (lens : List ℕ) : Type 0 where
  pub intervals : (j : ℕ) → j < most_intervals → get_or lens j 0 ≡ span_in s j
  pub past : (j : ℕ) → most_intervals ≤ j → get_or lens j 0 ≡ 0

-- dose k is active in interval j, at k * 47 + j: both are there, and the window reaches over the interval
abbrev pub ActiveIn : Order → Instants → ℕ → List Bool → Type 0
ActiveIn o s J active =
    (i : ℕ) → i < cells → get_or active i false ≡ (ltb (i / most_intervals) o.count && (ltb (i % most_intervals) J && active_in o s (i / most_intervals) (i % most_intervals)))

-- ---- what any such arrays stand for

-- the set that an array of marks holds
abbrev pub set_of : List Bool → Doses
set_of marks k = get_or marks k false

-- the doses of class i, by the number that each dose's class has in its record: "class number from 1", and 0 for none
abbrev pub sets_of : List ℕ → ℕ → Doses
sets_of numbers i k = eqb (get_or numbers k 0) (i + 1)

-- dose k is active in interval j
abbrev pub active_of : List Bool → ℕ → ℕ → Bool
active_of active k j = get_or active (k * most_intervals + j) false

-- the fans of an array, interval by interval
abbrev pub row_of : List ℕ → Row
row_of fans j = get_or fans j 0

-- no number of the array is above b
abbrev pub Below : ℕ → List ℕ → Type 0
Below b l = (i : ℕ) → get_or l i 0 ≤ b

-- the setting that an order and its instants stand for
abbrev pub setting_by : Order → Instants → Setting
setting_by o s = record {
  doses = o.count;
  intervals = intervals_of s;
  active = active_in o s;
  len = span_in s;
  grams = grams_of o;
}

-- that of n doses and J intervals, with a table of which dose is active where, and the lengths and grams in arrays
abbrev pub setting_from : ℕ → ℕ → List Bool → List ℕ → List ℕ → Setting
setting_from n J active lens grams = record {
  doses = n;
  intervals = J;
  active = active_of active;
  len = λ j. get_or lens j 0;
  grams = λ k. get_or grams k 0;
}

-- the table and the lengths are those of the windows and the instants; the numbers fit, every dose weighs, and nothing stands past the doses
-- and the intervals
pub record OrderArrays (o : Order) (s : Instants) (active : List Bool) (lens grams : List ℕ) : Type 0 where
  pub same : Agree (setting_by o s) (setting_from o.count (intervals_of s) active lens grams)
  pub few_doses : o.count ≤ most_doses
  pub few_intervals : intervals_of s ≤ most_intervals
  pub short : Below week lens
  pub light : Below most_grams grams
  pub heavy : (k : ℕ) → k < o.count → 1 ≤ get_or grams k 0
  pub no_grams : (k : ℕ) → o.count ≤ k → get_or grams k 0 ≡ 0
  pub no_dose : (k j : ℕ) → o.count ≤ k → k < most_doses → j < most_intervals → active_of active k j ≡ false
  pub no_interval : (k j : ℕ) → k < most_doses → intervals_of s ≤ j → j < most_intervals → active_of active k j ≡ false
