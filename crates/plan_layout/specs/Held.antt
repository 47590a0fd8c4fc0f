-- How the structs and arrays of `plan_layout` hold what document 01 speaks of.
use Rattle.std.specs.Prelude.{List, [], ℕ, ◌+◌, ◌*◌, ◌-◌, get_or}
use Rattle.model.specs.Limits.{most_intervals}
use Rattle.model.specs.Sets.{on}
use Rattle.model.specs.Layout as model
use Rattle.measure.specs.Arrays.{sets_of}
use Rattle.plan_layout.specs.declared.lane.Lane.{Lane}
use Rattle.plan_layout.specs.declared.Tables.{Tables}

abbrev pub as_lane : Lane → model.Lane
as_lane l = record { start = l.start; len = l.len; weight = l.weight; time = l.time; class = l.class; below = l.below }

-- instants bound the intervals: interval j ends where the next one starts
abbrev pub len_at : Tables → ℕ → ℕ
len_at t j = get_or t.instants (j + 1) 0 - get_or t.instants j 0

-- "a table with a row per class and a column per interval"
abbrev pub fans_at : List (List ℕ) → ℕ → ℕ → ℕ
fans_at reserved i j = get_or (get_or reserved i []) j 0

-- the share of dose k in class i and interval j: none where the dose is of another class
unfoldable pub share_at : Tables → List ℕ → ℕ → ℕ → ℕ → ℕ
share_at t shares i k j = on (sets_of t.class_of i k) (get_or shares (k * most_intervals + j) 0)

-- class i in interval j, above the fans below it
unfoldable pub lane_at : Tables → ℕ → ℕ → ℕ → model.Lane
lane_at t i j below = record {
  start = get_or t.instants j 0;
  len = len_at t j;
  weight = get_or t.weight i 0;
  time = get_or t.time i 0;
  class = i + 1;
  below = below;
}

-- the table that the arrays hold
unfoldable pub table_from : Tables → List ℕ → List (List ℕ) → model.Table
table_from t shares reserved = record {
  n = t.doses;
  p = t.classes;
  J = t.intervals;
  start = λ j. get_or t.instants j 0;
  len = len_at t;
  weight = λ i. get_or t.weight i 0;
  time = λ i. get_or t.time i 0;
  fans = fans_at reserved;
  share = share_at t shares;
}
