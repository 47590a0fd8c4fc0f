-- What the code that lays slots promises of the buffer, and what it is given.
use Rattle.std.specs.Prelude.{◌≡◌, List, map, ℕ, ◌+◌, ◌*◌, ◌≤◌, ◌<◌, get_or, length}
use Rattle.model.specs.Records.{record_size}
use Rattle.model.specs.Limits.{most_weight, most_doses, most_fans, most_intervals, week}
use Rattle.records.specs.Written.{written}
use Rattle.model.specs.Sets.{sum}
use Rattle.model.specs.Plans.{PlanRecord, records_bytes}
use Rattle.model.specs.Layout.{Lane, cut, lane_slots}
use Rattle.plan_layout.specs.declared.Tables.{Tables}
use Rattle.plan_layout.specs.Held.{fans_at, len_at, share_at}

-- the members of l, each as the record `kind` makes of it, were written over b from record r on: the bytes are b' then, every other byte
-- is as it was, and the next record is r'
pub record Wrote {A : Type 0} (kind : A → PlanRecord) (l : List A) (b : List ℕ) (r : ℕ) (b' : List ℕ) (r' : ℕ) : Type 0 where
  pub next : r' ≡ r + length l
  pub now : b' ≡ written b (record_size * r) (records_bytes (map kind l))

-- a share x of dose k at a, of a class that has at most 8 stretches, and room for its records from record r on
pub record ShareRoom (l : Lane) (k a x r size : ℕ) : Type 0 where
  pub most : x ≤ l.len * l.weight
  pub end : a + x ≤ most_fans * (l.len * l.weight)
  pub room : record_size * (r + length (cut (l.len * l.weight) k a x)) ≤ size

-- the same for the shares of n doses
pub record LaneRoom (l : Lane) (x : ℕ → ℕ) (n r size : ℕ) : Type 0 where
  pub most : (k : ℕ) → k < n → x k ≤ l.len * l.weight
  pub end : sum n x ≤ most_fans * (l.len * l.weight)
  pub room : record_size * (r + length (lane_slots l x n)) ≤ size

-- arrays that hold shares in a week and on at most 8 fans: "at most L × W units", "exactly its reserved fans × L × W"
pub record Filled (t : Tables) (shares : List ℕ) (reserved : List (List ℕ)) : Type 0 where
  pub doses : t.doses ≤ most_doses
  pub classes : t.classes ≤ most_doses
  pub intervals : t.intervals ≤ most_intervals
  pub week : (j : ℕ) → j < t.intervals → get_or t.instants (j + 1) 0 ≤ week
  pub wide : (j : ℕ) → j < t.intervals → get_or t.instants j 0 < get_or t.instants (j + 1) 0
  pub heavy : (i : ℕ) → i < t.classes → 0 < get_or t.weight i 0
  pub light : (i : ℕ) → i < t.classes → get_or t.weight i 0 ≤ most_weight
  pub most : (i k j : ℕ) → i < t.classes → k < t.doses → j < t.intervals → share_at t shares i k j ≤ len_at t j * get_or t.weight i 0
  pub full : (i j : ℕ) → i < t.classes → j < t.intervals
      → sum t.doses (λ k. share_at t shares i k j) ≡ fans_at reserved i j * (len_at t j * get_or t.weight i 0)
  pub room : (j : ℕ) → j < t.intervals → sum t.classes (λ i. fans_at reserved i j) ≤ most_fans
