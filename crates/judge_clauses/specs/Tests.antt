-- What the judge tests of plan bytes, over an order and its instants as they are held: document 01, "A plan stands", with the sets of doses named by
-- the plan's own slots. No share is raised: the plan is its own certificate.
use Rattle.std.specs.Prelude.{◌≡◌, Bool, true, false, List, ℕ, zero, suc, ◌+◌, ◌-◌, ◌*◌, ◌/◌, ◌%◌, ◌<◌, ◌≤◌, ◌&&◌, eqb, leb, ltb, length, get_or}
use Rattle.model.specs.Limits.{most_doses}
use Rattle.model.specs.Sets.{sum, weight}
use Rattle.model.specs.Records.{pick, record_size, class_kind, slot_kind, blank_at, class_parts, slot_parts, record_at}
use Rattle.model.specs.Orders.{Order, dose_at}
use Rattle.model.specs.Intervals.{instant_at, interval_count}
use Rattle.model.specs.Classes.{Setting, Row, W, class_p}
use Rattle.model.specs.Plans.{Class, Slot}
use Rattle.model.specs.Stands.{Between, EndsBy, NoOverlap, starts, ends, units_of}
use Rattle.records.specs.Plan.{class_in, slot_in, kind_at}
use Rattle.order.specs.declared.Order as code
use Rattle.order.specs.Held.{dose_held}
use Rattle.interval.specs.declared.Instants.{Instants}
use Rattle.measure.specs.Arrays.{sets_of}

-- r says whether P holds
pub record Tells (r : Bool) (P : Type 0) : Type 0 where
  pub yes : r ≡ true → P
  pub no : r ≡ false → P → ⊥

-- ---- an order as it is held

pub record OrderHeld : Type 0 where
  pub doses : ℕ
  pub intervals : ℕ
  pub fans : ℕ
  pub release : ℕ → ℕ
  pub deadline : ℕ → ℕ
  pub grams : ℕ → ℕ
  pub instants : List ℕ

-- what the structs of an order and of its instants hold
abbrev pub order_held : code.Order → Instants → OrderHeld
order_held o s = record {
  doses = o.count;
  intervals = s.count - 1;
  fans = o.fans;
  release = λ k. (dose_held o k).release;
  deadline = λ k. (dose_held o k).deadline;
  grams = λ k. (dose_held o k).grams;
  instants = s.at;
}

-- they hold the order
pub record HeldFrom (o : Order) (h : OrderHeld) : Type 0 where
  pub doses : h.doses ≡ length o.doses
  pub intervals : h.intervals ≡ interval_count o
  pub fans : h.fans ≡ o.fans
  pub release : (k : ℕ) → k < h.doses → h.release k ≡ (dose_at o k).release
  pub deadline : (k : ℕ) → k < h.doses → h.deadline k ≡ (dose_at o k).deadline
  pub grams : (k : ℕ) → k < h.doses → h.grams k ≡ (dose_at o k).grams
  pub instants : (j : ℕ) → j ≤ h.intervals → get_or h.instants j 0 ≡ instant_at o j

-- the setting that they stand for
abbrev pub setting_in : OrderHeld → Setting
setting_in h = record {
  doses = h.doses;
  intervals = h.intervals;
  active = λ k j. leb (h.release k) (get_or h.instants j 0) && leb (get_or h.instants (j + 1) 0) (h.deadline k);
  len = λ j. get_or h.instants (j + 1) 0 - get_or h.instants j 0;
  grams = h.grams;
}

-- its fans, in every interval
abbrev pub fans_held : OrderHeld → Row
fans_held h j = h.fans

-- the first interval that ends after tick t, of n from interval j on
unfoldable pub scan : List ℕ → ℕ → ℕ → ℕ → ℕ
scan instants t j zero = j
scan instants t j (suc n) = pick (ltb t (get_or instants (j + 1) 0)) j (scan instants t (j + 1) n)

-- the interval of tick t; as many as there are intervals where t is in none
abbrev pub interval_of : List ℕ → ℕ → ℕ → ℕ
interval_of instants intervals t = scan instants t 0 intervals

-- ---- records

pub record ClassRow (r : List ℕ) : Type 0 where
  pub kind : get_or r 0 0 ≡ class_kind
  pub blank : blank_at class_parts r 0 ≡ true

pub record SlotRow (r : List ℕ) : Type 0 where
  pub kind : get_or r 0 0 ≡ slot_kind
  pub blank : blank_at slot_parts r 0 ≡ true

-- p C records stand in front, and no more
pub record Leads (plan : List ℕ) (p : ℕ) : Type 0 where
  pub short : p ≤ length plan / record_size
  pub classes : (i : ℕ) → i < p → kind_at plan i ≡ class_kind
  pub stops : p < length plan / record_size → kind_at plan p ≡ class_kind → ⊥

-- the class number that the last slot of dose k names, of n slots from record p on; 0 where none is its own
unfoldable pub number_of : List ℕ → ℕ → ℕ → ℕ → ℕ
number_of plan p k zero = 0
number_of plan p k (suc n) = pick (eqb (slot_in plan (p + n)).dose k) (slot_in plan (p + n)).class (number_of plan p k n)

-- every dose below 24 has its number, by the slots from record p up to record e
pub record ClassNumbers (plan : List ℕ) (p e : ℕ) (numbers : List ℕ) : Type 0 where
  pub each : (k : ℕ) → k < most_doses → get_or numbers k 0 ≡ number_of plan p k (e - p)

-- every dose's number is that of one of the plan's records
abbrev pub Known : ℕ → List ℕ → List ℕ → Type 0
Known doses plan numbers = (k : ℕ) → k < doses → (1 ≤ get_or numbers k 0) × (get_or numbers k 0 ≤ length plan / record_size)

-- ---- clauses

-- "the C records are exactly the order's classes": of the sets that the slots name
pub record ClassFits (h : OrderHeld) (numbers : List ℕ) (i : ℕ) (c : Class) : Type 0 where
  pub number : c.number ≡ i + 1
  pub doses : c.doses ≡ weight h.doses (λ k. 1) (sets_of numbers i)
  pub some : 1 ≤ c.doses
  pub weight : c.weight ≡ W (setting_in h) (sets_of numbers i)
  pub time : c.time ≡ class_p (setting_in h) (fans_held h) (sets_of numbers) i

-- the same, from numbers that were worked out
pub record Says (c : Class) (i size weight time : ℕ) : Type 0 where
  pub number : c.number ≡ i + 1
  pub doses : c.doses ≡ size
  pub some : 1 ≤ c.doses
  pub weighs : c.weight ≡ weight
  pub lasts : c.time ≡ time

-- "Class rates fall strictly from class to class.": c before d
pub record Falls (c d : Class) : Type 0 where
  pub fall : d.weight * c.time < c.weight * d.time

-- the interval in which a slot starts
abbrev pub place_in : List ℕ → ℕ → Slot → ℕ
place_in instants intervals s = interval_of instants intervals s.start_tick

-- "each slot names a dose of its class, that class's W and P, an existing fan": c is its class
pub record SlotNames (fans number : ℕ) (c : Class) (s : Slot) : Type 0 where
  pub class : number ≡ s.class
  pub weight : s.weight ≡ c.weight
  pub time : s.time ≡ c.time
  pub fan_from : 1 ≤ s.fan
  pub fan_to : s.fan ≤ fans

-- "has both parts below W and start before end"
pub record SlotLong (s : Slot) : Type 0 where
  pub start_part : s.start_part < s.weight
  pub end_part : s.end_part < s.weight
  pub long : starts s < ends s

-- "and lies within .. one interval"
pub record InPlace (instants : List ℕ) (intervals : ℕ) (s : Slot) : Type 0 where
  pub place : place_in instants intervals s < intervals
  pub interval : Between (get_or instants (place_in instants intervals s) 0) (get_or instants (place_in instants intervals s + 1) 0) s

-- all of it, "within the dose's window" too
pub record SlotFits (h : OrderHeld) (plan : List ℕ) (numbers : List ℕ) (s : Slot) : Type 0 where
  pub dose : s.dose < h.doses
  pub names : SlotNames h.fans (get_or numbers s.dose 0) (class_in plan (get_or numbers s.dose 0 - 1)) s
  pub long : SlotLong s
  pub window : Between (h.release s.dose) (h.deadline s.dose) s
  pub inside : InPlace h.instants h.intervals s

-- "slots by interval, fan, start", and "no two slots of one fan overlap": s stands right before u
pub data InTurn (instants : List ℕ) (intervals : ℕ) (s u : Slot) : Type 0 where
  by_interval : place_in instants intervals s < place_in instants intervals u → InTurn instants intervals s u
  by_fan : place_in instants intervals s ≡ place_in instants intervals u → s.fan < u.fan → InTurn instants intervals s u
  by_time : place_in instants intervals s ≡ place_in instants intervals u → s.fan ≡ u.fan → EndsBy s u → InTurn instants intervals s u

-- slots that are long, in an interval and in turn
pub record SlotsReady (instants : List ℕ) (intervals : ℕ) (plan : List ℕ) (p : ℕ) : Type 0 where
  pub long : (i : ℕ) → i < length plan / record_size → p ≤ i → SlotLong (slot_in plan i)
  pub place : (i : ℕ) → i < length plan / record_size → p ≤ i → place_in instants intervals (slot_in plan i) < intervals
  pub sorted : (i l : ℕ) → p ≤ i → i < l → l < length plan / record_size → place_in instants intervals (slot_in plan i) ≤ place_in instants intervals (slot_in plan l)

-- "no two slots of one dose overlap"
pub record Apart (s u : Slot) : Type 0 where
  pub clear : s.dose ≡ u.dose → NoOverlap s u

-- of slot i and those behind it up to record e, in one interval: in two intervals they are apart
pub record ApartAfter (instants : List ℕ) (intervals : ℕ) (plan : List ℕ) (i e : ℕ) : Type 0 where
  pub apart : (l : ℕ) → l < e → i < l → place_in instants intervals (slot_in plan i) ≡ place_in instants intervals (slot_in plan l) → Apart (slot_in plan i) (slot_in plan l)

-- a slot whose units can be counted
pub record Counts (doses : ℕ) (plan numbers : List ℕ) (s : Slot) : Type 0 where
  pub dose : s.dose < doses
  pub time : s.time ≡ (class_in plan (get_or numbers s.dose 0 - 1)).time
  pub long : starts s < ends s

-- what the slots of dose k come to, up to record i
abbrev pub units_up_to : List ℕ → ℕ → ℕ → ℕ → ℕ
units_up_to plan p i k = sum (i - p) (λ l. units_of k (slot_in plan (p + l)))

-- "each dose's slots total w × P units"
abbrev pub need_in : (ℕ → ℕ) → List ℕ → List ℕ → ℕ → ℕ
need_in grams plan numbers k = grams k * (class_in plan (get_or numbers k 0 - 1)).time

-- what the records and the slots' class numbers show without the order's windows
pub record RowsPass (doses : ℕ) (plan : List ℕ) (p : ℕ) (numbers : List ℕ) : Type 0 where
  pub whole : length plan % record_size ≡ 0
  pub few : p ≤ doses
  pub class_rows : (i : ℕ) → i < p → ClassRow (record_at plan i)
  pub slot_rows : (i : ℕ) → i < length plan / record_size → p ≤ i → SlotRow (record_at plan i)
  pub numbered : (k : ℕ) → k < doses → (1 ≤ get_or numbers k 0) × (get_or numbers k 0 ≤ p)
  pub falls : (i : ℕ) → i + 1 < p → Falls (class_in plan i) (class_in plan (i + 1))

-- all clauses
pub record Passes (h : OrderHeld) (plan : List ℕ) (p : ℕ) (numbers : List ℕ) : Type 0 where
  pub rows : RowsPass h.doses plan p numbers
  pub classes : (i : ℕ) → i < p → ClassFits h numbers i (class_in plan i)
  pub slots : (i : ℕ) → i < length plan / record_size → p ≤ i → SlotFits h plan numbers (slot_in plan i)
  pub turns : (i : ℕ) → i + 1 < length plan / record_size → p ≤ i → InTurn h.instants h.intervals (slot_in plan i) (slot_in plan (i + 1))
  pub apart : (i : ℕ) → i < length plan / record_size → p ≤ i → ApartAfter h.instants h.intervals plan i (length plan / record_size)
  pub totals : (k : ℕ) → k < h.doses → units_up_to plan p (length plan / record_size) k ≡ need_in h.grams plan numbers k
