-- The drawn line (document 01; Dosing as document 02, C-12 has it): units before a tick, amounts, states, and moments that are whole numbers of
-- 1/q ticks.
use Rattle.std.specs.Prelude.{◌≡◌, Bool, ◌&&◌, List, [], ◌∷◌, ℕ, ◌+◌, ◌*◌, ◌-◌, ◌/◌, ◌≤◌, ◌<◌, min, eqb, leb, ltb, length, get_or}
use Rattle.model.specs.Sets.{on}
use Rattle.model.specs.Records.{pick}
use Rattle.model.specs.Orders.{Order, dose_at}
use Rattle.model.specs.Lists.{total}
use Rattle.model.specs.Plans.{Slot}
use Rattle.model.specs.Stands.{starts, ends}

-- "units of the dose's slots before t"
unfoldable pub units_before : List Slot → ℕ → ℕ → ℕ
units_before slots d t = total (λ s. on (eqb d s.dose) (min (ends s) (t * s.weight) - starts s)) slots

-- the W that the slots of dose d name, as the first has it; the rate of the dose is W/P
unfoldable pub weight_of : List Slot → ℕ → ℕ
weight_of [] d = 0
weight_of (s ∷ slots) d = pick (eqb d s.dose) s.weight (weight_of slots d)

-- and the P
unfoldable pub time_of : List Slot → ℕ → ℕ
time_of [] d = 0
time_of (s ∷ slots) d = pick (eqb d s.dose) s.time (time_of slots d)

-- "Exact amount at tick t: units of the dose's slots before t, divided by P. Drawn amount: its whole part, one division at the end."
unfoldable pub drawn : List Slot → ℕ → ℕ → ℕ
drawn slots d t = units_before slots d t / time_of slots d

-- "one of four states"; "Dosing carries the fan number"
pub data State : Type 0 where
  finished : State
  shut : State
  idle : State
  dosing : ℕ → State

-- a slot feeds the second t if it "starts before t+1 and ends after t" (document 02, C-12: "Growers read a second as the whole second"), by
-- exact products
unfoldable pub feeds : Slot → ℕ → Bool
feeds s t = ltb (starts s) ((t + 1) * s.weight) && ltb (t * s.weight) (ends s)

-- s starts before u does: starts/W of both, by exact products
unfoldable pub starts_before : Slot → Slot → Bool
starts_before s u = ltb (starts s * u.weight) (starts u * s.weight)

-- the slot by which a dose is fed, if there is one
pub data Feeding : Type 0 where
  unfed : Feeding
  fed_by : Slot → Feeding

-- of a slot and another, if there is one, the earlier
unfoldable pub earlier : Slot → Feeding → Feeding
earlier s unfed = fed_by s
earlier s (fed_by u) = fed_by (pick (starts_before u s) u s)

-- "the earliest such slot" of dose d: of those that feed the second t the one with the least start
unfoldable pub earliest : List Slot → ℕ → ℕ → Feeding
earliest [] d t = unfed
earliest (s ∷ slots) d t = pick (eqb d s.dose && feeds s t) (earlier s (earliest slots d t)) (earliest slots d t)

-- "Dosing .. means that some slot" feeds the second, and "the fan is that of the earliest such slot"; "else Idle"
unfoldable pub state_by : Feeding → State
state_by unfed = idle
state_by (fed_by s) = dosing s.fan

-- the state of a dose inside its window
unfoldable pub fed_at : List Slot → ℕ → ℕ → State
fed_at slots d t = state_by (earliest slots d t)

-- "Finished if t is at or past the deadline, else Shut before the release, else" as above
unfoldable pub state_at : Order → List Slot → ℕ → ℕ → State
state_at o slots d t = pick (leb (dose_at o d).deadline t) finished (pick (ltb t (dose_at o d).release) shut (fed_at slots d t))

-- "A point is an amount together with one of four states"
pub record Point : Type 0 where
  pub amount : ℕ
  pub state : State

-- the point of dose d at tick t
abbrev pub point_at : Order → List Slot → ℕ → ℕ → Point
point_at o slots d t = record { amount = drawn slots d t; state = state_at o slots d t }

-- ---- "For demand 3 a moment is a whole number of 1/q ticks, any q"

-- a slot "starts at or before the moment and ends after it": x/q against starts/W and ends/W, by exact products
pub record Covers (q x : ℕ) (s : Slot) : Type 0 where
  pub from : starts s * q ≤ x * s.weight
  pub after : x * s.weight < ends s * q

-- one of the slots
pub record OneOf (slots : List Slot) (s : Slot) : Type 0 where
  pub index : ℕ
  pub listed : index < length slots
  pub there : (d : Slot) → get_or slots index d ≡ s

-- "a dose has a fan": a slot of it covers the moment
pub record HasFan (slots : List Slot) (q x d : ℕ) : Type 0 where
  pub slot : Slot
  pub one : OneOf slots slot
  pub dose : slot.dose ≡ d
  pub covers : Covers q x slot

-- "a fan runs": likewise; "the rate is that slot's W/P", here at least w/p, by exact products
pub record RunsAt (slots : List Slot) (q x f w p : ℕ) : Type 0 where
  pub slot : Slot
  pub one : OneOf slots slot
  pub fan : slot.fan ≡ f
  pub covers : Covers q x slot
  pub rate : w * slot.time ≤ slot.weight * p
