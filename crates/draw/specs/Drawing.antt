-- How the types of `draw` hold what document 01 speaks of, what one record adds to a dose's line, and what a dose's line asks of plan bytes.
use Rattle.std.specs.Prelude.{◌≡◌, Bool, ◌&&◌, List, ℕ, ◌*◌, ◌-◌, ◌≤◌, ◌<◌, min, eqb, ltb, Option, Some, None, Result, Ok, Err}
use Rattle.model.specs.Limits.{most_bay, most_fan_time, most_grams}
use Rattle.model.specs.Lists.{All}
use Rattle.model.specs.Records.{pick, read, slot_kind}
use Rattle.model.specs.Plans.{PlanRecord, Slot, slots_in, plan_records}
use Rattle.model.specs.Stands.{starts, ends, Stands}
use Rattle.model.specs.Line.{finished, shut, idle, dosing, unfed, fed_by, units_before, weight_of, time_of}
use Rattle.model.specs.Line as line
use Rattle.model.specs.Orders.{Order}
use Rattle.model.specs.Answers.{Answer, Accepts, done, refusal, no_point}
use Rattle.model.specs.Answers as answers
use Rattle.records.specs.Plan.{kind_at, slot_in}
use Rattle.judge.specs.Verdict as judge
use Rattle.draw.specs.declared.State.{State}
use Rattle.draw.specs.declared.State.TheVariants as is
use Rattle.draw.specs.declared.Point.{Point}
use Rattle.draw.specs.declared.Refusal.{Refusal}
use Rattle.draw.specs.declared.Refusal.TheVariants as refused
use Rattle.draw.specs.declared.Pen.{Pen}
use Rattle.draw.specs.declared.line.Fed.{Fed}

-- ---- points

unfoldable pub as_state : State → line.State
as_state is.Finished = finished
as_state is.Shut = shut
as_state is.Idle = idle
as_state (is.Dosing fan) = dosing fan

abbrev pub as_point : Point → line.Point
as_point p = record { amount = p.amount; state = as_state p.state }

-- a refusal: what the judge says, 11 or 12
abbrev pub as_refusal : Refusal → Answer
as_refusal (refused.Plan r) = judge.as_refusal r
as_refusal refused.NoDose = refusal 11 0
as_refusal refused.NoTick = refusal 12 0

-- the answer in five numbers
abbrev pub answer_of : ℕ → ℕ → ℕ → ℕ → ℕ → Answer
answer_of number place set weight time = record { number = number; place = place; set = set; weight = weight; time = time }

-- what drawing answers: a point, or a refusal and no point
abbrev pub as_drawn : Result Point Refusal → answers.Drawn
as_drawn (Ok p) = record { answer = done; point = as_point p }
as_drawn (Err e) = no_point (as_refusal e)

-- a pen at a dose and a tick
abbrev pub pen_at : ℕ → ℕ → answers.Pen
pen_at dose tick = record { dose = dose; tick = tick }

abbrev pub as_pen : Pen → answers.Pen
as_pen p = pen_at p.dose p.tick

-- ---- one record

-- record k of plan bytes is a slot of dose d
unfoldable pub own_slot : List ℕ → ℕ → ℕ → Bool
own_slot plan k d = eqb (kind_at plan k) slot_kind && eqb d (slot_in plan k).dose

-- the units of a slot before tick t
unfoldable pub slot_units : Slot → ℕ → ℕ
slot_units s t = min (ends s) (t * s.weight) - starts s

-- what is kept of the slot by which a dose is fed: its fan, and its start in units of 1/W
abbrev pub fed_of : Slot → Fed
fed_of s = record { fan = s.fan; start = starts s }

unfoldable pub kept_of : line.Feeding → Option Fed
kept_of unfed = None
kept_of (fed_by s) = Some (fed_of s)

-- of a slot and what is kept of another that names the same W, the earlier
unfoldable pub earlier_fed : Slot → Option Fed → Fed
earlier_fed s None = fed_of s
earlier_fed s (Some f) = pick (ltb f.start (starts s)) f (fed_of s)

-- what feeds the dose by a slot of it and by those behind it
unfoldable pub fed_from : ℕ → Slot → Option Fed → Option Fed
fed_from t s later = pick (line.feeds s t) (Some (earlier_fed s later)) later

-- the state by what is kept
unfoldable pub state_kept : Option Fed → line.State
state_kept None = idle
state_kept (Some f) = dosing f.fan

-- ---- plan bytes

-- the bytes are records, the slots of dose d name one W, the dose has a P, and no more units than a dose may have: so in every plan that
-- stands (proofs/Points)
pub record Drawable (plan : List ℕ) (d : ℕ) : Type 0 where
  pub records : List PlanRecord
  pub are : plan_records plan ≡ read records
  pub some_weight : 0 < weight_of (slots_in records) d
  pub one_weight : All (λ s. s.dose ≡ d → s.weight ≡ weight_of (slots_in records) d) (slots_in records)
  pub some_time : 0 < time_of (slots_in records) d
  pub time_most : time_of (slots_in records) d ≤ most_fan_time
  pub units_most : (t : ℕ) → units_before (slots_in records) d t ≤ most_grams * time_of (slots_in records) d

-- the order is accepted and the plan stands for it: what is left to check is 11 and 12
pub record Sound (order plan : List ℕ) : Type 0 where
  pub read_order : Order
  pub accepts : Accepts most_bay order read_order
  pub stands : Stands read_order plan
