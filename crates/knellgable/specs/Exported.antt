-- How the exported numbers hold what comes back.
use Rattle.std.specs.Prelude.{◌≡◌, List, ℕ}
use Rattle.model.specs.Line.{State, finished, shut, idle, dosing}
use Rattle.model.specs.Answers.{Answer, refusal, Draws, Moves}
use Rattle.model.specs.Answers as answers
use Rattle.model.specs.Season as season
use Rattle.draw.specs.Drawing.{answer_of, pen_at}
use Rattle.knellgable.specs.declared.Planned.{Planned}
use Rattle.knellgable.specs.declared.Judged.{Judged}
use Rattle.knellgable.specs.declared.Drawn.{Drawn}
use Rattle.knellgable.specs.declared.Laid.{Laid}
use Rattle.knellgable.specs.declared.AddedUp.{AddedUp}

abbrev pub as_planned : Planned → answers.Planned
as_planned r = record { answer = answer_of r.number r.place r.set r.weight r.time; classes = r.classes; slots = r.slots }

abbrev pub as_judged : Judged → Answer
as_judged r = answer_of r.number r.place r.set r.weight r.time

abbrev pub as_laid : Laid → answers.Laid
as_laid r = record {
  answer = answer_of r.number r.place r.set r.weight r.time;
  figures = record { metered = r.metered; risen = r.risen; unknown = r.unknown };
}

abbrev pub as_added_up : AddedUp → season.AddedUp
as_added_up r = record {
  answer = refusal r.number r.place;
  season = record { accepted = r.accepted; refused = r.refused; grams = r.grams; seconds = r.seconds; greatest = record { weight = r.weight; time = r.time } };
}

-- ---- points

unfoldable pub state_number : State → ℕ
state_number finished = 0
state_number shut = 1
state_number idle = 2
state_number (dosing fan) = 3

-- "Dosing carries the fan number"; "Fields not meant are 0"
unfoldable pub state_fan : State → ℕ
state_fan finished = 0
state_fan shut = 0
state_fan idle = 0
state_fan (dosing fan) = fan

-- the numbers of what is drawn
pub record DrawnNumbers (d : answers.Drawn) (r : Drawn) : Type 0 where
  pub answer : answer_of r.number r.place r.set r.weight r.time ≡ d.answer
  pub amount : r.amount ≡ d.point.amount
  pub state : r.state ≡ state_number d.point.state
  pub fan : r.fan ≡ state_fan d.point.state

pub record DrawsNumbers (order plan : List ℕ) (dose tick : ℕ) (r : Drawn) : Type 0 where
  pub drawn : answers.Drawn
  pub draws : Draws order plan dose tick drawn
  pub numbers : DrawnNumbers drawn r

-- a pen whose tick alone is lent: its dose stays
pub record MovesNumbers (order plan : List ℕ) (dose tick : ℕ) (r : Drawn) (after : ℕ) : Type 0 where
  pub drawn : answers.Drawn
  pub moves : Moves order plan (pen_at dose tick) drawn (pen_at dose after)
  pub numbers : DrawnNumbers drawn r
