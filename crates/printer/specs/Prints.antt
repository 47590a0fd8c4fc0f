-- What the printer's text says of an order (document 01, "The plan printer").
use Rattle.std.specs.Prelude.{◌≡◌, Bool, List, ℕ, ◌+◌, eqb, length}
use Rattle.std.specs.declared.option.Option.{Option}
use Rattle.model.specs.Limits.{order_room, plan_room}
use Rattle.model.specs.Records.{pick}
use Rattle.model.specs.Answers.{Planned, Plans}
use Rattle.programs.specs.Answers.{AnswersInput}
use Rattle.programs.specs.declared.Exit.{Exit}
use Rattle.lines.specs.Text.{plan_text, refused_text}

-- a refusal's line, or the lines of the plan in its buffer
abbrev pub answer_text : Planned → List ℕ → List ℕ
answer_text r plan =
    pick (eqb r.answer.number 0) (plan_text plan r.classes r.slots)
    (refused_text r.answer.number r.answer.place r.answer.set r.answer.weight r.answer.time)

-- the text of the answer to an order, planned into a buffer with room for every plan, and whether it was planned
pub record SaysOrder (order text : List ℕ) (planned : Bool) : Type 0 where
  pub before : List ℕ
  pub room : length before ≡ plan_room
  pub after : List ℕ
  pub answer : Planned
  pub plans : Plans order before answer after
  pub is : text ≡ answer_text answer after
  pub told : planned ≡ eqb answer.answer.number 0

-- "Reads up to 1,601 bytes of order": one more than the longest, which is seen to be too long
abbrev pub AnswersOrder : Option (List ℕ) → Option (List ℕ) → Option (List ℕ) → Exit → Type 0
AnswersOrder = AnswersInput (order_room + 1) SaysOrder
