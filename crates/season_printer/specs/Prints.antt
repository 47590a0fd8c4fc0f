-- What the program's text says of a stream (document 02, C-15).
use Rattle.std.specs.Prelude.{◌≡◌, Bool, List, ℕ, ◌+◌, eqb}
use Rattle.std.specs.declared.option.Option.{Option}
use Rattle.model.specs.Limits.{stream_room}
use Rattle.model.specs.Records.{pick}
use Rattle.model.specs.Season.{AddedUp, AddsUp}
use Rattle.programs.specs.Answers.{AnswersInput}
use Rattle.programs.specs.declared.Exit.{Exit}
use Rattle.lines.specs.Text.{refused_text, season_text}

-- "or `refused 16 0`"
abbrev pub added_text : AddedUp → List ℕ
added_text r =
    pick (eqb r.answer.number 0)
    (season_text r.season.accepted r.season.refused r.season.grams r.season.seconds r.season.greatest.weight r.season.greatest.time)
    (refused_text r.answer.number r.answer.place r.answer.set r.answer.weight r.answer.time)

-- the text of what a stream comes to, and whether it was added up
pub record SaysStream (stream text : List ℕ) (added : Bool) : Type 0 where
  pub answer : AddedUp
  pub adds : AddsUp stream answer
  pub is : text ≡ added_text answer
  pub told : added ≡ eqb answer.answer.number 0

-- one byte more than the longest stream is read, which is seen to be too long
abbrev pub AnswersStream : Option (List ℕ) → Option (List ℕ) → Option (List ℕ) → Exit → Type 0
AnswersStream = AnswersInput (stream_room + 1) SaysStream
