-- Two answers that the promise of `add_up` allows for one stream are equal. Assumes nothing.
use mathlib.Core.Path.{◌≡◌, ap, refl, sym, ◌∙◌}
use mathlib.Core.List.{List}
use Prim.Native.Nat.{ℕ, zero, suc}
use Rattle.std.proofs.Common.{Err, Ok, Result}
use Rattle.model.specs.Season.{AddsUp}
use Rattle.model.specs.Season as season
use Rattle.model.proofs.Season.{adds_up_one}
use Rattle.season.specs.Held.{as_added_up}
use Rattle.season.specs.declared.NoStream.{NoStream}
use Rattle.season.specs.declared.figures.Season.{Season}

-- the figures, from what they say
abbrev held_season : season.Season → Season
held_season s = record {
  accepted = s.accepted;
  refused = s.refused;
  grams = s.grams;
  seconds = s.seconds;
  greatest = record { weight = s.greatest.weight; time = s.greatest.time };
}

-- and the answer, by its number
abbrev held_by : ℕ → season.Season → Result Season NoStream
held_by zero s = Ok (held_season s)
held_by (suc n) s = Err (record {})

abbrev held_added_up : season.AddedUp → Result Season NoStream
held_added_up a = held_by a.answer.number a.season

held_same : (x : Result Season NoStream) → held_added_up (as_added_up x) ≡ x
held_same (Ok s) = refl
held_same (Err e) = refl

-- add_up has one answer for each stream
pub adds_up_once : (stream : List ℕ) (x y : Result Season NoStream) → AddsUp stream (as_added_up x) → AddsUp stream (as_added_up y) → x ≡ y
adds_up_once stream x y a b = sym (held_same x) ∙ ap held_added_up (adds_up_one a b) ∙ held_same y
