-- Laws of the program: the text of every answer has room, and says what the stream comes to. Assumes nothing.
use mathlib.Core.Path.{◌≡◌}
use mathlib.Core.Bool.{Bool, true, false}
use mathlib.Core.List.{List}
use Prim.Native.Nat.{ℕ, ◌≤◌}
use native.Mathlib.Omega.{arith}
use lib.Dec.{eqb}
use lib.ListN.{length, take}
use Rattle.model.specs.Records.{pick}
use Rattle.model.specs.Season.{AddedUp, AddsUp}
use Rattle.lines.specs.Text.{Put, refused_text, season_text}
use Rattle.lines.proofs.Puts.{put_front, put_length}
use Rattle.lines.proofs.Records.{refused_length}
use Rattle.lines.proofs.Season.{season_length}
use Rattle.season_printer.specs.Prints.{SaysStream, added_text}

-- a line of at most 42 bytes for each of ten numbers, and four more
abbrev pub text_room : ℕ
text_room = 588

added_length : (r : AddedUp) → length (added_text r) ≤ text_room
added_length r = by_test (eqb r.answer.number 0)
  where
    by_test : (b : Bool) → length (pick b (season_text r.season.accepted r.season.refused r.season.grams r.season.seconds r.season.greatest.weight r.season.greatest.time) (refused_text r.answer.number r.answer.place r.answer.set r.answer.weight r.answer.time)) ≤ text_room
    by_test true = season_length r.season.accepted r.season.refused r.season.grams r.season.seconds r.season.greatest.weight r.season.greatest.time
    by_test false = omega (arith, refused_length r.answer.number r.answer.place r.answer.set r.answer.weight r.answer.time)

-- what was put into the text buffer says what the stream comes to
pub says : {stream text text' : List ℕ} {r : AddedUp} {added : Bool} {end : ℕ} → AddsUp stream r → text_room ≤ length text → Put (added_text r) text 0 text' end
    → added ≡ eqb r.answer.number 0 → (end ≤ length text') × SaysStream stream (take end text') added
says {text' = text'} {r = r} {end = end} h long p e =
    let inside : end ≤ length text' = omega (arith, p.next, put_length p, added_length r) in
    (inside, record { answer = r; adds = h; is = put_front p inside; told = e })
