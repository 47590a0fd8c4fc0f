-- Two answers that an exported function's promise allows are the same numbers. Two plannings agree as the model's `Answers.plans_agree` says: which
-- valid shares are used is left open. Assumes nothing.
use mathlib.Core.Path.{◌≡◌, sym, ap, ◌∙◌}
use mathlib.Core.List.{List}
use Prim.Native.Nat.{ℕ}
use Rattle.model.specs.Answers.{Answer, Judges, Lays, Pen}
use Rattle.model.specs.Answers as answers
use Rattle.model.specs.Season.{AddsUp}
use Rattle.model.specs.Season as season
use Rattle.model.proofs.Answers.{draws_one, judges_one, lays_one, moves_one}
use Rattle.model.proofs.Season.{adds_up_one}
use Rattle.knellgable.specs.declared.Planned.{Planned}
use Rattle.knellgable.specs.declared.Judged.{Judged}
use Rattle.knellgable.specs.declared.Drawn.{Drawn}
use Rattle.knellgable.specs.declared.Laid.{Laid}
use Rattle.knellgable.specs.declared.AddedUp.{AddedUp}
use Rattle.knellgable.specs.Exported.{DrawnNumbers, DrawsNumbers, MovesNumbers, as_added_up, as_judged, as_laid, as_planned, state_number, state_fan}

-- ---- planning and judging

abbrev held_planned : answers.Planned → Planned
held_planned p = record {
  number = p.answer.number;
  place = p.answer.place;
  set = p.answer.set;
  weight = p.answer.weight;
  time = p.answer.time;
  classes = p.classes;
  slots = p.slots;
}

-- numbers that say the same of a planning are the same
pub planned_one : (r s : Planned) → as_planned r ≡ as_planned s → r ≡ s
planned_one r s e = ap held_planned e

abbrev held_judged : Answer → Judged
held_judged a = record { number = a.number; place = a.place; set = a.set; weight = a.weight; time = a.time }

pub verdicts_once : {order plan : List ℕ} (r s : Judged) → Judges order plan (as_judged r) → Judges order plan (as_judged s) → r ≡ s
verdicts_once r s a b = ap held_judged (judges_one a b)

-- ---- drawing

abbrev held_drawn : answers.Drawn → Drawn
held_drawn d = record {
  number = d.answer.number;
  place = d.answer.place;
  set = d.answer.set;
  weight = d.answer.weight;
  time = d.answer.time;
  amount = d.point.amount;
  state = state_number d.point.state;
  fan = state_fan d.point.state;
}

drawn_is : {d : answers.Drawn} {r : Drawn} → DrawnNumbers d r → r ≡ held_drawn d
drawn_is n = λ i. record {
  number = (n.answer i).number;
  place = (n.answer i).place;
  set = (n.answer i).set;
  weight = (n.answer i).weight;
  time = (n.answer i).time;
  amount = n.amount i;
  state = n.state i;
  fan = n.fan i;
}

same_numbers : {d e : answers.Drawn} {r s : Drawn} → d ≡ e → DrawnNumbers d r → DrawnNumbers e s → r ≡ s
same_numbers q n m = drawn_is n ∙ ap held_drawn q ∙ sym (drawn_is m)

pub points_once : {order plan : List ℕ} {dose tick : ℕ} {r s : Drawn} → DrawsNumbers order plan dose tick r → DrawsNumbers order plan dose tick s → r ≡ s
points_once a b = same_numbers (draws_one a.draws b.draws) a.numbers b.numbers

pub pens_once : {order plan : List ℕ} {dose tick after after' : ℕ} {r s : Drawn} → MovesNumbers order plan dose tick r after
    → MovesNumbers order plan dose tick s after' → (r ≡ s) × (after ≡ after')
pens_once a b =
    let one = moves_one a.moves b.moves in
    (same_numbers one.0 a.numbers b.numbers, ap (λ (p : Pen). p.tick) one.1)

-- ---- logs

abbrev held_laid : answers.Laid → Laid
held_laid l = record {
  number = l.answer.number;
  place = l.answer.place;
  set = l.answer.set;
  weight = l.answer.weight;
  time = l.answer.time;
  metered = l.figures.metered;
  risen = l.figures.risen;
  unknown = l.figures.unknown;
}

pub logs_once : {order plan : List ℕ} {dose : ℕ} {log : List ℕ} (r s : Laid) → Lays order plan dose log (as_laid r) → Lays order plan dose log (as_laid s) → r ≡ s
logs_once r s a b = ap held_laid (lays_one a b)

-- ---- seasons

abbrev held_added_up : season.AddedUp → AddedUp
held_added_up a = record {
  number = a.answer.number;
  place = a.answer.place;
  accepted = a.season.accepted;
  refused = a.season.refused;
  grams = a.season.grams;
  seconds = a.season.seconds;
  weight = a.season.greatest.weight;
  time = a.season.greatest.time;
}

pub seasons_once : {stream : List ℕ} (r s : AddedUp) → AddsUp stream (as_added_up r) → AddsUp stream (as_added_up s) → r ≡ s
seasons_once r s a b = ap held_added_up (adds_up_one a b)
