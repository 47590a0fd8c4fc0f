-- Two answers that a promise of `draw` allows for one input are equal. Assumes nothing.
use mathlib.Core.Bool.{false}
use mathlib.Core.Path.{◌≡◌, refl, sym, ap, ◌∙◌}
use mathlib.Core.List.{List}
use Prim.Native.Nat.{ℕ}
use lib.Dec.{eqb}
use Rattle.std.proofs.Common.{Result, Ok, Err}
use Rattle.model.specs.Records.{pick}
use Rattle.model.specs.Line.{dosing, finished, idle, shut}
use Rattle.model.specs.Line as line
use Rattle.model.specs.Answers.{Answer, Draws, Moves}
use Rattle.model.specs.Answers as answers
use Rattle.model.proofs.Answers.{draws_one, moves_one}
use Rattle.order.specs.Held as order
use Rattle.order.specs.declared.refusal.Refusal.TheVariants.{Length, Kind, NotBlank, OutOfRange, NotOneFans, TooManyDoses, Clash, TrialBay}
use Rattle.judge.specs.declared.refusal.Refusal.TheVariants as judge
use Rattle.draw.specs.Drawing.{as_drawn, as_pen, as_point, as_refusal, as_state, pen_at}
use Rattle.draw.specs.declared.State.{State}
use Rattle.draw.specs.declared.State.TheVariants as is
use Rattle.draw.specs.declared.Point.{Point}
use Rattle.draw.specs.declared.Refusal.{Refusal}
use Rattle.draw.specs.declared.Refusal.TheVariants as refused
use Rattle.draw.specs.declared.Pen.{Pen}

-- ---- the answers, from what they say

unfoldable held_state : line.State → State
held_state finished = is.Finished
held_state shut = is.Shut
held_state idle = is.Idle
held_state (dosing fan) = is.Dosing fan

state_back : (s : State) → held_state (as_state s) ≡ s
unfolding held_state as_state
state_back is.Finished = refl
state_back is.Shut = refl
state_back is.Idle = refl
state_back (is.Dosing fan) = refl

-- a point that says the same is the same
pub point_one : (x y : Point) → as_point x ≡ as_point y → x ≡ y
point_one x y e =
    let back : (p : Point) → record { amount = p.amount; state = held_state (as_state p.state) } ≡ p = λ p. rw (state_back p.state) in
    sym (back x) ∙ ap (λ (p : line.Point). record { amount = p.amount; state = held_state p.state }) e ∙ back y

abbrev pub held_refusal : Answer → Refusal
held_refusal a =
    pick (eqb a.number 9) (refused.Plan (judge.TooFast (record { set = a.set; weight = a.weight; time = a.time })))
    (pick (eqb a.number 10) (refused.Plan judge.Falls)
    (pick (eqb a.number 11) refused.NoDose
    (pick (eqb a.number 12) refused.NoTick (refused.Plan (judge.Order (order.held_refusal a.number a.place))))))

pub refusal_back : (e : Refusal) → held_refusal (as_refusal e) ≡ e
refusal_back (refused.Plan (judge.Order Length)) = refl
refusal_back (refused.Plan (judge.Order (Kind k))) = refl
refusal_back (refused.Plan (judge.Order (NotBlank k))) = refl
refusal_back (refused.Plan (judge.Order (OutOfRange k))) = refl
refusal_back (refused.Plan (judge.Order NotOneFans)) = refl
refusal_back (refused.Plan (judge.Order TooManyDoses)) = refl
refusal_back (refused.Plan (judge.Order (Clash k))) = refl
refusal_back (refused.Plan (judge.Order (TrialBay k))) = refl
refusal_back (refused.Plan (judge.TooFast f)) = refl
refusal_back (refused.Plan judge.Falls) = refl
refusal_back refused.NoDose = refl
refusal_back refused.NoTick = refl

-- it is not 0, nor one of a log's numbers
pub apart : (e : Refusal) → (eqb (as_refusal e).number 0 ≡ false) × (eqb (as_refusal e).number 13 ≡ false) × (eqb (as_refusal e).number 14 ≡ false)
apart (refused.Plan (judge.Order Length)) = (refl, refl, refl)
apart (refused.Plan (judge.Order (Kind k))) = (refl, refl, refl)
apart (refused.Plan (judge.Order (NotBlank k))) = (refl, refl, refl)
apart (refused.Plan (judge.Order (OutOfRange k))) = (refl, refl, refl)
apart (refused.Plan (judge.Order NotOneFans)) = (refl, refl, refl)
apart (refused.Plan (judge.Order TooManyDoses)) = (refl, refl, refl)
apart (refused.Plan (judge.Order (Clash k))) = (refl, refl, refl)
apart (refused.Plan (judge.Order (TrialBay k))) = (refl, refl, refl)
apart (refused.Plan (judge.TooFast f)) = (refl, refl, refl)
apart (refused.Plan judge.Falls) = (refl, refl, refl)
apart refused.NoDose = (refl, refl, refl)
apart refused.NoTick = (refl, refl, refl)

abbrev held_drawn : answers.Drawn → Result Point Refusal
held_drawn d = pick (eqb d.answer.number 0) (Ok (record { amount = d.point.amount; state = held_state d.point.state })) (Err (held_refusal d.answer))

drawn_back : (x : Result Point Refusal) → held_drawn (as_drawn x) ≡ x
drawn_back (Ok p) = ap (λ (s : State). Ok (record { amount = p.amount; state = s })) (state_back p.state)
drawn_back (Err e) = rw (apart e).0 (ap (λ (x : Refusal). Err x) (refusal_back e))

-- an answer that says the same is the same
pub drawn_one : (x y : Result Point Refusal) → as_drawn x ≡ as_drawn y → x ≡ y
drawn_one x y e = sym (drawn_back x) ∙ ap held_drawn e ∙ drawn_back y

-- ---- one answer for each input

-- point_at
pub points_once : (order plan : List ℕ) (dose tick : ℕ) (x y : Result Point Refusal) → Draws order plan dose tick (as_drawn x) → Draws order plan dose tick (as_drawn y) → x ≡ y
points_once order plan dose tick x y a b = drawn_one x y (draws_one a b)

abbrev held_pen : answers.Pen → Pen
held_pen p = record { dose = p.dose; tick = p.tick }

-- advance, which leaves one pen
pub pens_once : (order plan : List ℕ) (pen : Pen) (x y : Result Point Refusal) (to to' : Pen) → Moves order plan (as_pen pen) (as_drawn x) (as_pen to)
    → Moves order plan (as_pen pen) (as_drawn y) (as_pen to') → (x ≡ y) × (to ≡ to')
pens_once order plan pen x y to to' a b = let e = moves_one a b in (drawn_one x y e.0, ap held_pen e.1)

-- and of a dose and a tick
pub moves_once : (order plan : List ℕ) (dose tick : ℕ) (x y : Result Point Refusal) (to to' : ℕ) → Moves order plan (pen_at dose tick) (as_drawn x) (pen_at dose to)
    → Moves order plan (pen_at dose tick) (as_drawn y) (pen_at dose to') → (x ≡ y) × (to ≡ to')
moves_once order plan dose tick x y to to' a b = let e = moves_one a b in (drawn_one x y e.0, ap (λ (p : answers.Pen). p.tick) e.1)
