-- Every call has an answer: an order is refused or accepted, plan bytes stand or not, and what then comes back.
use mathlib.Core.Logic.{◌⊎◌, inl, inr}
use mathlib.Core.Path.{◌≡◌, refl}
use mathlib.Core.List.{List}
use Prim.Native.Nat.{ℕ, ◌≤◌}
use native.Mathlib.Omega.{arith}
use lib.ListN.{length}
use Rattle.model.specs.Limits.{last_open_bay, most_bay, plan_room, week}
use Rattle.model.specs.Records.{Reading, read, refused}
use Rattle.model.specs.Orders.{Order, read_order}
use Rattle.model.specs.Intervals.{setting_of}
use Rattle.model.specs.Answers.{Accepts, Answer, Drawn, Draws, Judges, Laid, Lays, Moves, Pen, Planned, Plans, Refuses, done, unread}
use Rattle.model.proofs.Fractions.{compare≤}
use Rattle.model.proofs.Orders.{read_fits}
use Rattle.demands.proofs.Existence.{classes_of_lem, shares_of}
use Rattle.demands.proofs.Demand1.Decided.{dec_stands}
use Rattle.model.proofs.Answers.{refuses_some}
use Rattle.demands.proofs.Demand2.{accepted_or_refused}

-- an order is accepted or refused
pub order_decided : (last : ℕ) (order : List ℕ) → ((o : Order) × Accepts last order o) ⊎ ((a : Answer) × Refuses last order a)
order_decided last order = go (read_order last order) refl
  where
    go : (x : Reading Order) → read_order last order ≡ x → ((o : Order) × Accepts last order o) ⊎ ((a : Answer) × Refuses last order a)
    go (read o) e = elim (accepted_or_refused last order o e) [ inl a ↦ inl (o, a) | inr r ↦ inr r ]
    go (refused number place) e = inr (_, unread number place e)

-- an accepted order is planned where there is room
pub accepted_planned : (order before : List ℕ) → plan_room ≤ length before → (o : Order) → Accepts last_open_bay order o
    → (r : Planned) × (after : List ℕ) × Plans order before r after × (r.answer ≡ done)
accepted_planned order before room o g =
    let c = classes_of_lem o (read_fits last_open_bay order o g.reads) in
    let v = shares_of o c.0 c.1 c.2 in
    (_, _, Plans.plans room o g c.0 c.1 c.2 v.0 v.1, refl)

-- planning
pub plans_some : (order before : List ℕ) → (r : Planned) × (after : List ℕ) × Plans order before r after
plans_some order before = elim (compare≤ plan_room (length before)) [
  | inl room ↦ elim (order_decided last_open_bay order) [
    | inl a ↦ let r = accepted_planned order before room a.0 a.1 in (r.0, r.1, r.2)
    | inr r ↦ (_, _, Plans.refuses room r.0 r.1)
  ]
  | inr small ↦ (_, _, Plans.no_room small)
]

-- judging
pub judges_some : (order plan : List ℕ) → (a : Answer) × Judges order plan a
judges_some order plan = elim (order_decided most_bay order) [
  | inl a ↦ elim (dec_stands a.0 (read_fits most_bay order a.0 a.1.reads) plan) [
    | yes st ↦ (_, Judges.stands a.0 a.1 st)
    | no h ↦ (_, Judges.falls a.0 a.1 h)
  ]
  | inr r ↦ (r.0, Judges.refuses r.0 r.1)
]

module _ (order plan : List ℕ) where
  -- drawing
  pub draws_some : (d t : ℕ) → (x : Drawn) × Draws order plan d t x
  draws_some d t = go (judges_some order plan).1
    where
      go : {a : Answer} → Judges order plan a → (x : Drawn) × Draws order plan d t x
      go (Judges.refuses a r) = (_, Draws.refuses a (Judges.refuses a r) (refuses_some r))
      go (Judges.falls o g h) = (_, Draws.refuses _ (Judges.falls o g h) (omega arith))
      go (Judges.stands o g h) = elim (compare≤ (setting_of o).doses d) [
        | inl l ↦ (_, Draws.no_such_dose o g h l)
        | inr l ↦ elim (compare≤ t week) [ inl w ↦ (_, Draws.draws o g h l w) | inr w ↦ (_, Draws.too_late o g h l w) ]
      ]

  -- the pen
  pub moves_some : (pen : Pen) → (x : Drawn) × (to : Pen) × Moves order plan pen x to
  moves_some pen = go (judges_some order plan).1
    where
      go : {a : Answer} → Judges order plan a → (x : Drawn) × (to : Pen) × Moves order plan pen x to
      go (Judges.refuses a r) = (_, pen, Moves.refuses a (Judges.refuses a r) (refuses_some r))
      go (Judges.falls o g h) = (_, pen, Moves.refuses _ (Judges.falls o g h) (omega arith))
      go (Judges.stands o g h) = elim (compare≤ (setting_of o).doses pen.dose) [
        | inl l ↦ (_, pen, Moves.no_such_dose o g h l)
        | inr l ↦ elim (compare≤ week pen.tick) [ inl w ↦ (_, pen, Moves.at_end o g h l w) | inr w ↦ (_, _, Moves.moves o g h l w) ]
      ]

  -- a log
  pub lays_some : (d : ℕ) (log : List ℕ) → (x : Laid) × Lays order plan d log x
  lays_some d log = go (judges_some order plan).1
    where
      go : {a : Answer} → Judges order plan a → (x : Laid) × Lays order plan d log x
      go (Judges.refuses a r) = (_, Lays.refuses a (Judges.refuses a r) (refuses_some r))
      go (Judges.falls o g h) = (_, Lays.refuses _ (Judges.falls o g h) (omega arith))
      go (Judges.stands o g h) = elim (compare≤ (setting_of o).doses d) [
        | inl l ↦ (_, Lays.no_such_dose o g h l)
        | inr l ↦ (_, Lays.lays o g h l)
      ]
