-- Dosing by the whole second over the answers themselves: for all orders, plans, doses and ticks for which drawing answers 0. Assumes nothing.
use mathlib.Core.Logic.{◌↔◌, ◌⊎◌, inl, inr}
use mathlib.Core.Path.{◌∙◌, ◌≡◌, sym}
use mathlib.Core.List.{List}
use Prim.Native.Nat.{ℕ, ◌+◌, ◌≤◌, ◌<◌}
use Rattle.model.specs.Limits.{most_bay}
use Rattle.model.specs.Records.{read}
use Rattle.model.specs.Orders.{Order, dose_at, read_order}
use Rattle.model.specs.Intervals.{setting_of}
use Rattle.model.specs.Plans.{Slot, plan_records, slots_read}
use Rattle.model.specs.Stands.{Stands}
use Rattle.model.specs.Line.{HasFan, dosing, finished, idle, shut, state_at, units_before}
use Rattle.model.specs.Answers.{Drawn}
use Rattle.demands.proofs.Demand3.States.{FedOn, FeedsIn, HasFanIn, InSecond, IsDosing}
use Rattle.demands.proofs.Demand3.OfAnswers.{Answers, amount_is, listed, stands, state_is}
use Rattle.demands.proofs.WholeSecond.{Still}
use Rattle.demands.proofs.WholeSecond as whole

module _ (order plan : List ℕ) (d t : ℕ) (x : Drawn) (a : Answers order plan d t x) (o : Order) (e : read_order most_bay order ≡ read o) where
  -- the slots of the plan
  abbrev slots : List Slot
  slots = slots_read (plan_records plan)

  st : Stands o plan
  st = stands order plan d t x a o e

  dn : d < (setting_of o).doses
  dn = listed order plan d t x a o e

  is : x.point.state ≡ state_at o slots d t
  is = state_is order plan d t x a o e

  -- "Dosing from now on means that some slot starts before t+1 and ends after t": a dose is drawn so exactly where a slot of it has time in the second
  pub dosing_exactly_with_slot_time : IsDosing x.point.state ↔ ((s : Slot) × FeedsIn slots d t s)
  dosing_exactly_with_slot_time = rw is (whole.dosing_exactly_with_slot_time most_bay order o e plan st d dn t)

  -- and exactly where it has a fan at some moment of the second
  pub dosing_exactly_with_a_fan : IsDosing x.point.state ↔ HasFanIn slots d t
  dosing_exactly_with_a_fan = rw is (whole.dosing_exactly_with_a_fan most_bay order o e plan st d dn t)

  -- "the fan is that of the earliest such slot"
  pub dosing_exactly_by_the_earliest : (fan : ℕ) → (x.point.state ≡ dosing fan) ↔ FedOn slots d t fan
  dosing_exactly_by_the_earliest fan = rw is (whole.dosing_exactly_by_the_earliest most_bay order o e plan st d dn t fan)

  -- "Finished and Shut still come first"
  pub finished_exactly : (x.point.state ≡ finished) ↔ ((dose_at o d).deadline ≤ t)
  finished_exactly = rw is (whole.finished_exactly most_bay order o e plan st d dn t)

  pub shut_exactly : (x.point.state ≡ shut) ↔ (t < (dose_at o d).release)
  shut_exactly = rw is (whole.shut_exactly most_bay order o e plan st d dn t)

  -- so that it is drawn Dosing inside its window alone
  pub dosing_inside_its_window : IsDosing x.point.state → ((dose_at o d).release ≤ t) × (t < (dose_at o d).deadline)
  dosing_inside_its_window = rw is (whole.dosing_inside_its_window most_bay order o e plan st d dn t)

  -- and Idle where it is inside its window and no slot has time in the second
  pub idle_exactly : (x.point.state ≡ idle) ↔ (((dose_at o d).release ≤ t) × (t < (dose_at o d).deadline) × ((s : Slot) → FeedsIn slots d t s → ⊥))
  idle_exactly = rw is (whole.idle_exactly most_bay order o e plan st d dn t)

  -- a dose is drawn Dosing exactly where its exact amount, these units divided by P, grows in the second
  pub dosing_exactly_while_gaining : IsDosing x.point.state ↔ (units_before slots d t < units_before slots d (t + 1))
  dosing_exactly_while_gaining = rw is (whole.dosing_exactly_while_gaining most_bay order o e plan st d dn t)

  -- one that is drawn Idle has a fan at no moment of the second
  pub idle_without_a_fan : x.point.state ≡ idle → (q m : ℕ) → InSecond t q m → HasFan slots q m d → ⊥
  idle_without_a_fan = rw is (whole.idle_without_a_fan most_bay order o e plan st d dn t)

  module _ (y : Drawn) (b : Answers order plan d (t + 1) y) where
    -- what stays the same is drawn the same
    same_amount : Still slots d t → y.point.amount ≡ x.point.amount
    same_amount r = rw (amount_is order plan d t x a, amount_is order plan d (t + 1) y b) r.drawn_same

    -- a dose is drawn Dosing, or a second later with the same amount
    pub dosing_or_still : IsDosing x.point.state ⊎ (y.point.amount ≡ x.point.amount)
    dosing_or_still = elim (whole.dosing_or_still most_bay order o e plan st d dn t) [ inl z ↦ inl (z.0, is ∙ z.1) | inr r ↦ inr (same_amount r) ]

    -- and so where it is drawn Idle
    pub idle_gains_nothing : x.point.state ≡ idle → y.point.amount ≡ x.point.amount
    idle_gains_nothing z = same_amount (whole.idle_gains_nothing most_bay order o e plan st d dn t (sym is ∙ z))
