-- Demand 3 over the answers themselves: for all orders, plans, doses and ticks for which drawing answers 0. A pen's answer is a drawing at its new tick (pen_draws of the model's Answers).
-- Assumes nothing.
use mathlib.Core.Logic.{◌⊎◌}
use mathlib.Core.Path.{◌≡◌, refl, sym, ap, ◌∙◌}
use mathlib.Core.List.{List}
use Prim.Native.Nat.{ℕ, ◌+◌, ◌*◌, ◌≤◌, ◌<◌}
use native.Mathlib.Nat.{mul-le-mul_left}
use native.Mathlib.Omega.{arith}
use lib.Dec.{T}
use Rattle.model.specs.Limits.{most_bay}
use Rattle.model.specs.Sets.{Doses}
use Rattle.model.specs.Records.{read}
use Rattle.model.specs.Orders.{Order, dose_at, read_order}
use Rattle.model.specs.Classes.{Classes, W, class_p}
use Rattle.model.specs.Intervals.{fans_present, setting_of}
use Rattle.model.specs.Plans.{Slot, plan_records, slots_read}
use Rattle.model.specs.Stands.{Stands, ends, starts}
use Rattle.model.specs.Line.{HasFan, OneOf, RunsAt, drawn, idle, state_at, time_of, units_before, weight_of}
use Rattle.model.specs.Answers.{Accepts, Drawn, Draws, draws, no_such_dose, point_of, refuses, too_late}
use Rattle.model.proofs.Fractions.{pos_left}
use Rattle.demands.proofs.Demand2.Standing.{slot_named}
use Rattle.demands.proofs.Demand3.States.{InSecond, fan_feeds, idle_means}
use Rattle.demands.proofs.Demand3 as demand

-- an answer that is no refusal: the order is accepted, the plan stands, and the answer is the point
record Done (order plan : List ℕ) (d t : ℕ) (x : Drawn) : Type 0 where
  read_order : Order
  accepts : Accepts most_bay order read_order
  stands : Stands read_order plan
  listed : d < (setting_of read_order).doses
  is : x ≡ point_of read_order plan d t

drawn_done : (order plan : List ℕ) (d t : ℕ) (x : Drawn) → Draws order plan d t x → x.answer.number ≡ 0 → Done order plan d t x
drawn_done order plan d t x (refuses a j n) e = absurd (n e)
drawn_done order plan d t x (no_such_dose o acc st l) e = absurd (omega arith)
drawn_done order plan d t x (too_late o acc st l g) e = absurd (omega arith)
drawn_done order plan d t x (draws o acc st l g) e = record { read_order = o; accepts = acc; stands = st; listed = l; is = refl }

module _ (order plan : List ℕ) (d : ℕ) where
  -- the slots of the plan
  abbrev slots : List Slot
  slots = slots_read (plan_records plan)

  -- drawing dose d at tick t answered 0, and x
  pub record Answers (t : ℕ) (x : Drawn) : Type 0 where
    pub draws : Draws order plan d t x
    pub zero : x.answer.number ≡ 0

  done : (t : ℕ) (x : Drawn) → Answers t x → Done order plan d t x
  done t x a = drawn_done order plan d t x a.draws a.zero

  -- its amount is the dose's line at the tick
  pub amount_is : (t : ℕ) (x : Drawn) → Answers t x → x.point.amount ≡ drawn slots d t
  amount_is t x a = ap (λ (y : Drawn). y.point.amount) (done t x a).is

  -- "the drawn amount is behind the exact one by less than a gram and never ahead"
  pub behind_never_ahead : (t : ℕ) (x : Drawn) → Answers t x
      → (x.point.amount * time_of slots d ≤ units_before slots d t) × (units_before slots d t < (x.point.amount + 1) * time_of slots d)
  behind_never_ahead t x a =
      let s = done t x a in
      rw (amount_is t x a) (demand.behind_never_ahead most_bay order s.read_order s.accepts.reads plan s.stands d s.listed t)

  module _ (t h : ℕ) (x y : Drawn) (a : Answers t x) (b : Answers (t + h) y) where
    -- "over h seconds it rises by less than h × rate + 1 gram"
    pub rises_slowly : y.point.amount * time_of slots d < x.point.amount * time_of slots d + h * weight_of slots d + time_of slots d
    rises_slowly =
        let s = done t x a in
        rw (amount_is t x a, amount_is (t + h) y b)
        (demand.rises_slowly most_bay order s.read_order s.accepts.reads plan s.stands d s.listed t h)

    -- and never falls
    pub never_falls : x.point.amount ≤ y.point.amount
    never_falls =
        let s = done t x a in
        rw (amount_is t x a, amount_is (t + h) y b)
        (demand.never_falls most_bay order s.read_order s.accepts.reads plan s.stands d s.listed t h)

    -- "and not at all where the dose has no slot time"
    pub still_without_slot_time : ((s : Slot) → OneOf slots s → s.dose ≡ d → (ends s ≤ t * s.weight) ⊎ ((t + h) * s.weight ≤ starts s))
        → y.point.amount ≡ x.point.amount
    still_without_slot_time g =
        let s = done t x a in
        rw (amount_is t x a, amount_is (t + h) y b)
        (demand.still_without_slot_time most_bay order s.read_order s.accepts.reads plan s.stands d s.listed t h g)

  module _ (t : ℕ) (x : Drawn) (a : Answers t x) (o : Order) (e : read_order most_bay order ≡ read o) where
    same_order : (done t x a).read_order ≡ o
    same_order = let f = (done t x a).accepts.reads in cc

    -- the plan stands for the order
    pub stands : Stands o plan
    stands = rw same_order at (done t x a).stands

    -- the dose is one of the order's
    pub listed : d < (setting_of o).doses
    listed = rw same_order at (done t x a).listed

    -- "zero up to the start"
    pub zero_up_to_the_start : t ≤ (dose_at o d).release → x.point.amount ≡ 0
    zero_up_to_the_start l =
        let s = done t x a in
        amount_is t x a ∙ demand.zero_up_to_the_start most_bay order s.read_order s.accepts.reads plan s.stands d s.listed t (rw same_order l)

    -- "all the grams from the deadline on"
    pub all_from_the_deadline : (dose_at o d).deadline ≤ t → x.point.amount ≡ (dose_at o d).grams
    all_from_the_deadline l =
        let s = done t x a in
        amount_is t x a ∙ demand.all_from_the_deadline most_bay order s.read_order s.accepts.reads plan s.stands d s.listed t (rw same_order l)
        ∙ ap (λ (u : Order). (dose_at u d).grams) same_order

    -- the W and P of the dose's slots, its rate, are those of its class
    pub rate_of_its_class : (p : ℕ) (C : ℕ → Doses) → Classes (setting_of o) (fans_present o) p C → (i : ℕ) → i < p → T (C i d)
        → (weight_of slots d ≡ W (setting_of o) (C i)) × (time_of slots d ≡ class_p (setting_of o) (fans_present o) C i)
    rate_of_its_class = demand.rate_of_its_class most_bay order o e plan stands d listed

    -- "Inside its window a dose is without a fan only if every fan is running, each at that dose's rate or above"
    pub waits_only_while_all_fans_run : (q m : ℕ) → 0 < q → q * (dose_at o d).release ≤ m → m < q * (dose_at o d).deadline → (HasFan slots q m d → ⊥)
        → (f : ℕ) → 1 ≤ f → f ≤ o.fans → RunsAt slots q m f (weight_of slots d) (time_of slots d)
    waits_only_while_all_fans_run = demand.waits_only_while_all_fans_run most_bay order o e plan stands d listed

    -- its state is the dose's
    pub state_is : x.point.state ≡ state_at o slots d t
    state_is = ap (λ (y : Drawn). y.point.state) (done t x a).is ∙ ap (λ (u : Order). state_at u slots d t) same_order

    -- a dose that is drawn Idle is inside its window, and at every moment of the second every fan is running, each at that dose's rate or above
    pub idle_only_while_all_fans_run : x.point.state ≡ idle
        → ((dose_at o d).release ≤ t) × (t < (dose_at o d).deadline)
        × ((q m : ℕ) → InSecond t q m → (f : ℕ) → 1 ≤ f → f ≤ o.fans → RunsAt slots q m f (weight_of slots d) (time_of slots d))
    idle_only_while_all_fans_run z =
        let i = idle_means o slots d t (sym state_is ∙ z) in (
          i.0,
          i.1,
          λ q m w. waits_only_while_all_fans_run q m (pos_left m q (t + 1) w.high)
              (omega (arith, mul-le-mul_left q i.0, w.low)) (omega (arith, mul-le-mul_left q i.1, w.high))
              (λ h. i.2 h.slot (fan_feeds w h (omega (arith, (slot_named o plan stands h.slot h.one).start_part)))),
        )
