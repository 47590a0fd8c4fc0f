-- Demand 3, sentence by sentence, for every plan that stands: the drawn line, and doses without a fan.
pub mod Waiting
pub mod WithoutFan
pub mod States
pub mod OfAnswers
use mathlib.Core.Logic.{◌⊎◌}
use mathlib.Core.Path.{◌∙◌, ◌≡◌, ap}
use mathlib.Core.List.{List}
use Prim.Native.Nat.{ℕ, ◌+◌, ◌*◌, ◌/◌, ◌≤◌, ◌<◌}
use native.Mathlib.Nat.{le-div_iff_mul-le, le_trans, mul-div_cancel, zero-div}
use lib.Dec.{T}
use Rattle.model.specs.Sets.{Doses}
use Rattle.model.specs.Records.{read}
use Rattle.model.specs.Orders.{Order, dose_at, read_order}
use Rattle.model.specs.Classes.{Classes, W, class_p}
use Rattle.model.specs.Intervals.{fans_present, setting_of}
use Rattle.model.specs.Plans.{Slot, plan_records, slots_read}
use Rattle.model.specs.Stands.{Stands, ends, starts}
use Rattle.model.specs.Line.{HasFan, OneOf, RunsAt, drawn, weight_of, time_of, units_before}
use Rattle.model.proofs.Amounts.{drawn_near, drawn_slow}
use Rattle.model.proofs.Orders.{read_fits}
use Rattle.model.proofs.DrawnLine.{Line}
use Rattle.demands.proofs.Demand3.WithoutFan.{rests, runs_others}
use Rattle.model.proofs.Standing.{plan_line, plan_rate}
use Rattle.model.proofs.Planner.{stand_read}

module _ (last : ℕ) (order : List ℕ) (o : Order) (e : read_order last order ≡ read o) (plan : List ℕ) (st : Stands o plan) (d : ℕ) (dn : d < (setting_of o).doses) where
  -- the slots of the plan
  abbrev slots : List Slot
  slots = slots_read (plan_records plan)

  line : Line o slots d
  line = plan_line o plan st (read_fits last order o e) d dn

  -- the W and P of the dose's slots, its rate, are those of its class
  pub rate_of_its_class : (p : ℕ) (C : ℕ → Doses) → Classes (setting_of o) (fans_present o) p C → (i : ℕ) → i < p → T (C i d)
      → (weight_of slots d ≡ W (setting_of o) (C i)) × (time_of slots d ≡ class_p (setting_of o) (fans_present o) C i)
  rate_of_its_class = plan_rate o plan st (read_fits last order o e) d dn

  -- "the drawn amount is behind the exact one by less than a gram and never ahead"
  pub behind_never_ahead : (t : ℕ) → (drawn slots d t * time_of slots d ≤ units_before slots d t) × (units_before slots d t < (drawn slots d t + 1) * time_of slots d)
  unfolding drawn
  behind_never_ahead t = drawn_near (units_before slots d t) (time_of slots d) line.some_time

  -- "over h seconds it rises by less than h × rate + 1 gram"
  pub rises_slowly : (t h : ℕ) → drawn slots d (t + h) * time_of slots d < drawn slots d t * time_of slots d + h * weight_of slots d + time_of slots d
  unfolding drawn
  rises_slowly t h =
      drawn_slow (units_before slots d t) (units_before slots d (t + h)) (time_of slots d) (h * weight_of slots d) line.some_time (line.slow t h)

  -- and never falls
  pub never_falls : (t h : ℕ) → drawn slots d t ≤ drawn slots d (t + h)
  unfolding drawn
  never_falls t h =
      (le-div_iff_mul-le line.some_time).1 (le_trans (drawn_near (units_before slots d t) (time_of slots d) line.some_time).0 (line.up t h))

  -- "and not at all where the dose has no slot time"
  pub still_without_slot_time : (t h : ℕ)
      → ((s : Slot) → OneOf slots s → s.dose ≡ d → (ends s ≤ t * s.weight) ⊎ ((t + h) * s.weight ≤ starts s)) → drawn slots d (t + h) ≡ drawn slots d t
  unfolding drawn
  still_without_slot_time t h g = ap (λ (u : ℕ). u / time_of slots d) (rests slots d t h g)

  -- "zero up to the start"
  pub zero_up_to_the_start : (t : ℕ) → t ≤ (dose_at o d).release → drawn slots d t ≡ 0
  unfolding drawn
  zero_up_to_the_start t l = ap (λ (u : ℕ). u / time_of slots d) (line.early t l) ∙ zero-div (time_of slots d)

  -- "all the grams from the deadline on"
  pub all_from_the_deadline : (t : ℕ) → (dose_at o d).deadline ≤ t → drawn slots d t ≡ (dose_at o d).grams
  unfolding drawn
  all_from_the_deadline t l =
      ap (λ (u : ℕ). u / time_of slots d) (line.late t l ∙ line.all_units) ∙ mul-div_cancel (dose_at o d).grams line.some_time

  -- "Inside its window a dose is without a fan only if every fan is running, each at that dose's rate or above"
  pub waits_only_while_all_fans_run : (q x : ℕ) → 0 < q → q * (dose_at o d).release ≤ x → x < q * (dose_at o d).deadline → (HasFan slots q x d → ⊥)
      → (f : ℕ) → 1 ≤ f → f ≤ o.fans → RunsAt slots q x f (weight_of slots d) (time_of slots d)
  waits_only_while_all_fans_run = runs_others o (read_fits last order o e) st.count st.sets st.classes slots (stand_read st) d dn
