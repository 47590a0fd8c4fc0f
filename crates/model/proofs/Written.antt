-- The planner's plan stands: its records hold its classes and slots.
pub mod Records
pub mod Plans
use mathlib.Core.Path.{◌≡◌}
use mathlib.Core.List.{List}
use Prim.Native.Nat.{ℕ, ◌+◌, ◌*◌, ◌≤◌, ◌<◌}
use native.Mathlib.Nat.{le_of_mul-le-mul_right, mul-le-mul_right}
use native.Mathlib.Omega.{arith}
use Rattle.model.specs.Limits.{most_weight, week}
use Rattle.model.specs.Sets.{Doses}
use Rattle.model.specs.Lists.{also, none}
use Rattle.model.specs.Orders.{Order}
use Rattle.model.specs.Classes.{Classes, Setting}
use Rattle.model.specs.Intervals.{fans_present, setting_of}
use Rattle.model.specs.Records.{read}
use Rattle.model.specs.Plans.{Slot, plan_of, plan_records, records_bytes}
use Rattle.model.specs.Layout.{class_at, classes_of, slots_of}
use Rattle.model.specs.Stands.{Named, SlotsStand, Stands, ends}
use Rattle.model.specs.Answers.{ValidShares, plan_bytes}
use Rattle.model.proofs.Sequence.{few_classes}
use Rattle.model.proofs.Orders.{Fit}
use Rattle.model.proofs.Intervals.{instants_week}
use Rattle.model.proofs.Lists.{All-gather, All-imp}
use Rattle.model.proofs.Laid.{laid_stand}
use Rattle.model.proofs.Written.Plans.{NarrowClass, NarrowSlot, plan_back}
use Rattle.model.proofs.Planner.{W-most, time_most, weight_most}

module _ (o : Order) (fit : Fit o) (p : ℕ) (C : ℕ → Doses) where
  abbrev S : Setting
  S = setting_of o

  -- a slot that is named fits its record
  pub narrow_slot : p ≤ S.doses → (s : Slot) → Named o p C s → NarrowSlot s
  narrow_slot few s h =
      let light : s.weight ≤ most_weight = omega (arith, h.weight, W-most o fit p C (C h.class)) in
      let high : ends s ≤ week * s.weight = omega (arith, h.in_interval.high, mul-le-mul_right s.weight (instants_week o fit (h.interval + 1))) in
      let end : s.end_tick ≤ week = le_of_mul-le-mul_right {k = s.weight} (omega arith) (omega (arith, h.start_part)) in
      let start : s.start_tick ≤ week = le_of_mul-le-mul_right {k = s.weight} (omega (arith, h.long)) (omega (arith, h.start_part)) in
      record {
        fan = omega (arith, h.fan_to, fit.fans_most);
        dose = omega (arith, h.dose, fit.few);
        start_tick = omega arith;
        start_part = omega (arith, h.start_part);
        end_tick = omega arith;
        end_part = omega (arith, h.end_part);
        weight = omega arith;
        time = omega (arith, h.time, time_most o fit p C h.class);
        class = omega (arith, h.number, h.known, fit.few);
      }

  -- a class fits its record
  pub narrow_class : (i : ℕ) → i < S.doses → NarrowClass (class_at o p C i)
  narrow_class i l = record {
    number = omega (arith, fit.few);
    doses = omega (arith, weight_most S.doses (λ k. 1) 1 (C i) (λ k q. omega arith), fit.few);
    weight = omega (arith, W-most o fit p C (C i));
    time = omega (arith, time_most o fit p C i);
  }

  module _ (c : Classes S (fans_present o) p C) where
    few : p ≤ S.doses
    few = few_classes S (fans_present o) p C c

    -- slots that stand, written behind the C records: the bytes say the classes and slots, and stand
    module _ (slots : List Slot) (h : SlotsStand o p C slots) where
      pub written_reads : plan_records (records_bytes (plan_of (classes_of o p C) slots)) ≡ read (plan_of (classes_of o p C) slots)
      written_reads =
          plan_back (classes_of o p C) slots (All-gather p _ (λ i l. also (narrow_class i (omega (arith, few))) none)) (All-imp (narrow_slot few) h.named)

      pub written_stands : Stands o (records_bytes (plan_of (classes_of o p C) slots))
      written_stands = record { count = p; sets = C; classes = c; slots = slots; records = written_reads; stand = h }

    module _ (x : ℕ → ℕ → ℕ → ℕ) (v : ValidShares o p C x) where
      -- the planner's bytes say its classes and slots
      pub plan_reads : plan_records (plan_bytes o p C x) ≡ read (plan_of (classes_of o p C) (slots_of o p C x))
      plan_reads = written_reads (slots_of o p C x) (laid_stand o fit p C c x v)

      -- the planner's plan stands
      pub plan_stands : Stands o (plan_bytes o p C x)
      plan_stands = written_stands (slots_of o p C x) (laid_stand o fit p C c x v)
