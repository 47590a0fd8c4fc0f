-- Plans by their bytes: the slots that are read, how large W and P are, and the size of the planner's plan.
use mathlib.Core.Bool.{true}
use mathlib.Core.Path.{◌≡◌}
use mathlib.Core.List.{List}
use Prim.Native.Nat.{ℕ, suc, zero, ◌+◌, ◌*◌, ◌≤◌, ◌<◌}
use native.Mathlib.Nat.{mul-le-mul_left}
use native.Mathlib.Numerals.{add-one}
use native.Mathlib.Omega.{arith}
use lib.ListN.{length}
use Rattle.model.specs.Records.{record_size}
use Rattle.model.specs.Limits.{most_weight, most_fan_time, most_fans, most_grams, plan_room}
use Rattle.model.specs.Sets.{Doses, sum, weight}
use Rattle.model.specs.Orders.{Order}
use Rattle.model.specs.Classes.{Classes, P, Row, Setting, W, class_p, free, open_fans}
use Rattle.model.specs.Intervals.{fans_present, instant_at, setting_of}
use Rattle.model.specs.Plans.{plan_records, slots_read}
use Rattle.model.specs.Layout.{class_at, classes_of, slots_of}
use Rattle.model.specs.Stands.{SlotsStand, Stands}
use Rattle.model.specs.Answers.{ValidShares, plan_bytes}
use Rattle.model.proofs.Sums.{sum_le, sum_scale}
use Rattle.model.proofs.Sets.{weight_all, weight_le}
use Rattle.model.proofs.Sequence.{few_classes}
use Rattle.model.proofs.Orders.{Fit}
use Rattle.model.proofs.Intervals.{instants_rise, instants_week}
use Rattle.model.proofs.Lists.{length_singles, sum_const}
use Rattle.model.proofs.Slots.{few_slots}
use Rattle.model.proofs.Plans.{length_plan, slots_read_lem}

-- members of one weight at most, together
pub weight_most : (n : ℕ) (w : ℕ → ℕ) (m : ℕ) (A : Doses) → ((k : ℕ) → k < n → w k ≤ m) → weight n w A ≤ n * m
weight_most n w m A h = omega (arith, weight_le n w (λ k. m) A (λ k. true) (λ k l t q. tt) (λ k l t. h k l), weight_all n (λ k. m), sum_const n m)

-- no more fans are free than there are
free_most : (S : Setting) (F : Row) (C : ℕ → Doses) (i j : ℕ) → free S F C i j ≤ F j
unfolding free
free_most S F C zero j = omega arith
free_most S F C (suc i) j = omega (arith, free_most S F C i j)

-- the slots that are read from a plan that stands are those that stand
pub stand_read : {o : Order} {plan : List ℕ} (h : Stands o plan) → SlotsStand o h.count h.sets (slots_read (plan_records plan))
stand_read {o} {plan} h = rw (slots_read_lem plan (classes_of o h.count h.sets) h.slots h.records) h.stand

module _ (o : Order) (fit : Fit o) (p : ℕ) (C : ℕ → Doses) where
  abbrev S : Setting
  S = setting_of o

  -- W of any set of doses
  pub W-most : (A : Doses) → W S A ≤ most_weight
  W-most A = omega (arith, weight_most S.doses S.grams most_grams A fit.light, fit.few)

  -- the first intervals take no longer than up to their end
  lengths : (j : ℕ) → j ≤ S.intervals → sum j S.len ≤ instant_at o j
  unfolding sum
  lengths zero l = omega arith
  lengths (suc j) l = rw (← add-one j) (omega (arith, lengths j (omega arith), instants_rise o j l))

  fans_open : (i j : ℕ) → open_fans S (free S (fans_present o) C i) (C i) j ≤ most_fans
  unfolding open_fans
  fans_open i j = omega (arith, free_most S (fans_present o) C i j, fit.fans_most)

  -- P of any class: all fans for a week
  pub time_most : (i : ℕ) → class_p S (fans_present o) C i ≤ most_fan_time
  unfolding P
  time_most i =
      omega (
        arith,
        sum_le S.intervals {f = λ j. S.len j * open_fans S (free S (fans_present o) C i) (C i) j} {g = λ j. most_fans * S.len j}
            (λ j l. omega (arith, mul-le-mul_left (S.len j) (fans_open i j))),
        sum_scale S.intervals most_fans S.len,
        lengths S.intervals (omega arith),
        instants_week o fit S.intervals,
      )

  module _ (c : Classes S (fans_present o) p C) where
    few : p ≤ S.doses
    few = few_classes S (fans_present o) p C c

    module _ (x : ℕ → ℕ → ℕ → ℕ) (v : ValidShares o p C x) where
      -- the planner's plan has a record for each class and each slot
      pub plan_length : length (plan_bytes o p C x) ≡ record_size * (p + length (slots_of o p C x))
      plan_length = omega (arith, length_plan (classes_of o p C) (slots_of o p C x), length_singles p (class_at o p C))

      -- and goes into the plan buffer
      pub plan_room_lem : length (plan_bytes o p C x) ≤ plan_room
      plan_room_lem = omega (arith, plan_length, few, fit.few, few_slots o fit p C c x v)
