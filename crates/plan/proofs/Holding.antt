-- Laws of arrays that hold an order's classes and shares: their records are the order's, and they can be laid. Assumes nothing.
use mathlib.Core.Path.{◌≡◌, refl, ap, ap₂}
use mathlib.Core.List.{List}
use Prim.Native.Nat.{ℕ, ◌+◌, ◌*◌, ◌≤◌, ◌<◌}
use native.Mathlib.Omega.{arith}
use lib.ListN.{length}
use Rattle.model.specs.Records.{record_size}
use Rattle.model.specs.Limits.{plan_room}
use Rattle.model.specs.Sets.{Doses}
use Rattle.model.specs.Orders.{Order}
use Rattle.model.specs.Plans.{Class, Slot, plan_of, records_bytes}
use Rattle.model.specs.Classes.{reserved}
use Rattle.model.specs.Intervals.{fans_present, setting_of}
use Rattle.model.specs.Layout.{class_at, classes_of, slots_of, table_of, table_slots}
use Rattle.model.specs.Answers.{plan_bytes}
use Rattle.model.proofs.Sums.{sum_congr}
use Rattle.model.proofs.FanTime.{weighs}
use Rattle.model.proofs.Orders.{Fit}
use Rattle.model.proofs.Intervals.{few_intervals, instants_rise, instants_week}
use Rattle.model.proofs.Sequence.{few_classes}
use Rattle.model.proofs.Slots.{Runs, few_slots, runs}
use Rattle.model.proofs.Planner.{W-most}
use Rattle.plan_layout.specs.declared.Tables.{Tables}
use Rattle.plan_layout.specs.Held.{fans_at, len_at, share_at, table_from}
use Rattle.plan_layout.specs.Laying.{Filled}
use Rattle.plan_layout.proofs.SameTables.{SameTables, gather_same, slots_same}
use Rattle.plan.specs.Held.{TablesHold, bytes_from, class_from, classes_from, members_from}

module _ (o : Order) (t : Tables) (x : List ℕ) (m : List (List ℕ)) (h : TablesHold o t x m) where
  abbrev C : ℕ → Doses
  C = members_from t

  len_same : (j : ℕ) → j < (setting_of o).intervals → len_at t j ≡ (setting_of o).len j
  len_same j q = rw (h.instants j (omega arith), h.instants (j + 1) (omega arith))

  -- the arrays' table is the order's
  tables_same : SameTables (table_from t x m) (table_of o t.classes C (share_at t x))
  unfolding table_from
  tables_same = record {
    n = h.doses;
    p = refl;
    J = h.intervals;
    start = λ j q. h.instants j (omega (arith, h.intervals));
    len = λ j q. len_same j (omega (arith, h.intervals));
    weight = h.weight;
    time = h.time;
    fans = λ i j l q. h.fans i j l (omega (arith, h.intervals));
    share = λ i k j l q r. refl;
  }

  -- their slots are the plan's
  pub held_slots : table_slots (table_from t x m) ≡ slots_of o t.classes C (share_at t x)
  held_slots = slots_same tables_same

  class_same : (i : ℕ) → i < t.classes → class_from t i ≡ class_at o t.classes C i
  unfolding class_from
  class_same i l = rw (h.doses, h.weight i l, h.time i l)

  -- their classes are the order's
  pub held_classes : classes_from t ≡ classes_of o t.classes C
  held_classes = gather_same t.classes (λ i l. rw (class_same i l))

  -- and so are all bytes
  pub held_bytes : bytes_from t x m ≡ plan_bytes o t.classes C (share_at t x)
  held_bytes = ap₂ (λ (cs : List Class) (ss : List Slot). records_bytes (plan_of cs ss)) held_classes held_slots

  module _ (fit : Fit o) where
    few : t.classes ≤ (setting_of o).doses
    few = few_classes (setting_of o) (fans_present o) t.classes C h.classes

    run : (j : ℕ) → j < (setting_of o).intervals → Runs (table_of o t.classes C (share_at t x)) C o.fans j
    run = runs o fit t.classes C h.classes (share_at t x) h.valid

    in_order : (j : ℕ) → j < t.intervals → j < (setting_of o).intervals
    in_order j q = omega (arith, h.intervals)

    -- the shares can be laid
    pub filled : Filled t x m
    unfolding share_at
    filled = record {
      doses = omega (arith, h.doses, fit.few);
      classes = omega (arith, few, fit.few);
      intervals = omega (arith, h.intervals, few_intervals o fit);
      week = λ j q. omega (arith, h.instants (j + 1) (omega (arith, h.intervals)), instants_week o fit (j + 1));
      wide = λ j q. omega (arith, h.instants j (omega (arith, h.intervals)), h.instants (j + 1) (omega (arith, h.intervals)), instants_rise o j (omega (arith, h.intervals)));
      heavy = λ i l. omega (arith, h.weight i l, weighs (setting_of o) fit.some_grams (C i) (h.classes.next i l).some);
      light = λ i l. omega (arith, h.weight i l, W-most o fit t.classes C (C i));
      most = λ i k j l q r. rw (len_same j (in_order j r), h.weight i l) ((run j (in_order j r)).most i k l (omega (arith, h.doses)));
      full = λ i j l r. rw (h.doses, len_same j (in_order j r), h.weight i l, h.fans i j l (in_order j r)) ((run j (in_order j r)).full i l);
      room = λ j r.
          let same = sum_congr t.classes {f = λ i. fans_at m i j} {g = λ i. reserved (setting_of o) (fans_present o) C i j} (λ i l. h.fans i j l (in_order j r)) in
          omega (arith, same, (run j (in_order j r)).room, fit.fans_most);
    }

    -- and the records have room
    pub roomy : {size : ℕ} → plan_room ≤ size → record_size * (t.classes + length (table_slots (table_from t x m))) ≤ size
    roomy l = omega (arith, few, fit.few, ap length held_slots, few_slots o fit t.classes C h.classes (share_at t x) h.valid)
