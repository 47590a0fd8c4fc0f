-- A dose's state and amount by what the code holds, and what a plan that stands gives the code. Assumes nothing.
use mathlib.Core.Path.{◌∙◌, ◌≡◌, sym}
use mathlib.Core.List.{List}
use Prim.Native.Nat.{ℕ, ◌+◌, ◌/◌, ◌<◌, ◌≤◌}
use native.Mathlib.Nat.{le_of_mul-le-mul_right, mul-le-mul_right}
use native.Mathlib.Omega.{arith}
use borrow.Author.Tests.{le-leb, lt-leb, le-ltb, lt-ltb}
use Rattle.model.specs.Limits.{most_bay, most_grams}
use Rattle.model.specs.Records.{read}
use Rattle.model.specs.Orders.{dose_at, read_order}
use Rattle.model.specs.Orders as orders
use Rattle.model.specs.Classes.{W, class_p}
use Rattle.model.specs.Intervals.{setting_of, fans_present}
use Rattle.model.specs.Plans.{Slot, plan_of, plan_records, slots_in, slots_read}
use Rattle.model.specs.Layout.{classes_of}
use Rattle.model.specs.Stands.{Stands}
use Rattle.model.specs.Line.{finished, shut, fed_at, state_at, time_of, units_before, weight_of}
use Rattle.model.proofs.Amounts.{drawn_near}
use Rattle.model.proofs.Orders.{Fit, read_fits}
use Rattle.model.proofs.DrawnLine.{InClass, Line, class_of, dose_rate, names_class}
use Rattle.model.proofs.Lists.{All-of}
use Rattle.model.proofs.PlanPieces.{no_slot}
use Rattle.model.proofs.Planner.{stand_read, time_most}
use Rattle.model.proofs.Standing.{plan_line}
use Rattle.model.proofs.ValidShares.{class_weighs}
use Rattle.order.proofs.Fields.{dose_is}
use Rattle.order.specs.Held.{as_order, dose_held}
use Rattle.std.proofs.Math.Logic.{∥∥₁_elim}
use mathlib.Core.HLevel.{×_prop}
use Rattle.std.proofs.Math.Bridge.{le_prop}
use Rattle.order.specs.declared.Order.{Order}
use Rattle.draw.specs.Drawing.{Drawable}

-- ---- a dose's state

module _ (o : Order) (slots : List Slot) (d t : ℕ) (dn : d < o.count) {x : orders.Dose} (is : x ≡ dose_held o d) where
  pub state_finished : x.deadline ≤ t → finished ≡ state_at (as_order o) slots d t
  unfolding state_at
  state_finished h = rw (← (is ∙ dose_is o d dn), le-leb x.deadline t h)

  pub state_shut : t < x.deadline → t < x.release → shut ≡ state_at (as_order o) slots d t
  unfolding state_at
  state_shut h g = rw (← (is ∙ dose_is o d dn), lt-leb x.deadline t h, lt-ltb t x.release g)

  pub state_open : t < x.deadline → x.release ≤ t → fed_at slots d t ≡ state_at (as_order o) slots d t
  unfolding state_at
  state_open h g = rw (← (is ∙ dose_is o d dn), lt-leb x.deadline t h, le-ltb t x.release g)

-- ---- its amount

-- the slots of bytes whose records are known
pub slots_known : (b : List ℕ) (d : ℕ) (h : Drawable b d) → slots_read (plan_records b) ≡ slots_in h.records
slots_known b d h = rw h.are

-- the dose has a P, and no amount is more than a dose may have
pub amounts : (b : List ℕ) (d : ℕ) → ∥ Drawable b d ∥₁ → (t : ℕ)
    → (0 < time_of (slots_read (plan_records b)) d) × (units_before (slots_read (plan_records b)) d t / time_of (slots_read (plan_records b)) d ≤ most_grams)
amounts b d had t = ∥∥₁_elim had (×_prop le_prop le_prop) (λ h. rw (slots_known b d h) (
  h.some_time,
  le_of_mul-le-mul_right {k = time_of (slots_in h.records) d}
      (omega (arith, drawn_near (units_before (slots_in h.records) d t) (time_of (slots_in h.records) d) h.some_time, h.units_most t))
      h.some_time,
))

-- ---- in a plan that stands

-- a dose of an order that was read, in plan bytes that stand for it
pub stands_drawable : (order : List ℕ) (o : orders.Order) → read_order most_bay order ≡ read o → (plan : List ℕ) → Stands o plan → (d : ℕ) → d < (setting_of o).doses → Drawable plan d
stands_drawable order o e plan st d dn = record {
  records = plan_of (classes_of o st.count st.sets) st.slots;
  are = st.records;
  some_weight = rw (same, names.0) (class_weighs o st.count st.sets st.classes fit own.class own.known);
  one_weight = rw same (All-of read_slots no_slot (λ i l q.
      (names_class o fit st.count st.sets st.classes read_slots (stand_read st) d dn own i l q).0 ∙ sym names.0));
  some_time = rw same line.some_time;
  time_most = rw (same, names.1) (time_most o fit st.count st.sets own.class);
  units_most = λ t. rw same (omega (
    arith,
    line.up t (dose_at o d).deadline,
    line.late (t + (dose_at o d).deadline) (omega arith),
    line.all_units,
    mul-le-mul_right {m = (dose_at o d).grams} {n = most_grams} (time_of read_slots d) (fit.light d dn),
  ));
}
  where
    read_slots : List Slot
    read_slots = slots_read (plan_records plan)

    fit : Fit o
    fit = read_fits most_bay order o e

    line : Line o read_slots d
    line = plan_line o plan st fit d dn

    own : InClass st.count st.sets d
    own = class_of o fit st.count st.sets st.classes read_slots (stand_read st) d dn

    same : slots_in (plan_of (classes_of o st.count st.sets) st.slots) ≡ read_slots
    same = rw st.records

    -- the W and P that its slots name are those of its class
    names : (weight_of read_slots d ≡ W (setting_of o) (st.sets own.class)) × (time_of read_slots d ≡ class_p (setting_of o) (fans_present o) st.sets own.class)
    names = dose_rate o fit st.count st.sets st.classes read_slots (stand_read st) d dn own
