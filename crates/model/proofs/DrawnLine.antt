-- The drawn line of a dose in a plan that stands.
use mathlib.Core.Bool.{Bool, false, true}
use mathlib.Core.Path.{◌∙◌, ◌≡◌, ap, refl, sym}
use mathlib.Core.List.{List}
use Prim.Native.Nat.{ℕ, ◌+◌, ◌*◌, ◌-◌, ◌≤◌, ◌<◌}
use native.Mathlib.Nat.{eq_of_mul-eq-mul_left, le_of_mul-le-mul_left, mul-le-mul_left, mul-le-mul_right, mul-pos}
use native.Mathlib.Omega.{arith}
use borrow.Author.Tests.{eqb-true}
use lib.Dec.{T, eqb}
use lib.ListN.{length}
use Rattle.model.specs.Sets.{Doses, on}
use Rattle.model.specs.Lists.{All, also, none, total}
use Rattle.model.specs.Records.{pick}
use Rattle.model.specs.Orders.{Order, dose_at}
use Rattle.model.specs.Classes.{Classes, Row, Setting, W, class_p}
use Rattle.model.specs.Intervals.{fans_present, setting_of}
use Rattle.model.specs.Plans.{Slot}
use Rattle.model.specs.Stands.{SlotsStand, ends, starts, units_of}
use Rattle.model.specs.Line.{weight_of, time_of, units_before}
use Rattle.model.proofs.Sequence.{Nested, all_in_lem, nested, upto_find}
use Rattle.model.proofs.Moments.{Pieces, Runs}
use Rattle.model.proofs.Amounts.{ran, ran_after, ran_before, ran_up, units_slow}
use Rattle.model.proofs.Orders.{Fit}
use Rattle.model.proofs.Lists.{All-of}
use Rattle.model.proofs.ValidShares.{class_open, class_weighs}
use Rattle.model.proofs.PlanPieces.{before_cells, class_at_lem, class_grid, grid, grid_pos, house_of, named_at, no_slot, pieces_run, pieces_of, slot_from, slot_to, slot_at, unit, unit_pos, units_cells}

-- the slots of a dose name one W and one P: those are what the dose's slots name
first_names : (d w t : ℕ) {slots : List Slot} → All (λ s. s.dose ≡ d → (s.weight ≡ w) × (s.time ≡ t)) slots → 0 < total (units_of d) slots
    → (weight_of slots d ≡ w) × (time_of slots d ≡ t)
unfolding total weight_of time_of
first_names d w t none h = absurd (omega arith)
first_names d w t (also {a = s} {l = slots} n a) h = go (eqb d s.dose) refl h (first_names d w t a)
  where
    go : (b : Bool) → eqb d s.dose ≡ b → 0 < on b (ends s - starts s) + total (units_of d) slots → (0 < total (units_of d) slots → (weight_of slots d ≡ w) × (time_of slots d ≡ t))
        → (pick b s.weight (weight_of slots d) ≡ w) × (pick b s.time (time_of slots d) ≡ t)
    go true e g ih = n (sym (eqb-true d s.dose e))
    go false e g ih = ih (omega arith)

-- what is known of a dose's slots: their W and P, and the units before a tick
pub record Line (o : Order) (slots : List Slot) (d : ℕ) : Type 0 where
  pub some_time : 0 < time_of slots d
  pub all_units : total (units_of d) slots ≡ (dose_at o d).grams * time_of slots d
  pub up : (t h : ℕ) → units_before slots d t ≤ units_before slots d (t + h)
  pub slow : (t h : ℕ) → units_before slots d (t + h) ≤ units_before slots d t + h * weight_of slots d
  pub early : (t : ℕ) → t ≤ (dose_at o d).release → units_before slots d t ≡ 0
  pub late : (t : ℕ) → (dose_at o d).deadline ≤ t → units_before slots d t ≡ total (units_of d) slots

-- the class of dose d
pub record InClass (p : ℕ) (C : ℕ → Doses) (d : ℕ) : Type 0 where
  pub class : ℕ
  pub known : class < p
  pub member : T (C class d)

module _ (o : Order) (fit : Fit o) (p : ℕ) (C : ℕ → Doses) (c : Classes (setting_of o) (fans_present o) p C) (slots : List Slot) (st : SlotsStand o p C slots) where
  abbrev S : Setting
  S = setting_of o

  abbrev F : Row
  F = fans_present o

  some : (l : ℕ) → l < p → 0 < W S (C l)
  some = class_weighs o p C c fit

  nest : Nested S.doses C p
  nest = nested S F p C c p (omega arith)

  -- every dose has a class
  pub class_of : (d : ℕ) → d < S.doses → InClass p C d
  class_of d l = let r = upto_find C p d (all_in_lem S F p C c d l) in record { class = r.0; known = r.1; member = r.2 }

  -- ---- a dose of class l

  module _ (d : ℕ) (dn : d < S.doses) (m : InClass p C d) where
    abbrev l : ℕ
    l = m.class

    -- its slots name its class
    pub names_class : (i : ℕ) → i < length slots → (slot_at slots i).dose ≡ d → ((slot_at slots i).weight ≡ W S (C l)) × ((slot_at slots i).time ≡ class_p S F C l)
    names_class i h e =
        let n = named_at o p C 1 slots st i h in
        let same = class_at_lem o p C 1 slots st nest l d m.known dn m.member i h e in
        (n.weight ∙ ap (λ (l : ℕ). W S (C l)) same, n.time ∙ ap (λ (l : ℕ). class_p S F C l) same)

    has_units : 0 < total (units_of d) slots
    has_units = rw (st.totals l d m.known dn m.member) (mul-pos (fit.some_grams d dn) (class_open o p C c fit l m.known))

    -- so these are its W and P
    pub dose_rate : (weight_of slots d ≡ W S (C l)) × (time_of slots d ≡ class_p S F C l)
    dose_rate = first_names d (W S (C l)) (class_p S F C l) (All-of slots no_slot names_class) has_units

    pos : 0 < grid o p C 1
    pos = grid_pos o p C 1 some (omega arith)

    abbrev Z : Pieces
    Z = pieces_of o p C 1 slots

    runs : Runs S (house_of o) Z
    runs = pieces_run o p C 1 slots st pos

    abbrev R : ℕ
    R = unit o p C 1 l

    some_cells : 0 < R
    some_cells = unit_pos o p C 1 some (omega arith) l m.known

    before : (t : ℕ) → R * units_before slots d t ≡ ran Z d (grid o p C 1 * t)
    before t = sym (before_cells o p C 1 slots st nest l d m.known dn m.member t)

    -- its line
    pub line_of : Line o slots d
    line_of = record {
      some_time = rw dose_rate.1 (class_open o p C c fit l m.known);
      all_units = rw dose_rate.1 (st.totals l d m.known dn m.member);
      up = λ t h. le_of_mul-le-mul_left {k = R} (omega (
        arith,
        before t,
        before (t + h),
        ran_up S (house_of o) Z runs d (grid o p C 1 * t) (grid o p C 1 * (t + h)) (mul-le-mul_left (grid o p C 1) (omega arith)),
      )) some_cells;
      slow = λ t h. rw dose_rate.0
          (units_slow S (house_of o) Z runs d (W S (C l)) R (class_grid o p C 1 l m.known) some_cells (units_before slots d) before t h);
      early = λ t g. eq_of_mul-eq-mul_left R some_cells _ _ (before t ∙ ran_before S (house_of o) Z runs d (grid o p C 1 * t) (starts_later t g) ∙ omega arith);
      late = λ t g. eq_of_mul-eq-mul_left R some_cells _ _
          (before t ∙ ran_after S (house_of o) Z runs d (grid o p C 1 * t) (ends_before t g) ∙ units_cells o p C 1 slots st nest l d m.known dn m.member);
    }
      where
        starts_later : (t : ℕ) → t ≤ (dose_at o d).release → (i : ℕ) → i < length slots → (slot_at slots i).dose ≡ d → grid o p C 1 * t ≤ Z.s i
        starts_later t g i h e =
            let n = named_at o p C 1 slots st i h in
            slot_from o p C 1 (slot_at slots i) n t (omega (arith, n.window.low, mul-le-mul_right (slot_at slots i).weight (rw (← e) at g)))

        ends_before : (t : ℕ) → (dose_at o d).deadline ≤ t → (i : ℕ) → i < length slots → (slot_at slots i).dose ≡ d → Z.e i ≤ grid o p C 1 * t
        ends_before t g i h e =
            let n = named_at o p C 1 slots st i h in
            slot_to o p C 1 (slot_at slots i) n t (omega (arith, n.window.high, mul-le-mul_right (slot_at slots i).weight (rw (← e) at g)))
