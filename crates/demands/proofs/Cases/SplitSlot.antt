-- A plan that stands and is not the planner's: P1's, with the slot of dose 0 cut in two at second 5. Its bytes stand, and planning P1 never
-- leaves them. How it is drawn is computed beside the table (split_drawn of CaseTests).
use mathlib.Core.Path.{◌≡◌, refl, sym, ap, subst}
use mathlib.Core.Logic.{inl}
use mathlib.Core.List.{List, [], ◌∷◌}
use Prim.Native.Nat.{ℕ, zero, suc, ◌*◌, ◌≤◌, ◌<◌}
use native.Mathlib.Omega.{arith}
use lib.Dec.{T}
use lib.ListN.{length, get_or}
use Rattle.model.specs.Limits.{most_bay, plan_room}
use Rattle.model.specs.Sets.{Doses, sum, weight}
use Rattle.model.specs.Lists.{total, All, none, also, Pairs, lone, then}
use Rattle.model.specs.Records.{read, number_at, number_bytes, fields_at, blank_at, record_bytes, read_from}
use Rattle.model.specs.Orders.{Order, dose_at, entry_of, fans_in, doses_in, clashes_any, no_clash, order_of, read_order}
use Rattle.model.specs.Classes.{P, open_fans, free, class_p}
use Rattle.model.specs.Intervals.{insert, instants, setting_of, fans_present}
use Rattle.model.specs.Plans.{Class, plan_of, plan_record_bytes, records_bytes}
use Rattle.model.specs.Stands.{Named, InInterval, InOrder, by_interval, by_start, EndsBy, SlotsStand, Stands, units_of}
use Rattle.model.specs.Answers.{done, Accepts, Planned, Plans, overwritten, Judges}
use Rattle.model.specs.Cases.{Case, Right, listed, one_fan, case_sets, slot}
use Rattle.model.specs.CaseTests.{faster, early, late, split}
use Rattle.model.proofs.Lists.{Pairs-imp}
use Rattle.model.proofs.Orders.{read_fits}
use Rattle.model.proofs.Written.{written_stands}
use Rattle.model.proofs.Answers.{judged_zero}
use Rattle.demands.proofs.Cases.{cases_right}

-- P1's row
abbrev pub P1 : Case
P1 = one_fan 1000 1

-- its order
abbrev pub o : Order
o = record {
  fans = 1;
  rest = 0;
  top_grams = 1000;
  top_seconds = 1;
  doses = record { bay = 1; release = 0; deadline = 10; grams = 20 } ∷ record { bay = 2; release = 0; deadline = 4; grams = 16 } ∷ [];
}

abbrev C : ℕ → Doses
C = case_sets P1

-- any part of dose 0's time behind dose 1
of_dose_0 : (from to : ℕ) → 4 ≤ from → from < to → to ≤ 10 → Named o 2 C (slot 1 0 from 0 to 0 20 6 2)
unfolding weight sum P open_fans free insert instants listed
of_dose_0 from to l long h = record {
  dose = omega arith;
  class = 1;
  number = refl;
  known = omega arith;
  member = tt;
  weight = refl;
  time = refl;
  fan_from = omega arith;
  fan_to = omega arith;
  start_part = omega arith;
  end_part = omega arith;
  long = omega arith;
  window = record { low = omega arith; high = omega arith };
  interval = 1;
  in_order = omega arith;
  in_interval = record { low = omega arith; high = omega arith };
}

of_dose_1 : Named o 2 C faster
unfolding weight sum P open_fans free insert instants listed
of_dose_1 = record {
  dose = omega arith;
  class = 0;
  number = refl;
  known = omega arith;
  member = tt;
  weight = refl;
  time = refl;
  fan_from = omega arith;
  fan_to = omega arith;
  start_part = omega arith;
  end_part = omega arith;
  long = omega arith;
  window = record { low = omega arith; high = omega arith };
  interval = 0;
  in_order = omega arith;
  in_interval = record { low = omega arith; high = omega arith };
}

in_turn_lem : Pairs (InOrder o) split
unfolding insert instants
in_turn_lem =
    then (also (by_interval 0 1 (omega arith) first second) (also (by_interval 0 1 (omega arith) first third) none))
    (then (also (by_start 1 second third refl (omega arith)) none) (then none lone))
  where
    first : InInterval o 0 faster
    first = record { low = omega arith; high = omega arith }

    second : InInterval o 1 early
    second = record { low = omega arith; high = omega arith }

    third : InInterval o 1 late
    third = record { low = omega arith; high = omega arith }

-- each ends by the start of the next
apart : Pairs EndsBy split
apart = then (also one (also two none)) (then (also three none) (then none lone))
  where
    one : EndsBy faster early
    one = record { by = omega arith }

    two : EndsBy faster late
    two = record { by = omega arith }

    three : EndsBy early late
    three = record { by = omega arith }

totals : (i d : ℕ) → i < 2 → d < 2 → T (C i d) → total (units_of d) split ≡ (dose_at o d).grams * class_p (setting_of o) (fans_present o) C i
unfolding weight sum P open_fans free insert instants listed total
totals zero zero l h t = absurd t
totals zero (suc zero) l h t = refl
totals zero (suc (suc d)) l h t = absurd (omega arith)
totals (suc zero) zero l h t = refl
totals (suc zero) (suc zero) l h t = absurd t
totals (suc zero) (suc (suc d)) l h t = absurd (omega arith)
totals (suc (suc i)) d l h t = absurd (omega arith)

-- ---- the plan's bytes

-- the slots stand
slots_stand : SlotsStand o 2 C split
slots_stand = record {
  named = also of_dose_1 (also (of_dose_0 4 5 (omega arith) (omega arith) (omega arith)) (also (of_dose_0 5 10 (omega arith) (omega arith) (omega arith)) none));
  order = in_turn_lem;
  fans_apart = Pairs-imp (λ s u h e. inl h) apart;
  doses_apart = Pairs-imp (λ s u h e. inl h) apart;
  totals = totals;
}

-- P1's classes, and the slots
abbrev pub split_plan : List ℕ
split_plan = records_bytes (plan_of P1.classes split)

-- the row of P1 is right
right : Right P1
right = head cases_right
  where
    head : {P : Case → Type 0} {c : Case} {l : List Case} → All P (c ∷ l) → P c
    head (also p h) = p

-- P1's bytes read as the order, which is accepted
pub reads : read_order most_bay P1.order ≡ read o
unfolding read_order order_of read_from entry_of fields_at blank_at number_at number_bytes record_bytes fans_in doses_in clashes_any no_clash
reads = refl

accepts : Accepts most_bay P1.order o
accepts =
    let s = judged_zero right.judging.judged refl in
    let f = s.1.reads in
    let same : s.0 ≡ o = cc reads in
    subst (λ (o : Order). Accepts most_bay P1.order o) same s.1

-- the bytes stand
pub split_stands : Stands o split_plan
split_stands =
    let s = right.judging.sets o accepts in
    subst (λ (l : List Class). Stands o (records_bytes (plan_of l split))) (sym s.records)
    (written_stands o (read_fits most_bay P1.order o reads) 2 C s.are split slots_stand)

-- and are judged so
pub split_judged : Judges P1.order split_plan done
split_judged = Judges.stands o accepts split_stands

-- but planning P1 never leaves them: byte 108 is the end tick of the second slot, 5 here and 10 in the only plan
pub split_never_planned : (before : List ℕ) → plan_room ≤ length before → (r : Planned) → Plans P1.order before r (overwritten before split_plan) → ⊥
unfolding records_bytes plan_record_bytes record_bytes number_bytes
split_never_planned before room r h =
    let end : ◌≡◌ {A = ℕ} 5 10 = ap (λ (b : List ℕ). get_or b 108 0) (right.planning.only before room r (overwritten before split_plan) h).1 in
    omega arith
