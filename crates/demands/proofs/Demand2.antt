-- Demand 2, sentence by sentence: the rates, what the slots deliver, and the refusal for the top rate. Orders are those that are read, with any last
-- bay open, so that planning's and judging's are among them; plans those that stand.
pub mod FreeBound
pub mod OwnPlan
pub mod Refusal
pub mod FreePieces
pub mod Refusing
pub mod Standing
pub mod Bays
pub mod Planning
pub mod OfAnswers
use mathlib.Core.Logic.{◌↔◌, ◌⊎◌, inl, inr}
use mathlib.Core.Path.{◌≡◌}
use mathlib.Core.List.{List}
use Prim.Native.Nat.{ℕ, ◌+◌, ◌*◌, ◌≤◌, ◌<◌}
use native.Mathlib.Omega.{arith}
use lib.Dec.{T, ltb→lt}
use lib.ListN.{length, get_or}
use Rattle.model.specs.Limits.{last_open_bay, plan_room}
use Rattle.model.specs.Sets.{Doses}
use Rattle.model.specs.Lists.{total}
use Rattle.model.specs.Records.{record_size, read}
use Rattle.model.specs.Orders.{Order, dose_at, read_order}
use Rattle.model.specs.Classes.{Classes, P, W, class_p}
use Rattle.model.specs.Intervals.{fans_present, setting_of}
use Rattle.model.specs.Plans.{Slot, plan_records, slots_read}
use Rattle.model.specs.Stands.{Between, Stands, units_of}
use Rattle.model.specs.Line.{Covers, OneOf, time_of}
use Rattle.model.specs.FreePlans.{FreePlan}
use Rattle.model.specs.Answers.{Accepts, Answer, FirstClass, Planned, Plans, Refuses, above, done, overwritten, too_fast}
use Rattle.model.proofs.Sequence.{classes_unique, count_unique}
use Rattle.model.proofs.Orders.{read_fits}
use Rattle.model.proofs.ValidShares.{class_open}
use Rattle.demands.proofs.Existence.{classes_of_lem}
use Rattle.demands.proofs.Demand2.FreePieces.{none_above}
use Rattle.model.proofs.Standing.{plan_line}
use Rattle.demands.proofs.Demand2.Standing.{slot_named, slot_rate, slots_apart}
use Rattle.demands.proofs.Demand2.Bays.{bays_apart}
use Rattle.demands.proofs.Demand2.Refusing.{above_none, free_or_above, refused_names}
use Rattle.demands.proofs.Demand2.Planning.{accepted_plan, planned}

-- ---- "Rates are those of the offline optimum: again and again, among the doses left, the largest set with the greatest grams per second of
-- fan time open to it"

-- every order that is read has such classes, each with open fan time ("P is above zero")
pub has_classes : (last : ℕ) (order : List ℕ) (o : Order) → read_order last order ≡ read o
    → (p : ℕ) × (C : ℕ → Doses) × Classes (setting_of o) (fans_present o) p C × ((i : ℕ) → i < p → 0 < class_p (setting_of o) (fans_present o) C i)
has_classes last order o e = let r = classes_of_lem o (read_fits last order o e) in (r.0, r.1, r.2, class_open o r.0 r.1 r.2 (read_fits last order o e))

-- and one sequence of them: as many, with the same doses
pub one_sequence : (o : Order) (p p' : ℕ) (C C' : ℕ → Doses) → Classes (setting_of o) (fans_present o) p C → Classes (setting_of o) (fans_present o) p' C'
    → (p ≡ p') × ((i : ℕ) → i < p → (k : ℕ) → k < (setting_of o).doses → C i k ≡ C' i k)
one_sequence o p p' C C' c c' =
    let count : p ≡ p' = count_unique (setting_of o) (fans_present o) p p' C C' c c' in
    (count, λ i l. classes_unique (setting_of o) (fans_present o) p p' C C' c c' i l (omega arith))

-- every slot of a plan that stands has the number, the W and the P of its dose's class
pub slots_have_the_rates : (o : Order) (plan : List ℕ) → Stands o plan → (p : ℕ) (C : ℕ → Doses) → Classes (setting_of o) (fans_present o) p C
    → (s : Slot) → OneOf (slots_read (plan_records plan)) s
    → (i : ℕ) × (i < p) × T (C i s.dose) × (s.class ≡ i + 1) × (s.weight ≡ W (setting_of o) (C i)) × (s.time ≡ class_p (setting_of o) (fans_present o) C i)
slots_have_the_rates = slot_rate

-- ---- "The slots deliver each dose exactly, inside its window, no fan and no dose in two slots at one moment."

-- "deliver each dose exactly": the units of its slots, divided by P, are its grams
pub deliver_exactly : (last : ℕ) (order : List ℕ) (o : Order) → read_order last order ≡ read o → (plan : List ℕ) → Stands o plan → (d : ℕ) → d < (setting_of o).doses
    → (total (units_of d) (slots_read (plan_records plan)) ≡ (dose_at o d).grams * time_of (slots_read (plan_records plan)) d)
    × (0 < time_of (slots_read (plan_records plan)) d)
deliver_exactly last order o e plan st d l = let r = plan_line o plan st (read_fits last order o e) d l in (r.all_units, r.some_time)

-- "inside its window"
pub inside_its_window : (o : Order) (plan : List ℕ) → Stands o plan → (s : Slot) → OneOf (slots_read (plan_records plan)) s
    → (s.dose < (setting_of o).doses) × Between (dose_at o s.dose).release (dose_at o s.dose).deadline s
inside_its_window o plan st s one = let n = slot_named o plan st s one in (n.dose, n.window)

-- "no fan and no dose in two slots at one moment"
pub never_in_two_slots : (o : Order) (plan : List ℕ) → Stands o plan → (q x i i' : ℕ) (u : Slot) → i < i' → i' < length (slots_read (plan_records plan))
    → Covers q x (get_or (slots_read (plan_records plan)) i u) → Covers q x (get_or (slots_read (plan_records plan)) i' u)
    → ((get_or (slots_read (plan_records plan)) i u).fan ≡ (get_or (slots_read (plan_records plan)) i' u).fan → ⊥)
    × ((get_or (slots_read (plan_records plan)) i u).dose ≡ (get_or (slots_read (plan_records plan)) i' u).dose → ⊥)
never_in_two_slots = slots_apart

-- and so no bay: "A bay has one inlet, so one fan at a time feeds it"
pub one_fan_at_a_bay : (last : ℕ) (order : List ℕ) (o : Order) → read_order last order ≡ read o → (plan : List ℕ) → Stands o plan
    → (q x i i' : ℕ) (u : Slot) → i < i' → i' < length (slots_read (plan_records plan))
    → Covers q x (get_or (slots_read (plan_records plan)) i u) → Covers q x (get_or (slots_read (plan_records plan)) i' u)
    → (dose_at o (get_or (slots_read (plan_records plan)) i u).dose).bay ≡ (dose_at o (get_or (slots_read (plan_records plan)) i' u).dose).bay → ⊥
one_fan_at_a_bay last order o e plan st = bays_apart o plan st (read_fits last order o e)

-- ---- "An order with no other fault is refused for the top rate exactly if no plan within that rate exists, and the set that shows it is named."

module _ (last : ℕ) (order : List ℕ) (o : Order) (e : read_order last order ≡ read o) where
  -- "refused for the top rate exactly if no plan within that rate exists"
  pub refused_exactly : ((a : Answer) × Refuses last order a) ↔ (FreePlan o → ⊥)
  refused_exactly = (
    λ r. let n = refused_names order o e r.0 r.1 in above_none o n.0.set n.0.too_fast,
    λ no. elim (free_or_above o (read_fits last order o e)) [
      | inl f ↦ absurd (no f)
      | inr t ↦ (too_fast o t.set, above o t.set e t.first t.too_fast)
    ],
  )

  -- accepted exactly if one exists
  pub accepted_exactly : Accepts last order o ↔ FreePlan o
  accepted_exactly = (
    λ a. elim (free_or_above o (read_fits last order o e)) [ inl f ↦ f | inr t ↦ absurd (a.slow t.set t.first t.too_fast) ],
    λ f. record { reads = e; slow = λ A first t. above_none o A t f },
  )

  -- and always one of the two
  pub accepted_or_refused : Accepts last order o ⊎ ((a : Answer) × Refuses last order a)
  accepted_or_refused = elim (free_or_above o (read_fits last order o e)) [
    | inl f ↦ inl (accepted_exactly.1 f)
    | inr t ↦ inr (too_fast o t.set, above o t.set e t.first t.too_fast)
  ]

  -- "and the set that shows it is named": the answer has the first class, its W and P, and these are above the top rate
  pub names_the_set : (a : Answer) → Refuses last order a
      → (A : Doses) × FirstClass o A × (a ≡ too_fast o A) × (a.time * o.top_grams < a.weight * o.top_seconds)
  names_the_set a r =
      let n = refused_names order o e a r in
      (n.0.set, n.0.first, n.1, rw n.1 (ltb→lt _ _ n.0.too_fast))

-- why it shows it: no plan is within the top rate if any set is above it
pub the_set_shows_it : (o : Order) (A : Doses) → P (setting_of o) (fans_present o) A * o.top_grams < W (setting_of o) A * o.top_seconds → FreePlan o → ⊥
the_set_shows_it = none_above

-- ---- plans: an accepted order has one that stands, and "The planner's output always stands"

-- an accepted order has a plan that stands
pub plan_exists : {last : ℕ} (order : List ℕ) (o : Order) → Accepts last order o → (plan : List ℕ) × Stands o plan
plan_exists = accepted_plan

-- planning it with room leaves a plan that stands, and counts its records
pub planner_stands : (order before : List ℕ) (o : Order) → Accepts last_open_bay order o → plan_room ≤ length before → (r : Planned) (after : List ℕ) → Plans order before r after
    → (plan : List ℕ) × Stands o plan × (after ≡ overwritten before plan) × (r.answer ≡ done) × (length plan ≡ record_size * (r.classes + r.slots))
planner_stands order before o a room r after h =
    let l = planned order before o a room r after h in
    (l.plan, l.stands, l.bytes, l.finished, l.counted)
