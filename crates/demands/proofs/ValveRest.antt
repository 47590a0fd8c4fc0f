-- Valve rest (document 02, C-16), sentence by sentence: the rule in byte 2 of F, the rest between windows of one bay, 8 and its place, stored orders.
-- Every law is over any length of rest; the two rules are two numbers (`rest_by`). Assumes nothing.
pub mod Rules
pub mod PlansAlike
use mathlib.Core.Logic.{◌↔◌, ◌≢◌, ◌⊎◌}
use mathlib.Core.Path.{◌≡◌, refl, ◌∙◌}
use mathlib.Core.List.{List, [], map}
use Prim.Native.Nat.{ℕ, ◌+◌, ◌*◌, ◌/◌, ◌≤◌, ◌<◌}
use native.Mathlib.Omega.{arith}
use lib.Dec.{T}
use lib.ListN.{get_or, length}
use Rattle.model.specs.Limits.{last_rule, most_doses, valve_rest}
use Rattle.model.specs.Sets.{Doses}
use Rattle.model.specs.Records.{blank_at, fans_kind, fans_parts, read, record_at, record_size, refused}
use Rattle.model.specs.Orders.{Dose, Entry, Order, dose_at, doses_in, entry_of, fans_in, no_clash, order_in, order_of, read_order, rest_by}
use Rattle.model.specs.Plans.{Slot, plan_records, slots_read}
use Rattle.model.specs.Stands.{Stands}
use Rattle.model.specs.Line.{Covers, point_at}
use Rattle.model.specs.FreePlans.{FreePlan, FreeSlot}
use Rattle.model.specs.Answers.{FirstClass, above_top}
use Rattle.model.proofs.Given.{Entries, Given, bay, blank, given_exactly, kind, many_doses, not_one_fans, overlapping, range, wrong_length, wrong_record}
use Rattle.model.proofs.Orders.{read_fits, windows_rest}
use Rattle.model.proofs.Rests.{Overlap, OverlapsEarlier, apart_shorter, clash_longer, overlaps_exactly}
use Rattle.demands.proofs.Former.{RuleZero, dose_up_to, former_order_lem, former_order, was_read}
use Rattle.demands.proofs.Demand2.Bays.{free_slots_rest, slots_rest}
use Rattle.demands.proofs.ValveRest.PlansAlike.{points_resting, stands_resting}
use Rattle.demands.proofs.ValveRest.Rules.{by_rule, resting, rest_named, rule_out_of_range, rule_shorter, two_rests}

-- ---- "Byte 2 of F, zero until now, names the rule: 0 lets windows of a bay touch, 1 asks that the later release be at least 300 after the earlier
-- deadline."

-- the rest of an order is that of the rule in byte 2 of its F, wherever among the doses it stands
pub byte_names_the_rule : (last : ℕ) (order : List ℕ) (o : Order) → read_order last order ≡ read o
    → (i : ℕ) → i < length order / record_size → get_or (record_at order i) 0 0 ≡ fans_kind → o.rest ≡ rest_by (get_or (record_at order i) 2 0)
byte_names_the_rule = rest_named

-- so that it is one of two
pub two_rules : (last : ℕ) (order : List ℕ) (o : Order) → read_order last order ≡ read o → (o.rest ≡ 0) ⊎ (o.rest ≡ valve_rest)
two_rules = two_rests

-- an order that is read has its rest between the windows of any two doses of one bay
pub windows_have_the_rest : (last : ℕ) (order : List ℕ) (o : Order) → read_order last order ≡ read o → (i k : ℕ) → i ≢ k → i < length o.doses → k < length o.doses
    → (dose_at o i).bay ≡ (dose_at o k).bay
    → ((dose_at o i).deadline + o.rest ≤ (dose_at o k).release) ⊎ ((dose_at o k).deadline + o.rest ≤ (dose_at o i).release)
windows_have_the_rest last order o e = windows_rest (read_fits last order o e)

-- ---- "byte 2 above 1 is 5; too short a rest is 8, with its place as before"

-- an F with its zeros in place and byte 2 above 1 is 5, with the record's index
pub rule_above_one : (last : ℕ) (r : List ℕ) (i : ℕ) → get_or r 0 0 ≡ fans_kind → T (blank_at fans_parts r 0) → last_rule < get_or r 2 0 → entry_of last r i ≡ refused 5 i
rule_above_one = rule_out_of_range

-- record i is the first D that has less than the order's rest to an earlier D of its bay, and what comes before 8 is passed
pub record TooShort (last : ℕ) (order : List ℕ) (i : ℕ) : Type 0 where
  pub entries : List Entry
  pub are : Entries last order entries
  pub one : length (fans_in entries) ≡ 1
  pub few : length (doses_in entries) ≤ most_doses
  pub here : OverlapsEarlier (order_in entries).rest entries i
  pub first : (k : ℕ) → k < i → OverlapsEarlier (order_in entries).rest entries k → ⊥

-- 8 has that place, and comes exactly there
pub eight_exactly : (last : ℕ) (order : List ℕ) (i : ℕ) → (read_order last order ≡ refused 8 i) ↔ TooShort last order i
eight_exactly last order i = (
  λ e. of_row ((given_exactly last order 8 i).0 e) refl,
  λ t. (given_exactly last order 8 i).1 (overlapping t.entries t.are t.one t.few i t.here t.first),
)
  where
    of_row : {number place : ℕ} → Given last order number place → number ≡ 8 → TooShort last order place
    of_row (wrong_length w) e = absurd (omega arith)
    of_row (wrong_record n k reached (kind f)) e = absurd (omega arith)
    of_row (wrong_record n k reached (blank f)) e = absurd (omega arith)
    of_row (wrong_record n k reached (range f)) e = absurd (omega arith)
    of_row (wrong_record n k reached (bay f)) e = absurd (omega arith)
    of_row (not_one_fans es g f) e = absurd (omega arith)
    of_row (many_doses es g one m) e = absurd (omega arith)
    of_row (overlapping es g one few k o none) e = record { entries = es; are = g; one = one; few = few; here = o; first = none }

-- two doses of one bay are such exactly if neither release is at least the rest after the other's deadline
pub too_short_exactly : (rest : ℕ) (x y : Dose) → x.bay ≡ y.bay → Overlap rest x y ↔ ((x.deadline + rest ≤ y.release) ⊎ (y.deadline + rest ≤ x.release) → ⊥)
too_short_exactly = overlaps_exactly

-- ---- a longer rest asks for more

-- windows apart under a longer rest are apart under a shorter one
pub apart_under_a_shorter : (rest longer : ℕ) → rest ≤ longer → (es : List Entry) (ds : List Dose) → no_clash longer [] 0 es ≡ read ds → no_clash rest [] 0 es ≡ read ds
apart_under_a_shorter = apart_shorter

-- what is 8 under a shorter rest is 8 under a longer one, for that record or an earlier one
pub sooner_under_a_longer : (rest longer : ℕ) → rest ≤ longer → (es : List Entry) (i : ℕ) → no_clash rest [] 0 es ≡ refused 8 i
    → (k : ℕ) × (k ≤ i) × (no_clash longer [] 0 es ≡ refused 8 k)
sooner_under_a_longer = clash_longer

-- the records of an order are read by any rule of no longer rest as the same order with that rest
pub read_by_a_shorter_rule : (rule : ℕ) (es : List Entry) (o : Order) → order_of es ≡ read o → rest_by rule ≤ o.rest
    → order_of (map (by_rule rule) es) ≡ read (resting (rest_by rule) o)
read_by_a_shorter_rule = rule_shorter

-- and what is planned, judged and drawn for an order does not hang on its rest: the same plans stand
pub same_plans_stand : (rest : ℕ) (o : Order) (plan : List ℕ) → Stands o plan ↔ Stands (resting rest o) plan
same_plans_stand rest o plan = (stands_resting rest o plan, stands_resting o.rest (resting rest o) plan)

-- its first class is the same, and is above the top rate or not
pub same_top_rate : (rest : ℕ) (o : Order) (A : Doses) → (FirstClass o A × T (above_top o A)) ↔ (FirstClass (resting rest o) A × T (above_top (resting rest o) A))
same_top_rate rest o A = (λ h. h, λ h. h)

-- and the same points are drawn
pub same_points : (rest : ℕ) (o : Order) (slots : List Slot) (d t : ℕ) → point_at (resting rest o) slots d t ≡ point_at o slots d t
same_points = points_resting

-- ---- "Houses on old valves keep rule 0, and stored orders read as they did."

-- an order with byte 2 zero is read as the definition of before reads it: planning with its last bay, all else with every bay open
pub stored_order_as_before : (last : ℕ) (order : List ℕ) → RuleZero order → read_order last order ≡ former_order (dose_up_to last) order
stored_order_as_before = former_order_lem

-- and every order that was read is read as the same order
pub what_was_read_is_read : (last : ℕ) (order : List ℕ) (o : Order) → former_order (dose_up_to last) order ≡ read o → read_order last order ≡ read o
what_was_read_is_read last order o q = former_order_lem last order (was_read (dose_up_to last) order o q) ∙ q

-- ---- "Newer inlet valves must rest 300 seconds between doses": a bay's inlet has the order's rest between two doses, in every plan

-- in a plan that stands, of any moments in slots of two doses of one bay
pub inlet_rests : (last : ℕ) (order : List ℕ) (o : Order) → read_order last order ≡ read o → (plan : List ℕ) → Stands o plan
    → (q x y i k : ℕ) (u : Slot) → i < length (slots_read (plan_records plan)) → k < length (slots_read (plan_records plan))
    → Covers q x (get_or (slots_read (plan_records plan)) i u) → Covers q y (get_or (slots_read (plan_records plan)) k u)
    → (get_or (slots_read (plan_records plan)) i u).dose ≢ (get_or (slots_read (plan_records plan)) k u).dose
    → (dose_at o (get_or (slots_read (plan_records plan)) i u).dose).bay ≡ (dose_at o (get_or (slots_read (plan_records plan)) k u).dose).bay
    → (x + o.rest * q < y) ⊎ (y + o.rest * q < x)
inlet_rests last order o e plan st = slots_rest o plan st (read_fits last order o e)

-- and in any plan at all, though the inlet rule does not name the rest: so 9 is refused for the top rate alone, as before
pub any_plan_rests : (last : ℕ) (order : List ℕ) (o : Order) → read_order last order ≡ read o → (f : FreePlan o)
    → (i k : ℕ) (u : FreeSlot) → i < length f.slots → k < length f.slots → (get_or f.slots i u).dose ≢ (get_or f.slots k u).dose
    → (dose_at o (get_or f.slots i u).dose).bay ≡ (dose_at o (get_or f.slots k u).dose).bay
    → ((get_or f.slots i u).end + f.q * o.rest ≤ (get_or f.slots k u).start) ⊎ ((get_or f.slots k u).end + f.q * o.rest ≤ (get_or f.slots i u).start)
any_plan_rests last order o e = free_slots_rest o (read_fits last order o e)
