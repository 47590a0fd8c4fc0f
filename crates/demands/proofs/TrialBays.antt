-- Trial bays (document 02, C-14), sentence by sentence: "New orders that name them are not planned. Old orders and their plans are still judged, drawn
-- and replayed"; "15, in planning only, in 5's place for that record after 5 itself, with the record's place". Assumes nothing.
pub mod Readings
pub mod Cases
use mathlib.Core.Logic.{◌↔◌, ◌≢◌, inl, inr}
use mathlib.Core.Path.{◌≡◌, refl}
use mathlib.Core.List.{List}
use Prim.Native.Nat.{ℕ, ◌+◌, ◌*◌, ◌/◌, ◌≤◌, ◌<◌}
use native.Mathlib.Omega.{arith}
use lib.Dec.{T}
use lib.ListN.{get_or, length, take}
use Rattle.model.specs.Limits.{last_open_bay, most_bay, plan_room}
use Rattle.model.specs.Records.{read, refused, record_size, dose_kind, dose_parts, blank_at, record_at}
use Rattle.model.specs.Orders.{Order, dose_at, dose_of, dose_fits, entry_of, read_order}
use Rattle.model.specs.Stands.{Stands}
use Rattle.model.specs.Answers.{Accepts, Answer, Drawn, Draws, Judges, Laid, Lays, Moves, Pen, Planned, Plans, above, done, unread}
use Rattle.model.proofs.Given.{ClosedBay, Given, OutOfRange, Reached, RecordRow, Sized, bay, blank, kind, many_doses, not_one_fans, overlapping, range, record_exactly, wrong_length, wrong_record}
use Rattle.model.proofs.Orders.{bay_most}
use Rattle.demands.proofs.Demand1.{drawing_numbers, judging_numbers, laying_numbers, pen_numbers, planning_exactly, success_leaves_the_plan}
use Rattle.demands.proofs.Demand1.Rows.{PlanningRow, planned, reading, small, top_rate}
use Rattle.demands.proofs.Demand2.{plan_exists}
use Rattle.demands.proofs.Former.{RuleZero, former_dose, former_order, document_01_order}
use Rattle.demands.proofs.TrialBays.Readings.{read_exactly, reads_later, refused_later}

-- ---- an order that planning reads is read by judging as the same order

pub reads_as_judging : (order : List ℕ) (o : Order) → read_order last_open_bay order ≡ read o → read_order most_bay order ≡ read o
reads_as_judging = reads_later last_open_bay most_bay (omega arith)

-- one that planning accepts is accepted there too
pub accepts_as_judging : (order : List ℕ) (o : Order) → Accepts last_open_bay order o → Accepts most_bay order o
accepts_as_judging order o a = record { reads = reads_as_judging order o a.reads; slow = a.slow }

-- so that the plan which planning leaves is judged 0
pub planned_judged : {order before : List ℕ} {r : Planned} {after : List ℕ} → Plans order before r after → r.answer.number ≡ 0
    → Judges order (take (record_size * (r.classes + r.slots)) after) done
planned_judged {order} h z = let s = success_leaves_the_plan h z in Judges.stands s.0 (accepts_as_judging order s.0 s.1) s.2

-- and every refusal of planning but 1 and 15 is judging's, whatever the plan
pub refused_as_judging : {order before : List ℕ} {r : Planned} {after : List ℕ} → Plans order before r after
    → r.answer.number ≢ 0 → r.answer.number ≢ 1 → r.answer.number ≢ 15 → (plan : List ℕ) → Judges order plan r.answer
refused_as_judging (Plans.no_room s) z one fifteen plan = absurd (one refl)
refused_as_judging {order} (Plans.refuses w a (unread number place e)) z one fifteen plan =
    Judges.refuses a (unread number place (refused_later last_open_bay most_bay (omega arith) order number place e fifteen))
refused_as_judging {order} (Plans.refuses w a (above o A e first t)) z one fifteen plan = Judges.refuses a (above o A (reads_as_judging order o e) first t)
refused_as_judging (Plans.plans w o g p C c x v) z one fifteen plan = absurd (z refl)

-- ---- 15 comes exactly if the first fault, in planning's sequence, is a trial bay

-- a D with no other fault: no byte that must be zero and isn't, no field out of range; and its bay is "900 to 999"
pub record TrialBay (r : List ℕ) : Type 0 where
  pub is_dose : get_or r 0 0 ≡ dose_kind
  pub blank : T (blank_at dose_parts r 0)
  pub fits : T (dose_fits (dose_of r))
  pub trial : (last_open_bay < (dose_of r).bay) × ((dose_of r).bay ≤ most_bay)

-- record i has one, and nothing comes before it: 2 is passed, and all earlier records are read, so that none has 3, 4, 5 or 15
pub record FirstTrial (order : List ℕ) (i : ℕ) : Type 0 where
  pub reached : Reached last_open_bay order i
  pub trial : TrialBay (record_at order i)

closed_trial : {r : List ℕ} → ClosedBay last_open_bay r → TrialBay r
closed_trial {r} c = record { is_dose = c.is_dose; blank = c.blank; fits = c.fits; trial = (c.closed, bay_most (dose_of r) c.fits) }

trial_closed : {r : List ℕ} → TrialBay r → ClosedBay last_open_bay r
trial_closed t = record { is_dose = t.is_dose; blank = t.blank; fits = t.fits; closed = t.trial.0 }

-- with the index of that record, whatever comes behind it; 1 alone comes before
pub fifteen_exactly : {order before : List ℕ} {r : Planned} {after : List ℕ} → Plans order before r after → (i : ℕ)
    → ((r.answer.number ≡ 15) × (r.answer.place ≡ i)) ↔ ((plan_room ≤ length before) × FirstTrial order i)
fifteen_exactly {order} {before} h i = (
  λ e. of_row ((planning_exactly h 15 i).0 e) refl,
  λ t. (planning_exactly h 15 i).1 (PlanningRow.by_order t.0 15 i (reading 15 i (wrong_record 15 i t.1.reached (bay (trial_closed t.1.trial))))),
)
  where
    of_record : {r : List ℕ} {number : ℕ} → RecordRow last_open_bay r number → number ≡ 15 → TrialBay r
    of_record (kind k) e = absurd (omega arith)
    of_record (blank b) e = absurd (omega arith)
    of_record (range f) e = absurd (omega arith)
    of_record (bay c) e = closed_trial c

    of_order : {number place : ℕ} → Given last_open_bay order number place → number ≡ 15 → FirstTrial order place
    of_order (wrong_length w) e = absurd (omega arith)
    of_order (wrong_record n k reached row) e = record { reached = reached; trial = of_record row e }
    of_order (not_one_fans es g f) e = absurd (omega arith)
    of_order (many_doses es g one m) e = absurd (omega arith)
    of_order (overlapping es g one few k o none) e = absurd (omega arith)

    of_row : {number place : ℕ} → PlanningRow order before number place → number ≡ 15 → (plan_room ≤ length before) × FirstTrial order place
    of_row (small s) e = absurd (omega arith)
    of_row (PlanningRow.by_order w n k (reading n' k' g)) e = (w, of_order g e)
    of_row (PlanningRow.by_order w n k (top_rate o f t)) e = absurd (omega arith)
    of_row (planned w o g) e = absurd (omega arith)

-- what comes behind that record is hidden: an order with the same records up to it is refused alike, whatever the others are
pub hides_what_follows : (order other : List ℕ) (i : ℕ) → FirstTrial order i → Sized other → i < length other / record_size
    → ((k : ℕ) → k ≤ i → record_at other k ≡ record_at order k) → FirstTrial other i
hides_what_follows order other i t sized there same = record {
  reached = record { sized = sized; there = there; earlier = λ k l. let e = t.reached.earlier k l in (e.0, rw (same k (omega arith)) e.1) };
  trial = rw (same i (omega arith)) t.trial;
}

-- a record with a field out of range is 5, also if its bay is a trial bay
pub out_of_range_first : (r : List ℕ) (i : ℕ) → OutOfRange r → entry_of last_open_bay r i ≡ refused 5 i
out_of_range_first r i f = (record_exactly last_open_bay r i 5 i).1 (range f, refl)

-- "in planning only"
pub judging_never : {order plan : List ℕ} {a : Answer} → Judges order plan a → a.number ≢ 15
judging_never h e = elim (judging_numbers h) [ inl z ↦ omega arith | inr n ↦ omega (arith, n) ]

pub drawing_never : {order plan : List ℕ} {d t : ℕ} {x : Drawn} → Draws order plan d t x → x.answer.number ≢ 15
drawing_never h e = elim (drawing_numbers h) [ inl z ↦ omega arith | inr n ↦ omega (arith, n) ]

pub pen_never : {order plan : List ℕ} {pen : Pen} {x : Drawn} {to : Pen} → Moves order plan pen x to → x.answer.number ≢ 15
pen_never h e = elim (pen_numbers h) [ inl z ↦ omega arith | inr n ↦ omega (arith, n) ]

pub laying_never : {order plan : List ℕ} {d : ℕ} {log : List ℕ} {x : Laid} → Lays order plan d log x → x.answer.number ≢ 15
laying_never h e = elim (laying_numbers h) [
  | inl z ↦ omega arith
  | inr n ↦ elim n [ inl m ↦ omega (arith, m) | inr m ↦ elim m [ inl a ↦ omega arith | inr b ↦ omega arith ] ]
]

-- ---- an old order is read as it was before trial bays were closed

-- by 2, then record by record 3, 4, 5, then 6, 7, 8; in its F byte 2 is zero
pub old_order_as_before : (order : List ℕ) → RuleZero order → read_order most_bay order ≡ former_order former_dose order
old_order_as_before = document_01_order

-- and where it is accepted it has a plan that stands, trial bays or not: demands 2 and 3 speak of every order that judging reads
pub old_order_has_a_plan : (order : List ℕ) (o : Order) → Accepts most_bay order o → (plan : List ℕ) × Stands o plan × Judges order plan done
old_order_has_a_plan order o a = let p = plan_exists order o a in (p.0, p.1, Judges.stands o a p.1)

-- ---- and among the orders that judging accepts, planning accepts exactly those of which no dose has a trial bay

pub planned_exactly : (order : List ℕ) (o : Order) → Accepts most_bay order o
    → Accepts last_open_bay order o ↔ ((k : ℕ) → k < length o.doses → (dose_at o k).bay ≤ last_open_bay)
planned_exactly order o a =
    let exactly = read_exactly last_open_bay most_bay (omega arith) order o a.reads in
    (λ g. exactly.0 g.reads, λ h. record { reads = exactly.1 h; slow = a.slow })
