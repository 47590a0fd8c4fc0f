-- Demand 1, sentence by sentence: over the answers of planning, judging, drawing, the pen and laying a log, for any bytes, doses and ticks whatever. Assumes nothing.
pub mod ByOrder
pub mod Agreeing
pub mod Decided
pub mod EveryCall
pub mod Rows
use mathlib.Core.Logic.{◌≢◌, ◌⊎◌, inl, inr}
use mathlib.Core.Path.{◌∙◌, ◌≡◌, ap, refl}
use mathlib.Core.List.{List}
use Prim.Native.Nat.{ℕ, ◌+◌, ◌*◌, ◌≤◌, ◌<◌}
use native.Mathlib.Omega.{arith}
use borrow.Author.Tests.{ne_eqb}
use lib.ListN.{get_or, length, take}
use Rattle.model.specs.Limits.{last_open_bay}
use Rattle.model.specs.Records.{record_size}
use Rattle.model.specs.Sets.{Doses}
use Rattle.model.specs.Orders.{Order, dose_at}
use Rattle.model.specs.Classes.{Classes}
use Rattle.model.specs.Intervals.{fans_present, setting_of}
use Rattle.model.specs.Layout.{slots_of}
use Rattle.model.specs.Stands.{Stands}
use Rattle.model.specs.Line.{shut}
use Rattle.model.specs.Log.{no_figures, read_log}
use Rattle.model.specs.Answers.{Accepts, Answer, Drawn, Draws, Judges, Laid, Lays, Moves, Pen, Planned, Plans, line_of, no_point, not_laid, plan_bytes}
use Rattle.demands.proofs.Demand1.Agreeing.{Agree, laid_drawn, plans_agree}
use Rattle.demands.proofs.Demand1.ByOrder.{drawn_order, judged_order, laid_order}
use Rattle.model.proofs.Answers.{drawn_refused, draws_one, judges_one, lays_one, moves_one, pen_draws, pen_goes, plan_settled, refuses_number, refuses_open, refuses_some, same_slots}
use Rattle.demands.proofs.Demand1.EveryCall.{draws_some, judges_some, lays_some, moves_some, plans_some}
use Rattle.demands.proofs.Demand1.Rows.{DrawingRow, GivenExactly, JudgingRow, LayingRow, OnlyMeant, PlanningRow, drawing_given, judging_given, laying_given, order_meant, planning_given, planning_meant}
use Rattle.demands.proofs.Demand2.Planning.{kept, plan_in_front}
use Rattle.demands.proofs.Log.Given.{laid_either, log_number}

-- ---- "Every order, plan, dose number and second gets an answer; the caller checks nothing beforehand."

-- planning any order into any buffer
pub planning_answers : (order before : List ℕ) → (r : Planned) × (after : List ℕ) × Plans order before r after
planning_answers = plans_some

-- judging any plan for any order
pub judging_answers : (order plan : List ℕ) → (a : Answer) × Judges order plan a
judging_answers = judges_some

-- drawing any dose number at any second
pub drawing_answers : (order plan : List ℕ) (d t : ℕ) → (x : Drawn) × Draws order plan d t x
drawing_answers = draws_some

-- moving any pen
pub pen_answers : (order plan : List ℕ) (pen : Pen) → (x : Drawn) × (to : Pen) × Moves order plan pen x to
pen_answers = moves_some

-- laying any log beside any dose number's line
pub laying_answers : (order plan : List ℕ) (d : ℕ) (log : List ℕ) → (x : Laid) × Lays order plan d log x
laying_answers = lays_some

-- ---- one answer: "Equality of any two answers allowed by a promise is proved; the shares are the listed exception."

-- one verdict
pub one_verdict : {order plan : List ℕ} {a b : Answer} → Judges order plan a → Judges order plan b → a ≡ b
one_verdict = judges_one

-- one point
pub one_point : {order plan : List ℕ} {d t : ℕ} {x y : Drawn} → Draws order plan d t x → Draws order plan d t y → x ≡ y
one_point = draws_one

-- one move of the pen
pub one_move : {order plan : List ℕ} {pen : Pen} {x y : Drawn} {to to' : Pen} → Moves order plan pen x to → Moves order plan pen y to' → (x ≡ y) × (to ≡ to')
one_move = moves_one

-- one answer to a log
pub one_laying : {order plan : List ℕ} {d : ℕ} {log : List ℕ} {x y : Laid} → Lays order plan d log x → Lays order plan d log y → x ≡ y
one_laying = lays_one

-- one answer of planning: number, place, set, W, P, the count of classes and their records; and the whole buffer where it is refused
pub one_plan : {order before : List ℕ} {r r' : Planned} {after after' : List ℕ} → Plans order before r after → Plans order before r' after'
    → Agree before r r' after after'
one_plan = plans_agree

-- and where the shares are the same, one count of slots and one plan, byte for byte
pub one_plan_of_the_shares : (o : Order) (p : ℕ) (C C' : ℕ → Doses) → Classes (setting_of o) (fans_present o) p C → Classes (setting_of o) (fans_present o) p C'
    → (x x' : ℕ → ℕ → ℕ → ℕ) → ((i k j : ℕ) → i < p → k < (setting_of o).doses → j < (setting_of o).intervals → x i k j ≡ x' i k j)
    → (length (slots_of o p C x) ≡ length (slots_of o p C' x')) × (plan_bytes o p C x ≡ plan_bytes o p C' x')
one_plan_of_the_shares o p C C' c c' x x' same = (ap length (same_slots o p C C' c c' x x' same), plan_settled o p C C' c c' x x' same)

-- ---- "A refusal is one of the numbered ones": of planning 1 to 9 and 15, of judging 2 to 10, of drawing and the pen 2 to 12, of laying a log 2 to 11, 13 and 14

-- planning answers 0 to 9, or 15
pub planning_numbers : {order before : List ℕ} {r : Planned} {after : List ℕ} → Plans order before r after → (r.answer.number ≤ 9) ⊎ (r.answer.number ≡ 15)
planning_numbers (Plans.no_room s) = inl (omega arith)
planning_numbers (Plans.refuses w a q) = elim (refuses_number q) [ inl n ↦ inl n.1 | inr c ↦ inr c.0 ]
planning_numbers (Plans.plans w o g p C c x v) = inl (omega arith)

-- judging answers 0, or 2 to 10
pub judging_numbers : {order plan : List ℕ} {a : Answer} → Judges order plan a → (a.number ≡ 0) ⊎ ((2 ≤ a.number) × (a.number ≤ 10))
judging_numbers (Judges.refuses a q) = let n = refuses_open q in inr (n.0, omega (arith, n))
judging_numbers (Judges.falls o g h) = inr (omega arith, omega arith)
judging_numbers (Judges.stands o g h) = inl refl

-- drawing answers 0, or 2 to 12
pub drawing_numbers : {order plan : List ℕ} {d t : ℕ} {x : Drawn} → Draws order plan d t x
    → (x.answer.number ≡ 0) ⊎ ((2 ≤ x.answer.number) × (x.answer.number ≤ 12))
drawing_numbers (Draws.refuses a j n) = elim (judging_numbers j) [ inl z ↦ inl z | inr m ↦ inr (m.0, omega (arith, m)) ]
drawing_numbers (Draws.no_such_dose o g h l) = inr (omega arith, omega arith)
drawing_numbers (Draws.too_late o g h l w) = inr (omega arith, omega arith)
drawing_numbers (Draws.draws o g h l w) = inl refl

-- and so does the pen
pub pen_numbers : {order plan : List ℕ} {pen : Pen} {x : Drawn} {to : Pen} → Moves order plan pen x to
    → (x.answer.number ≡ 0) ⊎ ((2 ≤ x.answer.number) × (x.answer.number ≤ 12))
pen_numbers h = drawing_numbers (pen_draws h)

-- laying a log answers 0, or 2 to 11, or 13 or 14
abbrev pub LayingNumber : ℕ → Type 0
LayingNumber number = (number ≡ 0) ⊎ (((2 ≤ number) × (number ≤ 11)) ⊎ ((number ≡ 13) ⊎ (number ≡ 14)))

pub laying_numbers : {order plan : List ℕ} {d : ℕ} {log : List ℕ} {x : Laid} → Lays order plan d log x → LayingNumber x.answer.number
laying_numbers (Lays.refuses a j n) = elim (judging_numbers j) [ inl z ↦ inl z | inr m ↦ inr (inl (m.0, omega (arith, m))) ]
laying_numbers (Lays.no_such_dose o g h l) = inr (inl (omega arith, omega arith))
laying_numbers {plan = plan} {d = d} {log = log} (Lays.lays o g h l) =
    laid_either (λ x. LayingNumber x.answer.number) (line_of plan d) (read_log (dose_at o d).bay log)
    (λ number place e. inr (inr (log_number (dose_at o d).bay log number place e))) (λ records e. inl refl)

-- by 2 to 11 exactly where drawing at any tick is refused by one of them, and with the same answer
pub laying_as_drawing : {order plan : List ℕ} {d t : ℕ} {log : List ℕ} {x : Laid} {y : Drawn} → Lays order plan d log x → Draws order plan d t y
    → (2 ≤ x.answer.number → x.answer.number ≤ 11 → y ≡ no_point x.answer) × (2 ≤ y.answer.number → y.answer.number ≤ 11 → x ≡ not_laid y.answer)
laying_as_drawing {t = t} h k = (λ low high. draws_one k (laid_drawn h low high t), λ low high. lays_one h (drawn_refused k (omega arith) (omega arith)))

-- ---- "given exactly when": the answer has a number and a place exactly when their row of the table says

-- planning, rows 0 to 9 and 15
pub planning_exactly : {order before : List ℕ} {r : Planned} {after : List ℕ} → Plans order before r after → GivenExactly r.answer (PlanningRow order before)
planning_exactly = planning_given

-- judging, rows 0 and 2 to 10
pub judging_exactly : {order plan : List ℕ} {a : Answer} → Judges order plan a → GivenExactly a (JudgingRow order plan)
judging_exactly = judging_given

-- drawing, rows 0 and 2 to 12
pub drawing_exactly : {order plan : List ℕ} {d t : ℕ} {x : Drawn} → Draws order plan d t x → GivenExactly x.answer (DrawingRow order plan d t)
drawing_exactly = drawing_given

-- the pen, as a drawing at its next tick: 12 where the pen is "already at or past 604,800"
pub pen_exactly : {order plan : List ℕ} {pen : Pen} {x : Drawn} {to : Pen} → Moves order plan pen x to
    → GivenExactly x.answer (DrawingRow order plan pen.dose (pen.tick + 1))
pen_exactly h = drawing_given (pen_draws h)

-- laying a log, rows 0, 2 to 11, 13 and 14
pub laying_exactly : {order plan : List ℕ} {d : ℕ} {log : List ℕ} {x : Laid} → Lays order plan d log x → GivenExactly x.answer (LayingRow order plan d log)
laying_exactly = laying_given

-- ---- "Fields not meant are 0, and a state not meant is Shut."

-- planning: place, set, W and P; and the counts, which only success has
pub planning_fields : {order before : List ℕ} {r : Planned} {after : List ℕ} → Plans order before r after
    → OnlyMeant r.answer × (r.answer.number ≢ 0 → (r.classes ≡ 0) × (r.slots ≡ 0))
planning_fields h = (planning_meant h, counts h)
  where
    counts : {order before : List ℕ} {r : Planned} {after : List ℕ} → Plans order before r after → r.answer.number ≢ 0 → (r.classes ≡ 0) × (r.slots ≡ 0)
    counts (Plans.no_room s) n = (refl, refl)
    counts (Plans.refuses w a q) n = (refl, refl)
    counts (Plans.plans w o g p C c x v) n = absurd (n refl)

-- judging: place, set, W and P
pub judging_fields : {order plan : List ℕ} {a : Answer} → Judges order plan a → OnlyMeant a
judging_fields h = order_meant (judged_order h)

-- drawing: these, and the point
pub drawing_fields : {order plan : List ℕ} {d t : ℕ} {x : Drawn} → Draws order plan d t x
    → OnlyMeant x.answer × (x.answer.number ≢ 0 → (x.point.amount ≡ 0) × (x.point.state ≡ shut))
drawing_fields h = (order_meant (drawn_order h), point h)
  where
    point : {order plan : List ℕ} {d t : ℕ} {x : Drawn} → Draws order plan d t x → x.answer.number ≢ 0 → (x.point.amount ≡ 0) × (x.point.state ≡ shut)
    point (Draws.refuses a j n) z = (refl, refl)
    point (Draws.no_such_dose o g h l) z = (refl, refl)
    point (Draws.too_late o g h l w) z = (refl, refl)
    point (Draws.draws o g h l w) z = absurd (z refl)

-- the pen's answer: as drawing's
pub pen_fields : {order plan : List ℕ} {pen : Pen} {x : Drawn} {to : Pen} → Moves order plan pen x to
    → OnlyMeant x.answer × (x.answer.number ≢ 0 → (x.point.amount ≡ 0) × (x.point.state ≡ shut))
pen_fields h = drawing_fields (pen_draws h)

-- laying a log: place, set, W and P; and the three figures, which only success has
pub laying_fields : {order plan : List ℕ} {d : ℕ} {log : List ℕ} {x : Laid} → Lays order plan d log x
    → OnlyMeant x.answer × (x.answer.number ≢ 0 → x.figures ≡ no_figures)
laying_fields h = (order_meant (laid_order h), none h)
  where
    none : {order plan : List ℕ} {d : ℕ} {log : List ℕ} {x : Laid} → Lays order plan d log x → x.answer.number ≢ 0 → x.figures ≡ no_figures
    none (Lays.refuses a j n) = λ z. refl
    none (Lays.no_such_dose o g h l) = λ z. refl
    none {plan = plan} {d = d} {log = log} (Lays.lays o g h l) =
        laid_either (λ x. x.answer.number ≢ 0 → x.figures ≡ no_figures) (line_of plan d) (read_log (dose_at o d).bay log) (λ number place e z. refl) (λ records e z. absurd (z refl))

-- ---- "and lent memory is then untouched": "A refusal changes no byte and no pen; success changes only the plan's own records." Planning is lent its
-- buffer and the pen itself; judging, drawing and laying a log are lent nothing that an answer could change.

-- a refusal changes no byte
pub refusal_changes_no_byte : {order before : List ℕ} {r : Planned} {after : List ℕ} → Plans order before r after → r.answer.number ≢ 0 → after ≡ before
refusal_changes_no_byte (Plans.no_room s) n = refl
refusal_changes_no_byte (Plans.refuses w a q) n = refl
refusal_changes_no_byte (Plans.plans w o g p C c x v) n = absurd (n refl)

-- and no pen
pub refusal_changes_no_pen : {order plan : List ℕ} {pen : Pen} {x : Drawn} {to : Pen} → Moves order plan pen x to → x.answer.number ≢ 0 → to ≡ pen
refusal_changes_no_pen {x = x} h n = pen_goes h ∙ rw (ne_eqb x.answer.number 0 n)

-- success changes only the plan's own records: the buffer is as long as before, and every byte from the last record's end on is as it was
pub success_changes_its_records : {order before : List ℕ} {r : Planned} {after : List ℕ} → Plans order before r after
    → (length after ≡ length before) × ((i : ℕ) → record_size * (r.classes + r.slots) ≤ i → get_or after i 0 ≡ get_or before i 0)
success_changes_its_records h = let k = kept h in (k.as_long, k.behind)

-- which are the plan
pub success_leaves_the_plan : {order before : List ℕ} {r : Planned} {after : List ℕ} → Plans order before r after → r.answer.number ≡ 0
    → (o : Order) × Accepts last_open_bay order o × Stands o (take (record_size * (r.classes + r.slots)) after)
success_leaves_the_plan (Plans.no_room s) z = absurd (omega arith)
success_leaves_the_plan (Plans.refuses w a q) z = absurd (refuses_some q z)
success_leaves_the_plan {order} {before} {r} {after} (Plans.plans w o g p C c x v) z =
    (o, g, plan_in_front order before o g w r after (Plans.plans w o g p C c x v))

-- and moves the pen by one tick
pub success_moves_the_pen : {order plan : List ℕ} {pen : Pen} {x : Drawn} {to : Pen} → Moves order plan pen x to → x.answer.number ≡ 0
    → to ≡ record { dose = pen.dose; tick = pen.tick + 1 }
success_moves_the_pen h z = pen_goes h ∙ rw z
