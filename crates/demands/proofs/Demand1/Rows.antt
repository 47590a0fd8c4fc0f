-- The table of "What comes back" for each entry point: its rows, each with its number and place and with what comes before it passed.
use mathlib.Core.Logic.{◌↔◌, ◌≢◌}
use mathlib.Core.Path.{◌≡◌, ◌∙◌, ap, refl, sym}
use mathlib.Core.List.{List}
use Prim.Native.Nat.{ℕ, ◌≤◌, ◌<◌}
use lib.ListN.{length}
use Rattle.model.specs.Limits.{last_open_bay, most_bay, plan_room, week}
use Rattle.model.specs.Records.{read}
use Rattle.model.specs.Orders.{Order, read_order, dose_at}
use Rattle.model.specs.Intervals.{setting_of}
use Rattle.model.specs.Stands.{Stands}
use Rattle.model.specs.Log.{Logged, read_log}
use Rattle.model.specs.Answers.{Accepts, Answer, Drawn, Draws, Judges, Laid, Lays, Planned, Plans, Refuses, above, laid_by, line_of, refusal, too_fast, unread}
use Rattle.model.proofs.Given.{Given, given_exactly, bay, blank, kind, many_doses, not_one_fans, overlapping, range, wrong_length, wrong_record}
use Rattle.demands.proofs.Demand2.Refusing.{TooFast}
use Rattle.demands.proofs.Demand1.ByOrder.{OfOrder, order_accepted, order_refused}
use Rattle.model.proofs.Answers.{draws_one, judges_one, lays_one}
use Rattle.demands.proofs.Demand1.Agreeing.{plans_agree}
use Rattle.demands.proofs.Demand1.EveryCall.{accepted_planned}
use Rattle.demands.proofs.Log.Given.{LogGiven, ReadAs, laid_either, log_given_exactly, log_read_exactly}

-- ---- rows 2 to 8 and 15

-- their place is "else 0"
row_place : {last : ℕ} {order : List ℕ} {number place : ℕ} → Given last order number place → number ≢ 3 → number ≢ 4 → number ≢ 5 → number ≢ 8 → number ≢ 15 → place ≡ 0
row_place (wrong_length w) a b c d e = refl
row_place (wrong_record n i r (kind k)) a b c d e = absurd (a refl)
row_place (wrong_record n i r (blank k)) a b c d e = absurd (b refl)
row_place (wrong_record n i r (range k)) a b c d e = absurd (c refl)
row_place (wrong_record n i r (bay k)) a b c d e = absurd (e refl)
row_place (not_one_fans es g h) a b c d e = refl
row_place (many_doses es g one h) a b c d e = refl
row_place (overlapping es g one few i o none) a b c d e = absurd (d refl)

-- ---- the rows

-- of the order, 2 to 9, and 15 where a bay is closed
pub data OrderRow (last : ℕ) (order : List ℕ) : ℕ → ℕ → Type 0 where
  -- 2 to 8, and 15
  reading : (number place : ℕ) → Given last order number place → OrderRow last order number place
  -- 9 "first class: W × top seconds above P × top grams"
  top_rate : (o : Order) → read_order last order ≡ read o → TooFast o → OrderRow last order 9 0

-- of planning: "checks 1, 2, then record by record 3, 4, 5 in that order" and 15, "then 6, 7, 8, 9"
pub data PlanningRow (order before : List ℕ) : ℕ → ℕ → Type 0 where
  -- 1 "plan buffer under 47,392 bytes"
  small : length before < plan_room → PlanningRow order before 1 0
  -- 2 to 9, and 15
  by_order : plan_room ≤ length before → (number place : ℕ) → OrderRow last_open_bay order number place → PlanningRow order before number place
  -- 0 "done"
  planned : plan_room ≤ length before → (o : Order) → Accepts last_open_bay order o → PlanningRow order before 0 0

-- of judging: "2 to 9 in the same order, then 10"
pub data JudgingRow (order plan : List ℕ) : ℕ → ℕ → Type 0 where
  -- 2 to 9
  by_order : (number place : ℕ) → OrderRow most_bay order number place → JudgingRow order plan number place
  -- 10 "plan bytes don't stand"
  falls : (o : Order) → Accepts most_bay order o → (Stands o plan → ⊥) → JudgingRow order plan 10 0
  -- 0 "done"
  stands : (o : Order) → Accepts most_bay order o → Stands o plan → JudgingRow order plan 0 0

-- of drawing dose d at tick t: "2 to 9 in the same order, then 10, 11, 12"
pub data DrawingRow (order plan : List ℕ) (d t : ℕ) : ℕ → ℕ → Type 0 where
  -- 2 to 10
  by_judging : (number place : ℕ) → JudgingRow order plan number place → number ≢ 0 → DrawingRow order plan d t number place
  -- 11 "no such dose"
  no_such_dose : (o : Order) → Accepts most_bay order o → Stands o plan → (setting_of o).doses ≤ d → DrawingRow order plan d t 11 0
  -- 12 "tick over 604,800"
  too_late : (o : Order) → Accepts most_bay order o → Stands o plan → d < (setting_of o).doses → week < t → DrawingRow order plan d t 12 0
  -- 0 "done"
  drawn : (o : Order) → Accepts most_bay order o → Stands o plan → d < (setting_of o).doses → t ≤ week → DrawingRow order plan d t 0 0

-- of laying a log beside dose d's line: drawing's 2 to 11, "after 12's place, 13 .. then 14"
pub data LayingRow (order plan : List ℕ) (d : ℕ) (log : List ℕ) : ℕ → ℕ → Type 0 where
  -- 2 to 10
  by_judging : (number place : ℕ) → JudgingRow order plan number place → number ≢ 0 → LayingRow order plan d log number place
  -- 11 "no such dose"
  no_such_dose : (o : Order) → Accepts most_bay order o → Stands o plan → (setting_of o).doses ≤ d → LayingRow order plan d log 11 0
  -- 13 and 14
  bad_log : (o : Order) → Accepts most_bay order o → Stands o plan → d < (setting_of o).doses → (number place : ℕ) → LogGiven (dose_at o d).bay log number place
      → LayingRow order plan d log number place
  -- 0 "done"
  laid : (o : Order) → Accepts most_bay order o → Stands o plan → d < (setting_of o).doses → (records : List Logged) → ReadAs (dose_at o d).bay log records
      → LayingRow order plan d log 0 0

-- a number and place are the answer's exactly when their row says
abbrev pub GivenExactly : Answer → (ℕ → ℕ → Type 0) → Type 0
GivenExactly a Row = (number place : ℕ) → ((a.number ≡ number) × (a.place ≡ place)) ↔ Row number place

-- ---- the order's

order_row : {last : ℕ} {order : List ℕ} {a : Answer} → Refuses last order a → OrderRow last order a.number a.place
order_row {last} {order} (unread number place e) = reading number place ((given_exactly last order number place).0 e)
order_row (above o A e c t) = top_rate o e (record { set = A; first = c; too_fast = t })

row_refuses : {last : ℕ} {order : List ℕ} {number place : ℕ} → OrderRow last order number place → (a : Answer) × Refuses last order a × (a.number ≡ number) × (a.place ≡ place)
row_refuses {last} {order} (reading number place g) = (refusal number place, unread number place ((given_exactly last order number place).1 g), refl, refl)
row_refuses (top_rate o e f) = (too_fast o f.set, above o f.set e f.first f.too_fast, refl, refl)

-- an answer that has its row, and that any row's answer is
exactly : (a : Answer) (Row : ℕ → ℕ → Type 0) → Row a.number a.place
    → ((number place : ℕ) → Row number place → (b : Answer) × (b ≡ a) × (b.number ≡ number) × (b.place ≡ place)) → GivenExactly a Row
exactly a Row r f number place = (
  λ e. rw (e.0, e.1) at r,
  λ row. let b = f number place row in
      (ap (λ (x : Answer). x.number) (sym b.1) ∙ b.2, ap (λ (x : Answer). x.place) (sym b.1) ∙ b.3),
)

-- ---- planning

module _ {order before : List ℕ} where
  planning_row : {r : Planned} {after : List ℕ} → Plans order before r after → PlanningRow order before r.answer.number r.answer.place
  planning_row (Plans.no_room s) = small s
  planning_row (Plans.refuses w a q) = PlanningRow.by_order w _ _ (order_row q)
  planning_row (Plans.plans w o g p C c x v) = planned w o g

  -- what planning gives, and exactly when
  pub planning_given : {r : Planned} {after : List ℕ} → Plans order before r after → GivenExactly r.answer (PlanningRow order before)
  planning_given {r} h = exactly r.answer (PlanningRow order before) (planning_row h) (λ number place row. back row)
    where
      back : {number place : ℕ} → PlanningRow order before number place → (b : Answer) × (b ≡ r.answer) × (b.number ≡ number) × (b.place ≡ place)
      back (small s) = (refusal 1 0, (plans_agree (Plans.no_room s) h).answer, refl, refl)
      back (PlanningRow.by_order w number place row) =
          let b = row_refuses row in (b.0, (plans_agree (Plans.refuses w b.0 b.1) h).answer, b.2, b.3)
      back (planned w o g) =
          let b = accepted_planned order before w o g in
          (b.0.answer, (plans_agree b.2 h).answer, ap (λ (a : Answer). a.number) b.3, ap (λ (a : Answer). a.place) b.3)

-- ---- judging

module _ {order plan : List ℕ} where
  judging_row : {a : Answer} → Judges order plan a → JudgingRow order plan a.number a.place
  judging_row (Judges.refuses a q) = JudgingRow.by_order _ _ (order_row q)
  judging_row (Judges.falls o g h) = falls o g h
  judging_row (Judges.stands o g h) = stands o g h

  row_judges : {number place : ℕ} → JudgingRow order plan number place → (a : Answer) × Judges order plan a × (a.number ≡ number) × (a.place ≡ place)
  row_judges (JudgingRow.by_order number place row) = let b = row_refuses row in (b.0, Judges.refuses b.0 b.1, b.2, b.3)
  row_judges (falls o g h) = (_, Judges.falls o g h, refl, refl)
  row_judges (stands o g h) = (_, Judges.stands o g h, refl, refl)

  -- what judging gives, and exactly when
  pub judging_given : {a : Answer} → Judges order plan a → GivenExactly a (JudgingRow order plan)
  judging_given {a} h = exactly a (JudgingRow order plan) (judging_row h) (λ number place row. let b = row_judges row in (b.0, judges_one b.1 h, b.2, b.3))

  -- ---- drawing

  module _ {d t : ℕ} where
    drawing_row : {x : Drawn} → Draws order plan d t x → DrawingRow order plan d t x.answer.number x.answer.place
    drawing_row (Draws.refuses a j n) = by_judging _ _ (judging_row j) n
    drawing_row (Draws.no_such_dose o g h l) = no_such_dose o g h l
    drawing_row (Draws.too_late o g h l w) = too_late o g h l w
    drawing_row (Draws.draws o g h l w) = drawn o g h l w

    row_draws : {number place : ℕ} → DrawingRow order plan d t number place → (x : Drawn) × Draws order plan d t x × (x.answer.number ≡ number) × (x.answer.place ≡ place)
    row_draws (by_judging number place row n) =
        let b = row_judges row in (_, Draws.refuses b.0 b.1 (λ z. n (sym b.2 ∙ z)), b.2, b.3)
    row_draws (no_such_dose o g h l) = (_, Draws.no_such_dose o g h l, refl, refl)
    row_draws (too_late o g h l w) = (_, Draws.too_late o g h l w, refl, refl)
    row_draws (drawn o g h l w) = (_, Draws.draws o g h l w, refl, refl)

    -- what drawing gives, and exactly when
    pub drawing_given : {x : Drawn} → Draws order plan d t x → GivenExactly x.answer (DrawingRow order plan d t)
    drawing_given {x} h =
        exactly x.answer (DrawingRow order plan d t) (drawing_row h)
        (λ number place row. let b = row_draws row in (b.0.answer, ap (λ (y : Drawn). y.answer) (draws_one b.1 h), b.2, b.3))

  -- ---- a log beside the plan

  module _ {d : ℕ} {log : List ℕ} where
    laying_row : {x : Laid} → Lays order plan d log x → LayingRow order plan d log x.answer.number x.answer.place
    laying_row (Lays.refuses a j n) = LayingRow.by_judging _ _ (judging_row j) n
    laying_row (Lays.no_such_dose o g h l) = LayingRow.no_such_dose o g h l
    laying_row (Lays.lays o g h l) =
        laid_either (λ x. LayingRow order plan d log x.answer.number x.answer.place) (line_of plan d) (read_log (dose_at o d).bay log)
        (λ number place e. bad_log o g h l number place ((log_given_exactly (dose_at o d).bay log number place).0 e))
        (λ records e. laid o g h l records ((log_read_exactly (dose_at o d).bay log records).0 e))

    row_lays : {number place : ℕ} → LayingRow order plan d log number place
        → (x : Laid) × Lays order plan d log x × (x.answer.number ≡ number) × (x.answer.place ≡ place)
    unfolding laid_by
    row_lays (LayingRow.by_judging number place row n) =
        let b = row_judges row in (_, Lays.refuses b.0 b.1 (λ z. n (sym b.2 ∙ z)), b.2, b.3)
    row_lays (LayingRow.no_such_dose o g h l) = (_, Lays.no_such_dose o g h l, refl, refl)
    row_lays (bad_log o g h l number place row) = let e = (log_given_exactly (dose_at o d).bay log number place).1 row in (_, Lays.lays o g h l, rw e, rw e)
    row_lays (laid o g h l records r) = let e = (log_read_exactly (dose_at o d).bay log records).1 r in (_, Lays.lays o g h l, rw e, rw e)

    -- what laying a log gives, and exactly when
    pub laying_given : {x : Laid} → Lays order plan d log x → GivenExactly x.answer (LayingRow order plan d log)
    laying_given {x} h =
        exactly x.answer (LayingRow order plan d log) (laying_row h)
        (λ number place row. let b = row_lays row in (b.0.answer, ap (λ (y : Laid). y.answer) (lays_one b.1 h), b.2, b.3))

-- ---- "Fields not meant are 0"

-- place with 3, 4, 5, 8, 13, 14 and 15 alone; set, W and P with 9 alone
pub record OnlyMeant (a : Answer) : Type 0 where
  pub place : a.number ≢ 3 → a.number ≢ 4 → a.number ≢ 5 → a.number ≢ 8 → a.number ≢ 13 → a.number ≢ 14 → a.number ≢ 15 → a.place ≡ 0
  pub set : a.number ≢ 9 → a.set ≡ 0
  pub weight : a.number ≢ 9 → a.weight ≡ 0
  pub time : a.number ≢ 9 → a.time ≡ 0

no_place : (number : ℕ) → OnlyMeant (refusal number 0)
no_place number = record { place = λ a b c d e f g. refl; set = λ n. refl; weight = λ n. refl; time = λ n. refl }

refused_meant : {last : ℕ} {order : List ℕ} {a : Answer} → Refuses last order a → OnlyMeant a
refused_meant {last} {order} (unread number place e) =
    record { place = λ a b c d f g h. row_place ((given_exactly last order number place).0 e) a b c d h; set = λ n. refl; weight = λ n. refl; time = λ n. refl }
refused_meant (above o A e c t) =
    record { place = λ a b c d e f g. refl; set = λ n. absurd (n refl); weight = λ n. absurd (n refl); time = λ n. absurd (n refl) }

pub order_meant : {last : ℕ} {order : List ℕ} {a : Answer} → OfOrder last order a → OnlyMeant a
order_meant (order_refused a r) = refused_meant r
order_meant (order_accepted number place o g n p) =
    record { place = λ a b c d e f g. p e f; set = λ n. refl; weight = λ n. refl; time = λ n. refl }

pub planning_meant : {order before : List ℕ} {r : Planned} {after : List ℕ} → Plans order before r after → OnlyMeant r.answer
planning_meant (Plans.no_room s) = no_place 1
planning_meant (Plans.refuses w a q) = refused_meant q
planning_meant (Plans.plans w o g p C c x v) = no_place 0
