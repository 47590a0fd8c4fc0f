-- A row of the table of logs that passes its test is right. Assumes nothing.
use mathlib.Core.Bool.{Bool, true, false, ◌&&◌}
use mathlib.Core.List.{List}
use mathlib.Core.Path.{◌≡◌, refl}
use Prim.Native.Nat.{ℕ, ◌-◌}
use borrow.Author.Tests.{eqb-false, eqb-true, leb-false, leb-true}
use lib.Dec.{T, eqb, eqb→eq, leb, ltb, ltb→lt}
use lib.ListN.{length}
use Rattle.model.specs.Limits.{most_bay}
use Rattle.model.specs.Lists.{All}
use Rattle.model.specs.Records.{pick}
use Rattle.model.specs.Orders.{Order, dose_at, read_order}
use Rattle.model.specs.Intervals.{setting_of}
use Rattle.model.specs.Stands.{Stands}
use Rattle.model.specs.Log.{read_log}
use Rattle.model.specs.Answers.{Accepts, Laid, Lays, laid_by, line_of, not_laid, refusal}
use Rattle.model.specs.Cases.{Right, case_plan, cases, one_fan}
use Rattle.model.specs.CaseTests.{same_answer}
use Rattle.model.specs.LogCases.{LogCase, LogRight, bench_case, laid_of, laid_test, log_cases_pass, log_cases, log_test, same_laid}
use Rattle.model.proofs.Answers.{judged_zero, lays_one}
use Rattle.model.proofs.Lists.{All-at}
use Rattle.model.proofs.Orders.{three}
use Rattle.model.proofs.Sets.{and_left, and_right}
use Rattle.demands.proofs.Cases.{cases_right}
use Rattle.demands.proofs.Cases.Laws.{all_in_lem, same_answer_lem}

same_laid_lem : (a b : Laid) → T (same_laid a b) → a ≡ b
unfolding same_laid
same_laid_lem a b t =
    let m = eqb a.figures.metered b.figures.metered in
    let r = eqb a.figures.risen b.figures.risen in
    let u = eqb a.figures.unknown b.figures.unknown in
    let f = three m r u (and_right (same_answer a.answer b.answer) (m && r && u) t) in
    let answer = same_answer_lem a.answer b.answer (and_left (same_answer a.answer b.answer) (m && r && u) t) in
    let metered = eqb→eq a.figures.metered b.figures.metered f.0 in
    let risen = eqb→eq a.figures.risen b.figures.risen f.1 in
    let unknown = eqb→eq a.figures.unknown b.figures.unknown f.2 in
    λ i. record { answer = answer i; figures = record { metered = metered i; risen = risen i; unknown = unknown i } }

-- what is laid then, by its definition
laid_so : (order plan : List ℕ) (o : Order) → Accepts most_bay order o → Stands o plan → (d : ℕ) (log : List ℕ) → Lays order plan d log (laid_of o plan d log)
unfolding laid_of
laid_so order plan o g h d log = dose (leb (setting_of o).doses d) refl
  where
    dose : (b : Bool) → leb (setting_of o).doses d ≡ b
        → Lays order plan d log (pick b (not_laid (refusal 11 0)) (laid_by (line_of plan d) (read_log (dose_at o d).bay log)))
    dose true e = Lays.no_such_dose o g h (leb-true _ _ e)
    dose false e = Lays.lays o g h (leb-false _ _ e)

-- a row that passes is right
pub log_row_right : (c : LogCase) → T (log_test c) → LogRight c
unfolding log_test laid_test
log_row_right c t = record { lays = lays; only = λ x h. lays_one h lays }
  where
    bench : Right (bench_case c)
    bench = All-at (one_fan 1000 1) cases_right (c.row - 1) (ltb→lt (c.row - 1) (length cases) (and_left (ltb (c.row - 1) (length cases)) _ t))

    by_order : (o : Order) → Accepts most_bay (bench_case c).order o → Stands o (case_plan (bench_case c)) → T (laid_test c (read_order most_bay (bench_case c).order))
        → Lays (bench_case c).order (case_plan (bench_case c)) c.dose c.log c.laid
    by_order o g h u =
        let same = same_laid_lem (laid_of o (case_plan (bench_case c)) c.dose c.log) c.laid (rw g.reads at u) in
        rw (← same) (laid_so (bench_case c).order (case_plan (bench_case c)) o g h c.dose c.log)

    by_number : (b : Bool) → eqb (bench_case c).answer.number 0 ≡ b
        → T (pick b (laid_test c (read_order most_bay (bench_case c).order)) (same_laid (not_laid (bench_case c).answer) c.laid))
        → Lays (bench_case c).order (case_plan (bench_case c)) c.dose c.log c.laid
    by_number true e u = let s = judged_zero bench.judging.judged (eqb-true _ _ e) in by_order s.0 s.1 s.2 u
    by_number false e u =
        let same = same_laid_lem (not_laid (bench_case c).answer) c.laid u in
        rw (← same) (Lays.refuses (bench_case c).answer bench.judging.judged (eqb-false _ _ e))

    lays : Lays (bench_case c).order (case_plan (bench_case c)) c.dose c.log c.laid
    lays = by_number (eqb (bench_case c).answer.number 0) refl (and_right (ltb (c.row - 1) (length cases)) _ t)

-- all rows
pub log_cases_right : All LogRight log_cases
log_cases_right = all_in_lem LogRight log_test log_row_right log_cases log_cases_pass
