-- The table of orders with trial bays: a row that passes the computed test is right by the definitions, and every row passes. Assumes nothing.
use mathlib.Core.Bool.{Bool}
use mathlib.Core.Path.{◌≡◌}
use lib.Dec.{T, eqb, eqb→eq}
use Rattle.model.specs.Limits.{last_open_bay, most_bay}
use Rattle.model.specs.Lists.{All}
use Rattle.model.specs.Records.{Reading, refused}
use Rattle.model.specs.Orders.{Order, read_order}
use Rattle.model.specs.Answers.{refusal, unread}
use Rattle.model.specs.CaseTests.{reading_test}
use Rattle.model.specs.TrialCases.{TrialCase, TrialRight, closed_test, trial_cases, trial_test, trial_cases_pass}
use Rattle.model.proofs.Sets.{and_left, and_right}
use Rattle.demands.proofs.Cases.{judging_right, refused_planning}
use Rattle.demands.proofs.Cases.Laws.{all_in_lem}

-- a row that passes is right
pub trial_row_right : (c : TrialCase) → T (trial_test c) → TrialRight c
unfolding trial_test closed_test
trial_row_right c t = record {
  planning = refused_planning c.old.order (refusal 15 c.place) (unread 15 c.place (is_closed (read_order last_open_bay c.old.order) (and_left new old t)));
  judging = judging_right c.old (and_right new old t);
}
  where
    new : Bool
    new = closed_test c.place (read_order last_open_bay c.old.order)

    old : Bool
    old = reading_test c.old (read_order most_bay c.old.order)

    is_closed : (x : Reading Order) → T (closed_test c.place x) → x ≡ refused 15 c.place
    is_closed (Rattle.model.specs.Records.read _) u = elim u [ ]
    is_closed (refused number place) u =
        let n = eqb→eq number 15 (and_left (eqb number 15) (eqb place c.place) u) in
        let p = eqb→eq place c.place (and_right (eqb number 15) (eqb place c.place) u) in
        rw (n, p)

-- all rows
pub trial_cases_right : All TrialRight trial_cases
trial_cases_right = all_in_lem TrialRight trial_test trial_row_right trial_cases trial_cases_pass
