-- `all_pass` meets its contract: each test asks for one clause; that slots can be held against each other rests on earlier ones (Clauses).
use Rattle.std.proofs.Common.{rules}
use Rattle.judge_clauses.specs.Tests.{order_held}
use Rattle.judge_clauses.proofs.Tell.{tells_by}
use Rattle.judge.proofs.Clauses.{ready_of}
use Rattle.judge.proofs.all_pass.Goals as goal
use Rattle.judge.proofs.all_pass.Goals.{else-all_in_turn, else-classes_fit, else-rows_pass, else-slots_fit}
use Rattle.judge.proofs.all_pass.Goals.{then-all_in_turn, then-classes_fit, then-rows_pass, then-slots_fit}

pub all_clear-requires : goal.all_clear-requires
all_clear-requires c =
    let A = c.args in
    elim c.if-classes_fit.branch [
      | then-classes_fit v ↦ elim c.if-slots_fit.branch [
        | then-slots_fit w ↦
            (c.requires.2, ready_of (order_held A.o.now A.instants.now) A.plan.now A.certificate.now.classes A.certificate.now.numbers (v.slots_fit.ensures.yes (cc)) (w.all_in_turn.ensures.yes (cc)))
        | else-slots_fit w ↦ search rules
      ]
      | else-classes_fit v ↦ search rules
    ]

pub returns-then-all_clear : goal.returns-then-all_clear
returns-then-all_clear c =
    elim c.if-rows_pass.branch [
      | then-rows_pass r ↦ elim c.if-classes_fit.branch [
        | then-classes_fit v ↦ elim c.if-slots_fit.branch [
          | then-slots_fit w ↦ elim c.if-all_in_turn.branch [
            | then-all_in_turn t ↦
                tells_by c.units_met.ensures
                (λ totals. record {
                  rows = c.rows_pass.ensures.yes r.if-rows_pass.true;
                  classes = r.classes_fit.ensures.yes (cc);
                  slots = v.slots_fit.ensures.yes (cc);
                  turns = w.all_in_turn.ensures.yes (cc);
                  apart = t.all_clear.ensures.yes (cc);
                  totals = totals;
                })
                (λ h. h.totals)
            | else-all_in_turn t ↦ search rules
          ]
          | else-slots_fit w ↦ search rules
        ]
        | else-classes_fit v ↦ search rules
      ]
      | else-rows_pass r ↦ search rules
    ]
