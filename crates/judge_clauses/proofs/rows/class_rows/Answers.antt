-- `class_rows` meets its contract: every record of the range has a C's kind and zeros (Ranges).
use Rattle.std.proofs.Common.{rules}
use native.Mathlib.Omega.{arith}
use Rattle.model.specs.Records.{record_at}
use Rattle.judge_clauses.specs.Tests.{ClassRow}
use Rattle.judge_clauses.proofs.Ranges.{tells_all}
use Rattle.judge_clauses.proofs.Tell.{tells_by, tells_class}
use Rattle.judge_clauses.proofs.rows.class_rows.Goals as goal

pub returns : goal.returns
returns c =
    tells_by
    (tells_all 0 c.args.p _ _ _ (λ i. ClassRow (record_at c.args.plan.now i)) c.all.ensures.ran (cc) (λ x b q k. search (rules, tells_class)))
    (λ all i l. all i l (omega arith)) (λ all i l g. all i l)
