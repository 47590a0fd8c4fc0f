-- `slot_rows` meets its contract: every record of the range has an S's kind and zeros (Ranges).
use Rattle.std.proofs.Common.{rules}
use Rattle.model.specs.Records.{record_at}
use Rattle.judge_clauses.specs.Tests.{SlotRow}
use Rattle.judge_clauses.proofs.Ranges.{tells_all}
use Rattle.judge_clauses.proofs.Tell.{tells_slot}
use Rattle.judge_clauses.proofs.rows.slot_rows.Goals as goal

pub returns : goal.returns
returns c =
    tells_all c.args.p _ _ _ _ (λ i. SlotRow (record_at c.args.plan.now i)) c.all.ensures.ran (cc) (λ x b q k. search (rules, tells_slot))
