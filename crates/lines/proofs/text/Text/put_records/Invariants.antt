use Rattle.model.specs.Records.{record_at}
use Rattle.model.specs.Lists.{gather}
use Rattle.lines.specs.Text.{record_text}
use Rattle.lines.specs.Adding.{Adds}
use Rattle.lines.proofs.text.Text.put_records.Given as goal

abbrev pub invariant-loop-i : goal.invariant-loop-i
invariant-loop-i l = Adds (gather l.i (λ k. record_text (record_at l.plan k))) l.initial.self l.self
