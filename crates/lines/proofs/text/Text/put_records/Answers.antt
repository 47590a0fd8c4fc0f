-- `put_records` meets its contract: the lines of the records passed stand in the buffer, at most 160 bytes each (Records).
use native.Mathlib.Omega.{arith}
use Rattle.model.specs.Records.{record_at}
use Rattle.lines.specs.Text.{record_text}
use Rattle.lines.proofs.Adding.{lines_more, lines_none, lines_room}
use Rattle.lines.proofs.Records.{record_length}
use Rattle.lines.proofs.text.Text.put_records.Goals as goal

pub loop-i-init : goal.loop-i-init
loop-i-init c = lines_none (λ k. record_text (record_at c.args.plan.now k))

pub put_record-requires-clause-room : goal.put_record-requires-clause-room
put_record-requires-clause-room c =
    let plan = c.args.plan.now in
    lines_room (λ k. record_text (record_at plan k)) 160 c.args.n (λ k. record_length (record_at plan k)) c.loop-i.i (omega arith) c.requires.room c.loop-i.invariant

pub loop-i-preserved : goal.loop-i-preserved
loop-i-preserved c = lines_more (λ k. record_text (record_at c.args.plan.now k)) _ c.loop-i.invariant c.put_record.ensures
