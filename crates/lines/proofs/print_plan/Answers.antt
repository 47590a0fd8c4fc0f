-- `print_plan` meets its contract: the lines of the records, at most 160 bytes each, and the total behind them (Records).
use mathlib.Core.Path.{sym, ◌∙◌}
use borrow.Author.Rules.{rules}
use native.Mathlib.Omega.{arith}
use Prim.Native.Nat.{◌+◌, ◌*◌}
use Rattle.lines.specs.Text.{plan_text}
use Rattle.lines.proofs.Adding.{adds_more, fits_behind, fits_new, put_new}
use Rattle.lines.proofs.Records.{records_length}
use Rattle.lines.proofs.print_plan.Goals as goal

pub put_total-requires : goal.put_total-requires
put_total-requires c =
    let A = c.args in
    let new = c.new-text.ensures in
    let room = 160 * (A.classes + A.slots + 1) in
    fits_behind room _ (fits_new c.new-text.result room new.held new.none c.requires.1) c.put_records.ensures (omega (arith, records_length A.plan.now (A.classes + A.slots)))

pub returns : goal.returns
unfolding plan_text
returns c =
    let new = c.new-text.ensures in
    let added = adds_more c.put_records.ensures c.put_total.ensures in
    put_new new.held new.none added (search (rules, sym (added.same_reference ∙ new.same_reference)))
