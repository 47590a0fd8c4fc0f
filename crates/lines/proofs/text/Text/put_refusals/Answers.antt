-- `put_refusals` meets its contract: the lines of the numbers passed stand in the buffer, at most 42 bytes each (Season).
use native.Mathlib.Omega.{arith}
use lib.ListN.{get_or}
use Rattle.model.specs.Limits.{order_numbers}
use Rattle.lines.proofs.Adding.{lines_more, lines_none, lines_room}
use Rattle.lines.proofs.Season.{met_length}
use Rattle.lines.proofs.text.Text.put_refusals.Invariants.{line_of}
use Rattle.lines.proofs.text.Text.put_refusals.Goals as goal

pub loop-number-init : goal.loop-number-init
loop-number-init c = lines_none (line_of c.args.refused)

pub put_met-requires : goal.put_met-requires
put_met-requires c =
    let counts = c.args.refused in
    lines_room (line_of counts) 42 order_numbers (λ k. met_length k (get_or counts k 0)) c.loop-number.number (omega arith) c.requires c.loop-number.invariant

pub loop-number-preserved : goal.loop-number-preserved
loop-number-preserved c = lines_more (line_of c.args.refused) _ c.loop-number.invariant c.put_met.ensures
