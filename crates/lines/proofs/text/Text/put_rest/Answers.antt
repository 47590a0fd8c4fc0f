-- `put_rest` meets its contract: the numbers passed stand in the buffer, each in at most 21 bytes, and the newline behind them (Adding).
use native.Mathlib.Omega.{arith}
use Rattle.lines.proofs.Adding.{adds_more, numbers_all, numbers_more, numbers_none, numbers_room}
use Rattle.lines.proofs.text.Text.put_rest.Goals as goal

pub loop-number-init : goal.loop-number-init
loop-number-init c = numbers_none c.args.numbers.now

pub put_number-requires : goal.put_number-requires
put_number-requires c =
    numbers_room c.args.numbers.now c.loop-number.number-index 21 (omega arith) (omega arith) c.requires c.loop-number.invariant

pub loop-number-preserved : goal.loop-number-preserved
loop-number-preserved c =
    numbers_more c.args.numbers.now c.loop-number.number-index c.loop-number-test.true c.loop-number.invariant c.put_number.ensures

pub put_byte-requires : goal.put_byte-requires
put_byte-requires c =
    numbers_room c.args.numbers.now c.loop-number.number-index 1 (omega arith) (omega arith) c.requires c.loop-number.invariant

pub returns : goal.returns
returns c =
    adds_more (numbers_all c.args.numbers.now c.loop-number.number-index (omega arith) c.loop-number.invariant) c.put_byte.ensures
