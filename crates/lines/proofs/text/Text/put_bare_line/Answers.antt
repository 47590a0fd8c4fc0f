-- `put_bare_line` meets its contract: the first number, in at most 20 digits, and the rest of the line stand one behind the other (Adding).
use native.Mathlib.Omega.{arith}
use Rattle.lines.proofs.Adding.{adds_more, fits_behind}
use Rattle.lines.proofs.Puts.{decimal_length}
use Rattle.lines.proofs.text.Text.put_bare_line.Goals as goal

pub put_rest-requires : goal.put_rest-requires
put_rest-requires c =
    fits_behind _ _ c.requires c.put_decimal.ensures (omega (arith, decimal_length 20 c.args.first))

pub returns : goal.returns
returns c = adds_more c.put_decimal.ensures c.put_rest.ensures
