-- `put_number` meets its contract: a space and then the digits, at most 20, stand one behind the other (Adding).
use native.Mathlib.Omega.{arith}
use Rattle.lines.proofs.Adding.{adds_more, fits_behind}
use Rattle.lines.proofs.text.Text.put_number.Goals as goal

pub put_decimal-requires : goal.put_decimal-requires
put_decimal-requires c = fits_behind 21 20 c.requires c.put_byte.ensures (omega arith)

pub returns : goal.returns
returns c = adds_more c.put_byte.ensures c.put_decimal.ensures
