-- `put_line` meets its contract: the word and the rest of the line stand one behind the other (Adding).
use native.Mathlib.Omega.{arith}
use Rattle.lines.proofs.Adding.{adds_more, fits_behind}
use Rattle.lines.proofs.text.Text.put_line.Goals as goal

pub put_rest-requires : goal.put_rest-requires
put_rest-requires c = fits_behind _ _ c.requires c.put_word.ensures (omega arith)

pub returns : goal.returns
returns c = adds_more c.put_word.ensures c.put_rest.ensures
