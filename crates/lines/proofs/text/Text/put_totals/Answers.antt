-- `put_totals` meets its contract: the three lines stand one behind the other, each within its room (Adding).
use mathlib.Core.List.{[]}
use native.Mathlib.Omega.{arith}
use Rattle.lines.specs.Text.{totals_text}
use Rattle.lines.proofs.Puts.{bare_length}
use Rattle.lines.proofs.Adding.{adds_more, fits_behind}
use Rattle.lines.proofs.text.Text.put_totals.Goals as goal

pub put_bare_line-requires-2 : goal.put_bare_line-requires-2
put_bare_line-requires-2 c =
    let A = c.args in
    fits_behind 126 21 c.requires c.put_bare_line.ensures (omega (arith, bare_length A.grams [], bare_length A.seconds []))

pub put_bare_line-requires-3 : goal.put_bare_line-requires-3
put_bare_line-requires-3 c =
    let A = c.args in
    let behind = fits_behind 126 105 c.requires c.put_bare_line.ensures (omega (arith, bare_length A.grams [], bare_length A.seconds [])) in
    fits_behind 105 42 behind c.put_bare_line-2.ensures (omega (arith, bare_length A.grams [], bare_length A.seconds []))

pub returns : goal.returns
unfolding totals_text
returns c =
    rw (← c.from.ensures, ← c.from-2.ensures) (adds_more c.put_bare_line.ensures (adds_more c.put_bare_line-2.ensures c.put_bare_line-3.ensures))
