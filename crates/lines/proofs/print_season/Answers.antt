-- `print_season` meets its contract: the lines stand one behind the other (Adding), each within its room (Season).
use mathlib.Core.List.{[]}
use mathlib.Core.Path.{sym, ◌∙◌}
use borrow.Author.Rules.{rules}
use native.Mathlib.Omega.{arith}
use Rattle.lines.specs.Text.{season_text}
use Rattle.lines.proofs.Puts.{bare_length}
use Rattle.lines.proofs.Adding.{adds_more, fits_behind, fits_new, put_new}
use Rattle.lines.proofs.Season.{refusals_length}
use Rattle.lines.proofs.print_season.Goals as goal

pub put_refusals-requires : goal.put_refusals-requires
put_refusals-requires c =
    let new = c.new-text.ensures in
    fits_behind 588 420 (fits_new c.new-text.result 588 new.held new.none c.requires) c.put_bare_line.ensures (omega (arith, bare_length c.from.result []))

pub put_totals-requires : goal.put_totals-requires
put_totals-requires c =
    let new = c.new-text.ensures in
    let behind = fits_behind 588 546 (fits_new c.new-text.result 588 new.held new.none c.requires) c.put_bare_line.ensures (omega (arith, bare_length c.from.result [])) in
    fits_behind 546 126 behind c.put_refusals.ensures (omega (arith, refusals_length c.args.refused))

pub returns : goal.returns
unfolding season_text
returns c =
    let new = c.new-text.ensures in
    let added = adds_more c.put_bare_line.ensures (adds_more c.put_refusals.ensures c.put_totals.ensures) in
    rw (← c.from.ensures) (put_new new.held new.none added (search (rules, sym (added.same_reference ∙ new.same_reference))))
