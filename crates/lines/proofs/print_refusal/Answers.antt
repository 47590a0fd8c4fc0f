-- `print_refusal` meets its contract: the line is the text, from the buffer's first byte on (Adding).
use mathlib.Core.Path.{sym, ◌∙◌}
use borrow.Author.Rules.{rules}
use Rattle.lines.proofs.Adding.{fits_new, put_new}
use Rattle.lines.proofs.print_refusal.Goals as goal

pub put_refused-requires : goal.put_refused-requires
put_refused-requires c = let new = c.new-text.ensures in fits_new c.new-text.result _ new.held new.none c.requires

pub returns : goal.returns
returns c =
    let new = c.new-text.ensures in
    let added = c.put_refused.ensures in
    put_new new.held new.none added (search (rules, sym (added.same_reference ∙ new.same_reference)))
