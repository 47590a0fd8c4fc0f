use lib.ListN.{take}
use Rattle.lines.specs.Text.{numbers_text}
use Rattle.lines.specs.Adding.{Adds}
use Rattle.lines.proofs.text.Text.put_rest.Given as goal

abbrev pub invariant-loop-number : goal.invariant-loop-number
invariant-loop-number l = Adds (numbers_text (take l.number-index l.numbers)) l.initial.self l.self
