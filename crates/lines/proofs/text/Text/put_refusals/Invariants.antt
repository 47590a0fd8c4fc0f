use Prim.Native.Nat.{ℕ}
use mathlib.Core.List.{List}
use lib.ListN.{get_or}
use Rattle.model.specs.Lists.{gather}
use Rattle.lines.specs.Text.{met_text}
use Rattle.lines.specs.Adding.{Adds}
use Rattle.lines.proofs.text.Text.put_refusals.Given as goal

-- the line of a number
abbrev pub line_of : List ℕ → ℕ → List ℕ
line_of counts number = met_text number (get_or counts number 0)

abbrev pub invariant-loop-number : goal.invariant-loop-number
invariant-loop-number l = Adds (gather l.number (line_of l.count-items)) l.initial.self l.self
