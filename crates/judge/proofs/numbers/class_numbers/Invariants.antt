use mathlib.Core.Path.{◌≡◌}
use lib.ListN.{length}
use Rattle.model.specs.Limits.{most_doses}
use Rattle.judge_clauses.specs.Tests.{ClassNumbers}
use Rattle.judge.proofs.numbers.class_numbers.Given as goal

abbrev pub invariant-loop-i : goal.invariant-loop-i
invariant-loop-i l = record { size : length l.numbers ≡ most_doses; named : ClassNumbers l.plan l.p l.i l.numbers }
