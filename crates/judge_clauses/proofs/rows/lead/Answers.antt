-- `lead` meets its contract: the record that ends the count is no C.
use mathlib.Core.Path.{◌≡◌, ◌∙◌, ap}
use native.Mathlib.Omega.{arith}
use Rattle.std.proofs.Common.{rules}
use Rattle.records.specs.declared.kind.Kind.TheVariants.{Class}
use Rattle.records.specs.Kinds.{kind_of_byte}
use Rattle.records.proofs.Told.{class_told}
use Rattle.judge_clauses.proofs.rows.lead.Goals as goal

pub returns-then-ne : goal.returns-then-ne
returns-then-ne c = record {
  short = omega arith;
  classes = c.loop-i.invariant;
  stops = λ l e. let same : c.kind_at.result ≡ Class = c.kind_at.ensures.kind_is ∙ ap kind_of_byte e ∙ class_told in search rules;
}
