-- `is_class` meets its contract: the kind of record i, and the zeros in its bytes.
use Rattle.std.proofs.Common.{rules}
use Rattle.records.specs.declared.kind.Kind.TheVariants.{Class}
use Rattle.records.specs.Plan.{is_class}
use Rattle.records.proofs.Told.{class_told, of_kind, of_other}
use Rattle.records.proofs.plan.is_class.Goals as goal

pub returns-then-eq : goal.returns-then-eq
unfolding is_class
returns-then-eq c = rw (of_kind Class c.kind_at.ensures (search rules), ← c.record.ensures.0) c.class_blank.ensures

pub returns-else-eq : goal.returns-else-eq
unfolding is_class
returns-else-eq c = rw (of_other Class class_told c.kind_at.ensures (λ e. search rules)) c.if-eq.false
