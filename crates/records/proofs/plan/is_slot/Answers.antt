-- `is_slot` meets its contract: the kind of record i, and the zeros in its bytes.
use Rattle.std.proofs.Common.{rules}
use Rattle.records.specs.declared.kind.Kind.TheVariants.{Slot}
use Rattle.records.specs.Plan.{is_slot}
use Rattle.records.proofs.Told.{slot_told, of_kind, of_other}
use Rattle.records.proofs.plan.is_slot.Goals as goal

pub returns-then-eq : goal.returns-then-eq
unfolding is_slot
returns-then-eq c = rw (of_kind Slot c.kind_at.ensures (search rules), ← c.record.ensures.0) c.slot_blank.ensures

pub returns-else-eq : goal.returns-else-eq
unfolding is_slot
returns-else-eq c = rw (of_other Slot slot_told c.kind_at.ensures (λ e. search rules)) c.if-eq.false
