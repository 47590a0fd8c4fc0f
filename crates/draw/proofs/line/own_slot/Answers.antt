-- `own_slot` meets its contract: another dose's record, or one of another kind, is no slot of the dose.
use Rattle.std.proofs.Common.{rules, sym, ap, ◌∙◌, ne_eqb}
use Rattle.model.specs.Plans.{Slot}
use Rattle.records.specs.declared.kind.Kind.TheVariants as kind
use Rattle.records.proofs.Told.{of_other, slot_told}
use Rattle.steps.proofs.Tests.{and_false}
use Rattle.draw.specs.Drawing.{own_slot}
use Rattle.draw.proofs.line.own_slot.Goals.{else-dose-s-via-then-dose-s+else-eq, else-dose-s-via-else-dose-s}
use Rattle.draw.proofs.line.own_slot.Goals as goal

pub returns-else-dose-s : goal.returns-else-dose-s
unfolding own_slot
returns-else-dose-s c = elim c.else-dose-s.branch [
  | else-dose-s-via-then-dose-s+else-eq w ↦ rw (of_other kind.Slot slot_told w.kind_at.ensures (λ e. search rules))
  | else-dose-s-via-else-dose-s w ↦
      let dose = ap (λ (s : Slot). s.dose) c.slot_at-s.ensures in
      rw (ne_eqb _ _ (λ e. w.if-dose-s.false (e ∙ sym dose)), and_false)
]
