-- `put_record` meets its contract: a C has a class's line, any other record a slot's (Records).
use Rattle.records.specs.declared.kind.Kind.TheVariants.{Class}
use Rattle.records.proofs.Told.{class_told, of_kind, of_other}
use Rattle.lines.proofs.Records.{class_line, slot_line}
use Rattle.lines.proofs.text.Text.put_record.Goals as goal

pub returns-in-Class : goal.returns-in-Class
returns-in-Class c =
    let A = c.args in
    rw (class_line A.plan.now A.i (of_kind Class c.kind_at.ensures c.in-Class.is) c.class_at.ensures) c.put_class.ensures

pub returns-in_default : goal.returns-in_default
returns-in_default c =
    let A = c.args in
    rw (slot_line A.plan.now A.i (of_other Class class_told c.kind_at.ensures c.in_default.not-Class) c.slot_at.ensures) c.put_slot.ensures
