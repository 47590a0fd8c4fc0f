-- `put_slot` meets its contract: the head, three pairs, the class and three zeros, one behind the other, are the 32 bytes of an S.
use mathlib.Core.Path.{refl}
use Rattle.records.proofs.Laws.{join}
use Rattle.model.specs.Records.{number_bytes, record_bytes}
use Rattle.model.specs.Plans.{plan_record_bytes}
use Rattle.records.proofs.plan_records.put_slot.Goals as goal

pub returns : goal.returns
unfolding number_bytes record_bytes plan_record_bytes
returns c =
    let window = join _ _ _ _ (join _ _ _ _ c.put_head.ensures c.put_pair.ensures refl) c.put_pair-2.ensures refl in
    let named = join _ _ _ _ (join _ _ _ _ window c.put_pair-3.ensures refl) c.put.ensures refl in
    join _ _ _ _ named c.put_blank.ensures refl
