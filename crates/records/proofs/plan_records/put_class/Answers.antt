-- `put_class` meets its contract: the head, W and P, and 20 zeros, one behind the other, are the 32 bytes of a C.
use mathlib.Core.Path.{refl}
use Rattle.records.proofs.Laws.{join}
use Rattle.model.specs.Records.{number_bytes, record_bytes}
use Rattle.model.specs.Plans.{plan_record_bytes}
use Rattle.records.proofs.plan_records.put_class.Goals as goal

pub returns : goal.returns
unfolding number_bytes record_bytes plan_record_bytes
returns c =
    join _ _ _ _ (join _ _ _ _ c.put_head.ensures c.put_pair.ensures refl) c.put_blank.ensures refl
