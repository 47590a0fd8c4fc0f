-- `put_fans` meets its contract: the kind, the fans, the rule, a zero, the top rate and 20 zeros, one behind the other, are the 32 bytes of an F.
use mathlib.Core.Path.{refl}
use Rattle.model.specs.Records.{number_bytes, record_bytes}
use Rattle.records.proofs.Laws.{join}
use Rattle.records.proofs.order_records.put_fans.Goals as goal

pub returns : goal.returns
unfolding number_bytes record_bytes
returns c =
    let head = join _ _ _ _ (join _ _ _ _ c.put_kind.ensures c.put.ensures refl) c.put-2.ensures refl in
    let named = join _ _ _ _ (join _ _ _ _ head c.put_blank.ensures refl) c.put_pair.ensures refl in
    join _ _ _ _ named c.put_blank-2.ensures refl
