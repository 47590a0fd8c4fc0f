-- `put_dose` meets its contract: the kind, a zero, the bay, the window, the grams and 16 zeros, one behind the other, are the 32 bytes of a D.
use mathlib.Core.Path.{refl}
use Rattle.model.specs.Records.{number_bytes, record_bytes}
use Rattle.records.proofs.Laws.{join}
use Rattle.records.proofs.order_records.put_dose.Goals as goal

pub returns : goal.returns
unfolding number_bytes record_bytes
returns c =
    let head = join _ _ _ _ (join _ _ _ _ c.put_kind.ensures c.put_blank.ensures refl) c.put.ensures refl in
    let named = join _ _ _ _ (join _ _ _ _ head c.put_pair.ensures refl) c.put-2.ensures refl in
    join _ _ _ _ named c.put_blank-2.ensures refl
