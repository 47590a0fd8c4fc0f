-- `put_head` meets its contract: one byte, one byte and two bytes, one behind the other, are one run of four.
use mathlib.Core.Path.{refl}
use Rattle.records.proofs.Laws.{join}
use Rattle.model.specs.Records.{number_bytes}
use Rattle.records.proofs.plan_records.put_head.Goals as goal

pub returns : goal.returns
unfolding number_bytes
returns c =
    join _ _ _ _ (join _ _ _ _ c.put_kind.ensures c.put.ensures refl) c.put-2.ensures refl
