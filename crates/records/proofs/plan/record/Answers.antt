-- `record` meets its contract: the part that is lent is record i (Records).
use native.Mathlib.Omega.{arith}
use Rattle.records.proofs.Records.{part_length, record_part}
use Rattle.records.proofs.plan.record.Goals as goal

pub returns : goal.returns
returns c = let A = c.args in (record_part A.plan.now A.i, part_length A.plan.now A.i (omega arith))
