-- `kind_at` meets its contract: the kind that the first byte of record i names.
use Rattle.records.proofs.plan.kind_at.Goals as goal

pub returns : goal.returns
returns c = rw (c.record.ensures.0) at c.kind_of.ensures
