-- `slot_at` meets its contract: what is read of the bytes of record i.
use mathlib.Core.Path.{ap, ◌∙◌}
use Rattle.model.specs.Plans.{slot_of}
use Rattle.records.specs.Plan.{slot_in}
use Rattle.records.proofs.plan.slot_at.Goals as goal

pub returns : goal.returns
unfolding slot_in
returns c = c.slot_in.ensures ∙ ap slot_of c.record.ensures.0
