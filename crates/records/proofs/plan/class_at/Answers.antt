-- `class_at` meets its contract: what is read of the bytes of record i.
use mathlib.Core.Path.{ap, ◌∙◌}
use Rattle.model.specs.Plans.{class_of}
use Rattle.records.specs.Plan.{class_in}
use Rattle.records.proofs.plan.class_at.Goals as goal

pub returns : goal.returns
unfolding class_in
returns c = c.class_in.ensures ∙ ap class_of c.record.ensures.0
