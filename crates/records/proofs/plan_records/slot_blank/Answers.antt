-- `slot_blank` meets its contract: the bytes from 29 on are asked to be zero.
use mathlib.Core.Path.{◌∙◌, sym}
use mathlib.Core.Bool.{and-true}
use Rattle.model.specs.Records.{blank_at}
use Rattle.records.proofs.plan_records.slot_blank.Goals as goal

pub returns : goal.returns
unfolding blank_at
returns c = c.blank.ensures ∙ sym (and-true _)
