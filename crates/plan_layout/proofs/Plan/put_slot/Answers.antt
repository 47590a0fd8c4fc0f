-- `put_slot` meets its contract: the record stands behind those that stood there, and they are one more (Runs).
use mathlib.Core.Path.{refl}
use Rattle.plan_layout.proofs.Runs.{wrote_one}
use Rattle.plan_layout.proofs.Plan.put_slot.Goals as goal

pub returns : goal.returns
returns c = record { same_reference = refl; wrote = wrote_one refl c.put_slot.ensures }
