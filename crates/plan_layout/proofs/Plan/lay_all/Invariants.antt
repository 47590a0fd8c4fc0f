use Rattle.model.specs.Lists.{gather}
use Rattle.model.specs.Plans.{slot_record}
use Rattle.model.specs.Layout.{interval_slots}
use Rattle.plan_layout.specs.Growing.{Grows, table_in}
use Rattle.plan_layout.proofs.Plan.lay_all.Given as goal

abbrev pub invariant-loop-j : goal.invariant-loop-j
invariant-loop-j l = Grows slot_record (gather l.j (interval_slots (table_in l.x))) l.initial.self l.self
