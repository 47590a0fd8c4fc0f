-- `write_order` meets its contract: the tables hold the order's classes and valid shares (Tabling), and its plan has room (Holding).
use Rattle.order.proofs.Fields.{few_doses}
use Rattle.plan.proofs.Answering.{written}
use Rattle.plan.proofs.Holding.{filled, roomy}
use Rattle.plan.proofs.Tabling.{tables_hold}
use Rattle.plan.proofs.write_order.Goals as goal

pub instants_of-instants-requires : goal.instants_of-instants-requires
instants_of-instants-requires c = few_doses _ c.requires.0

pub invariant_of-write_plan : goal.invariant_of-write_plan
invariant_of-write_plan c =
    let hold = tables_hold c.requires.0 c.instants_of-instants.ensures c.requires.1 c.tables_of-tables.ensures c.requires.2 in
    record { filled = filled _ _ _ _ hold c.requires.0 }

pub write_plan-slots-requires : goal.write_plan-slots-requires
write_plan-slots-requires c =
    let hold = tables_hold c.requires.0 c.instants_of-instants.ensures c.requires.1 c.tables_of-tables.ensures c.requires.2 in
    roomy _ _ _ _ hold c.requires.0 c.requires.3

pub returns : goal.returns
returns c =
    let hold = tables_hold c.requires.0 c.instants_of-instants.ensures c.requires.1 c.tables_of-tables.ensures c.requires.2 in
    written _ _ _ _ hold c.write_plan-slots.ensures.slots c.write_plan-slots.ensures.bytes
