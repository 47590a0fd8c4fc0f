-- `certify` meets its contract: the order and its instants are held, and passing the tests is standing (OfOrder).
use Rattle.order.specs.Held.{as_order}
use Rattle.order.proofs.Fields.{few_doses}
use Rattle.judge.proofs.OfOrder.{certified, holds}
use Rattle.judge.proofs.certify.Goals as goal

pub instants_of-instants-requires : goal.instants_of-instants-requires
instants_of-instants-requires c = few_doses c.args.o.now c.requires

pub all_pass-requires : goal.all_pass-requires
all_pass-requires c = (c.lead-classes.ensures.short, few_doses c.args.o.now c.requires, c.instants_of-instants.ensures.few)

pub returns : goal.returns
returns c =
    let o = c.args.o.now in
    rw c.then_some.ensures
    (certified (as_order o) c.requires _ (holds o _ c.instants_of-instants.ensures) _ _ c.lead-classes.ensures c.class_numbers-numbers.ensures _ c.all_pass.ensures)
