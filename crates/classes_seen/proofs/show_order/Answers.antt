-- `show_order`: an order that fits has few doses.
use Rattle.order.proofs.Fields.{few_doses}
use Rattle.classes_seen.proofs.show_order.Goals as goal

pub instants_of-requires : goal.instants_of-requires
instants_of-requires g c = few_doses c.args.o.now c.requires
