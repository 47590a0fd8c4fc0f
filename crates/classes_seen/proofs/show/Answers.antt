-- `show`: an order that was read fits.
use Rattle.model.proofs.Orders.{read_fits}
use Rattle.order.proofs.Settles.{was_read}
use Rattle.classes_seen.proofs.show.Goals as goal

pub show_order-requires : goal.show_order-requires
show_order-requires g c = read_fits _ _ _ (was_read _ c.in-Ok.ensures)
