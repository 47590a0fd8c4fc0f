-- `order_comes` meets its contract: refused by its reading, or what the order comes to (Orders).
use native.Mathlib.Omega.{arith}
use Rattle.model.proofs.Orders.{read_fits}
use Rattle.order.proofs.Cases.{passed}
use Rattle.order.proofs.Settles.{was_read, was_refused}
use Rattle.season.specs.declared.outcome.Refused.TheVariants as is
use Rattle.season.specs.Held.{OutcomeFits, as_outcome}
use Rattle.season.proofs.Orders.{comes_read, comes_unread}
use Rattle.season.proofs.outcome.order_comes.Goals as goal

pub returns-in_err-o : goal.returns-in_err-o
unfolding OutcomeFits as_outcome
returns-in_err-o c =
    let order = c.args.order.now in
    let comes = comes_unread order (was_refused order c.in_err-o.ensures) in
    rw (passed {x = is.Order c.in_err-o.field-0.0} c.from_residual.result c.from_residual.ensures.1) (comes.0, omega (arith, comes.1))

pub classed-requires : goal.classed-requires
classed-requires c = read_fits _ _ _ (was_read _ c.in_ok-o.ensures)

pub returns : goal.returns
returns c = (comes_read _ (was_read _ c.in_ok-o.ensures) c.classed.ensures.0, c.classed.ensures.1)
