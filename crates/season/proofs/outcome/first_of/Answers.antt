-- `first_of` meets its contract: by the classes of the tally.
use native.Mathlib.Omega.{arith}
use Rattle.order.specs.Held.{as_order}
use Rattle.season.proofs.Orders.{first_none, first_some, times_fit, weights_fit}
use Rattle.season.proofs.outcome.first_of.Goals as goal

pub returns-then-t-eq0 : goal.returns-then-t-eq0
returns-then-t-eq0 c = first_none (as_order c.args.o.now) c.requires.0 c.args.t.now c.requires.1 c.if-t-eq0.true

pub overflow_cast-result : goal.overflow_cast-result
overflow_cast-result c =
    omega (arith, weights_fit (as_order c.args.o.now) c.requires.0 c.args.t.now c.requires.1 0 (omega arith))

pub overflow_cast-result-2 : goal.overflow_cast-result-2
overflow_cast-result-2 c =
    omega (arith, times_fit (as_order c.args.o.now) c.requires.0 c.args.t.now c.requires.1 0 (omega arith))

pub returns : goal.returns
returns c =
    first_some (as_order c.args.o.now) c.requires.0 c.args.t.now c.requires.1 (omega arith)
