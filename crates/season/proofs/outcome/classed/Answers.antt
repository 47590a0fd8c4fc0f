-- `classed` meets its contract: 9, or the figures of the order's classes (Orders).
use mathlib.Core.Path.{sym, ◌∙◌}
use native.Mathlib.Omega.{arith}
use Rattle.order.specs.Held.{as_order}
use Rattle.season.specs.Held.{OutcomeFits, as_outcome, as_rate}
use Rattle.season.proofs.Orders.{classes_few, comes_above, comes_below, sums_fit}
use Rattle.season.proofs.outcome.classed.Goals as goal

pub returns-then-is_some : goal.returns-then-is_some
unfolding OutcomeFits as_outcome
returns-then-is_some c =
    let o = as_order c.args.o.now in
    (comes_above o c.requires c.classes_of-t.result c.classes_of-t.ensures.0 c.too_fast.ensures (sym c.is_some.ensures ∙ c.if-is_some.true), omega arith)

pub shared_ref_as_front-together : goal.shared_ref_as_front-together
shared_ref_as_front-together c =
    classes_few (as_order c.args.o.now) c.requires c.classes_of-t.result c.classes_of-t.ensures.0

pub together-requires : goal.together-requires
together-requires c = let fit = sums_fit (as_order c.args.o.now) c.requires c.classes_of-t.result c.classes_of-t.ensures.0 in omega (arith, fit.0, fit.1)

pub together-requires-2 : goal.together-requires-2
together-requires-2 c = let fit = sums_fit (as_order c.args.o.now) c.requires c.classes_of-t.result c.classes_of-t.ensures.0 in omega (arith, fit.0, fit.1)

pub returns : goal.returns
unfolding OutcomeFits as_outcome
returns c =
    let o = as_order c.args.o.now in
    let t = c.classes_of-t.result in
    let known = c.classes_of-t.ensures in
    let fit = sums_fit o c.requires t known.0 in (
      comes_below o c.requires t known.0 known.1 c.too_fast.ensures (sym c.is_some.ensures ∙ c.if-is_some.false)
          c.together.result c.together-2.result c.together.ensures c.together-2.ensures (as_rate c.first_of.result) c.first_of.ensures,
      (omega (arith, c.together.ensures, fit.0), omega (arith, c.together-2.ensures, fit.1)),
    )
