-- `by_certificate` meets its contract: the plan's first record has W and P of the first class (OfOrder).
use Prim.Native.Nat.{◌<◌}
use Rattle.order.specs.Held.{as_order}
use Rattle.order.proofs.Fields.{few_doses}
use Rattle.judge.proofs.OfOrder.{leader_fast, leader_slow, not_above}
use native.Mathlib.Omega.{arith}
use Rattle.judge.proofs.top.by_certificate.Goals as goal

pub returns-then-certificate-eq0 : goal.returns-then-certificate-eq0
returns-then-certificate-eq0 c = not_above (as_order c.args.o.now) (λ A f t. c.requires.1.none c.if-certificate-eq0.true A f)

pub returns-then-excess-eq0 : goal.returns-then-excess-eq0
returns-then-excess-eq0 c =
    let one : 0 < c.args.certificate.now.classes = omega (arith, c.if-certificate-eq0.false) in
    leader_slow c.args.o.now c.requires.1 one c.class_at-c.ensures (omega (arith, c.excess.ensures, c.if-excess-eq0.true))

pub first_set-requires : goal.first_set-requires
first_set-requires c = few_doses c.args.o.now c.requires.0

pub returns : goal.returns
returns c =
    let one : 0 < c.args.certificate.now.classes = omega (arith, c.if-certificate-eq0.false) in
    leader_fast c.args.o.now c.requires.1 one c.class_at-c.ensures _ _ _ c.first_set.ensures c.from.ensures c.from-2.ensures
    (omega (arith, c.excess.ensures, c.if-excess-eq0.false))
