-- `too_fast` meets its contract: the products of the first class (OverTop).
use Prim.Native.Nat.{ℕ, ◌<◌}
use mathlib.Core.Path.{ap, ◌∙◌}
use native.Mathlib.Omega.{arith}
use Rattle.model.specs.Classes.{set_number}
use Rattle.order.specs.Held.{as_order}
use Rattle.measure.specs.Arrays.{sets_of}
use Rattle.order.proofs.Fields.{doses_is, few_doses}
use Rattle.classes.proofs.OverTop.{no_first, weight_fit, time_fit, slow_if, too_fast_above, too_fast_not}
use Rattle.classes.proofs.too_fast.Goals as goal

pub returns-then-t-eq0 : goal.returns-then-t-eq0
returns-then-t-eq0 c =
    let asked = c.requires in
    too_fast_not asked.0 asked.1 (λ B f u. no_first asked.0 asked.1 c.if-t-eq0.true B f)

pub overflow_cast-weight : goal.overflow_cast-weight
overflow_cast-weight c =
    let asked = c.requires in
    let some : 0 < c.args.t.now.class = omega arith in
    omega (arith, weight_fit asked.0 asked.1 some)

pub overflow_cast-time : goal.overflow_cast-time
overflow_cast-time c =
    let asked = c.requires in
    let some : 0 < c.args.t.now.class = omega arith in
    omega (arith, time_fit asked.0 asked.1 some)

-- the first class is not above the top rate
pub returns-then-excess-eq0 : goal.returns-then-excess-eq0
unfolding as_order
returns-then-excess-eq0 c =
    let asked = c.requires in
    let some : 0 < c.args.t.now.class = omega arith in
    too_fast_not asked.0 asked.1 (slow_if asked.0 asked.1 some (omega (arith, c.if-excess-eq0.true, c.excess.ensures)))

pub first_set-requires : goal.first_set-requires
first_set-requires c = few_doses c.args.o.now c.requires.0

-- it is above
pub returns : goal.returns
unfolding as_order
returns c =
    let number = c.first_set.ensures ∙ ap (λ (m : ℕ). set_number m (sets_of c.args.t.now.numbers 0)) (doses_is c.args.o.now) in
    let some : 0 < c.args.t.now.class = omega arith in
    too_fast_above c.requires.0 c.requires.1 some c.first_set.result number
    (omega (arith, c.if-excess-eq0.false, c.excess.ensures))
