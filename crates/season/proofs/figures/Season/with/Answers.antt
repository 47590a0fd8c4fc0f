-- `Season::with` meets its contract: by what the order came to, each figure has the order's more and the greater of the rates stays, or the count of
-- the number is one more.
use Prim.Native.Nat.{◌+◌}
use native.Mathlib.Omega.{arith}
use Rattle.season.specs.Adding.{with_outcome}
use Rattle.season.specs.Held.{OutcomeFits, as_outcome}
use Rattle.season.proofs.figures.Season.with.Goals as goal

pub overflow_add-self-in-Ok : goal.overflow_add-self-in-Ok
unfolding OutcomeFits
overflow_add-self-in-Ok c = let fits = rw c.in-Ok.is at c.requires.1 in omega (arith, c.requires.0.grams_most, fits.0)

pub overflow_add-self-in-Ok-2 : goal.overflow_add-self-in-Ok-2
unfolding OutcomeFits
overflow_add-self-in-Ok-2 c = let fits = rw c.in-Ok.is at c.requires.1 in omega (arith, c.requires.0.seconds_most, fits.1)

pub bounds-self-number : goal.bounds-self-number
unfolding OutcomeFits
bounds-self-number c = let fits = rw c.in-Err.is at c.requires.1 in omega (arith, c.number.ensures, fits)

pub bounds-self-number-in-Err : goal.bounds-self-number-in-Err
unfolding OutcomeFits
bounds-self-number-in-Err c = let fits = rw c.in-Err.is at c.requires.1 in omega (arith, c.number.ensures, fits)

pub returns-in-Ok : goal.returns-in-Ok
unfolding with_outcome as_outcome
returns-in-Ok c =
    let s = c.args.self in
    let order = c.in-Ok.order in
    let greatest = c.greater-self.ensures in
    rw c.in-Ok.is (λ i. record {
      accepted = s.accepted + 1;
      refused = s.refused;
      grams = s.grams + order.grams;
      seconds = s.seconds + order.seconds;
      greatest = greatest i;
    })

pub returns-in-Err : goal.returns-in-Err
unfolding with_outcome as_outcome
returns-in-Err c = rw (c.in-Err.is, c.number.ensures)
