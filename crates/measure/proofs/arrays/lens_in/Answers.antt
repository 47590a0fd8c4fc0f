-- `lens_in` meets its contract: every interval has its length.
use native.Mathlib.Omega.{arith}
use lib.ListN.{get_or-eq_default}
use Rattle.measure.proofs.Made.{one_same, made}
use Rattle.measure.proofs.arrays.lens_in.Goals as goal

pub returns : goal.returns
returns c = record {
  intervals = λ j l. let z = (made _ (λ f i y f' h. one_same h.met.1) _ _ _ c.from_fn.ensures.items j 0 l).met in cc;
  past = λ j h. get_or-eq_default c.from_fn.result 0 {n = j} (omega (arith, c.from_fn.ensures.items.long));
}
