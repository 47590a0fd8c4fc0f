-- `grams_in` meets its contract: the grams of the doses, and zeros behind.
use Rattle.std.proofs.Common.{rules, arith}
use lib.ListN.{get_or-eq_default}
use Rattle.model.specs.Limits.{most_doses}
use Rattle.steps.proofs.Tests.{below_or}
use Rattle.measure.proofs.Made.{one_same, made}
use Rattle.measure.proofs.arrays.grams_in.Goals as goal

pub returns : goal.returns
returns c = record {
  doses = λ k h. let z = (made _ (λ f i y f' h. one_same h.met.1) _ _ _ c.from_fn.ensures.items k 0 (omega arith)).met in search rules;
  past = λ k g. below_or k most_doses
      (λ l. let z = (made _ (λ f i y f' h. one_same h.met.1) _ _ _ c.from_fn.ensures.items k 0 l).met in search rules)
      (λ h. get_or-eq_default c.from_fn.result 0 {n = k} (omega (arith, c.from_fn.ensures.items.long)));
}
