-- `free_after` meets its contract: every interval has what is left.
use Rattle.measure.proofs.Made.{made, two_same}
use Rattle.judge_rates.proofs.free_after.Goals as goal

pub returns : goal.returns
returns c = λ j l. let z = (made _ (λ f i y f' h. two_same h.met.1.0 h.met.1.1) _ _ _ c.from_fn.ensures.items j 0 l).met in cc
