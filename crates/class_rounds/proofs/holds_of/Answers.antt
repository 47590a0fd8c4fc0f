-- `holds_of` meets its contract: every interval has its reserved time.
use Rattle.measure.proofs.Made.{three_same, made}
use Rattle.class_rounds.proofs.holds_of.Goals as goal

pub returns : goal.returns
returns c = λ j l. let z = (made _ (λ f i y f' h. three_same h.met.1.0 h.met.1.1 h.met.1.2) _ _ _ c.from_fn.ensures.items j 0 l).met in cc
