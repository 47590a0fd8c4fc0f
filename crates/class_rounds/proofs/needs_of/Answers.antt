-- `needs_of` meets its contract: every dose has its need.
use borrow.Author.Rules.{rules}
use Rattle.measure.proofs.Made.{three_same, made}
use Rattle.class_rounds.proofs.needs_of.Goals as goal

pub returns : goal.returns
returns c = λ k l. let z = (made _ (λ f i y f' h. three_same h.met.1.0 h.met.1.1 h.met.1.2) _ _ _ c.from_fn.ensures.items k 0 l).met in search rules
