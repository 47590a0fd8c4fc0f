-- `left_of` meets its contract: every dose remains where it is no member.
use mathlib.Core.Bool.{false}
use borrow.Author.Rules.{rules}
use Rattle.measure.proofs.Made.{two_same, made}
use Rattle.classes.proofs.left_of.Goals as goal

pub returns : goal.returns
returns c = λ k l. let z = (made _ (λ f i y f' h. two_same h.met.1.0 h.met.1.1) _ _ _ c.from_fn.ensures.items k false l).met in search rules
