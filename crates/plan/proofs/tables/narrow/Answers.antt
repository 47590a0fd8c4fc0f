-- `narrow` meets its contract: every place has the remainder of its number by 4,294,967,296.
use borrow.Author.Rules.{rules}
use Rattle.measure.proofs.Made.{made, one_same}
use Rattle.plan.proofs.tables.narrow.Goals as goal

pub returns : goal.returns
returns c = λ i l. let z = (made _ (λ f k y f' h. one_same h.met.1) _ _ _ c.from_fn.ensures.items i 0 l).met in search rules
