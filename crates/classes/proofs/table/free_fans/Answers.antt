-- `free_fans` meets its contract: every interval has its free fans.
use borrow.Author.Rules.{rules}
use Rattle.measure.proofs.Made.{three_same, made}
use Rattle.classes.proofs.table.free_fans.Goals as goal

pub returns : goal.returns
returns c = λ j l. let z = (made _ (λ f i y f' h. three_same h.met.1.0 h.met.1.1 h.met.1.2) _ _ _ c.from_fn.ensures.items j 0 l).met in search rules
