-- `dead_part` meets its contract: every dose is marked where it is in both.
use mathlib.Core.Bool.{false}
use borrow.Author.Rules.{rules}
use Rattle.model.specs.Limits.{most_doses}
use Rattle.measure.proofs.Made.{two_same, made}
use Rattle.class_rounds.proofs.Laws.{marks_both}
use Rattle.class_rounds.proofs.dead_part.Goals as goal

pub returns : goal.returns
returns c =
    let A = c.args in
    marks_both most_doses A.dead.now A.set.now c.from_fn.result (search rules) c.from_fn.ensures.items.long
    (λ k l. let z = (made _ (λ f i y f' h. two_same h.met.1.0 h.met.1.1) _ _ _ c.from_fn.ensures.items k false l).met in search rules)
