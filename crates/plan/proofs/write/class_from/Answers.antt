-- `class_from` meets its contract: the number is i + 1, the doses are those of its set, W and P stand at place i.
use mathlib.Core.Path.{◌∙◌}
use native.Mathlib.Omega.{arith}
use Rattle.model.proofs.Sets.{weight_alike}
use Rattle.measure.specs.Arrays.{set_of}
use Rattle.plan.specs.Held.{class_from, members_from}
use Rattle.plan.proofs.write.class_from.Goals as goal

-- the set counted is that of the doses of class i
pub returns : goal.returns
unfolding class_from
returns c =
    let t = c.args.t.now in
    let members = weight_alike t.doses (λ k. 1) (set_of c.set_of.result) (members_from t c.args.i) (λ k l. c.set_of.ensures k (omega arith)) in
    rw (c.size_of.ensures.0 ∙ members)
