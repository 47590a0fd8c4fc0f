-- `next_fans` meets its contract: no record so far is an F, so that the next one is where it is from here.
use Rattle.std.proofs.Common.{◌≡◌, ◌+◌, ◌-◌, ◌∙◌, arith, rules, sym}
use Rattle.model.proofs.Streams.{next_here, next_later, next_most}
use Rattle.records.proofs.Told.{fans_told, of_kind, of_other}
use Rattle.records.specs.declared.kind.Kind.TheVariants.{Fans}
use Rattle.season.proofs.next_fans.Goals as goal

pub returns-then-eq : goal.returns-then-eq
returns-then-eq c =
    let L = c.loop-i in
    let A = c.args in
    omega (arith, next_here A.stream.now L.i (A.n - L.i) (of_kind Fans c.kind_at.ensures (search rules)), L.invariant.1)

pub loop-i-preserved : goal.loop-i-preserved
loop-i-preserved c =
    let L = c.loop-i in
    let A = c.args in
    let other = of_other Fans fans_told c.kind_at.ensures (λ e. search rules) in
    let fewer : A.n - (L.i + 1) ≡ A.n - L.i - 1 = omega arith in
    (omega arith, rw fewer (sym (next_later A.stream.now L.i (A.n - L.i) other (omega arith)) ∙ L.invariant.1))

pub returns : goal.returns
returns c = let L = c.loop-i in let A = c.args in omega (arith, next_most A.stream.now L.i (A.n - L.i), L.invariant.1)
