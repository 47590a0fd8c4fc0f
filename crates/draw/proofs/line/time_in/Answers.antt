-- `time_in` meets its contract: no record passed is a slot of the dose, so the records left give the P that all give (Walks).
use Prim.Native.Nat.{◌+◌, ◌-◌, ◌/◌}
use mathlib.Core.Path.{◌≡◌, sym, ap, ◌∙◌}
use native.Mathlib.Omega.{arith}
use lib.ListN.{length}
use Rattle.model.specs.Records.{record_size}
use Rattle.model.specs.Plans.{Slot}
use Rattle.draw.proofs.Walks.{time_found, time_again, time_end}
use Rattle.draw.proofs.line.time_in.Goals as goal

pub returns-in-Some : goal.returns-in-Some
returns-in-Some c =
    ap (λ (s : Slot). s.time) c.in-Some.ensures.1
    ∙ time_found c.requires _ _ c.loop-k.invariant (omega arith) (sym c.in-Some.ensures.0)

pub loop-k-preserved : goal.loop-k-preserved
loop-k-preserved c =
    let n = length c.args.plan.now / record_size in
    let fewer : n - (c.loop-k.k + 1) ≡ n - c.loop-k.k - 1 = omega arith in
    rw fewer (time_again c.requires _ _ c.loop-k.invariant (omega arith) (sym c.in_default.ensures))

pub returns : goal.returns
returns c = time_end c.requires _ _ c.loop-k.invariant (omega arith)
