-- `units_before` meets its contract: the sum so far and the units of the records left make the units of all (Walks).
use Prim.Native.Nat.{◌+◌, ◌-◌, ◌/◌, ◌<◌}
use mathlib.Core.Path.{◌≡◌, ap, ◌∙◌}
use native.Mathlib.Omega.{arith}
use lib.ListN.{length}
use Rattle.model.specs.Plans.{Slot}
use Rattle.model.specs.Records.{record_size}
use Rattle.draw.specs.Drawing.{slot_units}
use Rattle.draw.proofs.Walks.{units_more, units_same, units_all, units_end}
use Rattle.draw.proofs.line.Line.units_before.Goals.{in-Some, in_default}
use Rattle.draw.proofs.line.Line.units_before.Goals as goal

pub overflow_add-sum : goal.overflow_add-sum
overflow_add-sum c =
    let line = c.args.self.now in
    let tick = c.args.tick in
    let added = c.units_in-sum.ensures ∙ ap (λ (s : Slot). slot_units s tick) c.in-Some.ensures.1 in
    let all = units_all line.plan.now line.dose line.drawable tick in
    omega (arith, units_more line.plan.now line.dose tick _ _ c.loop-k.sum (omega arith) c.loop-k.invariant c.in-Some.ensures.0 _ added, all.0, all.1)

pub loop-k-preserved : goal.loop-k-preserved
loop-k-preserved c =
    let line = c.args.self.now in
    let tick = c.args.tick in
    let n = length line.plan.now / record_size in
    let left : 0 < n - c.loop-k.k = omega arith in
    let fewer : n - (c.loop-k.k + 1) ≡ n - c.loop-k.k - 1 = omega arith in
    rw fewer (elim c.match-own_slot.branch [
      | in-Some w ↦
          rw w.sum-is (units_more line.plan.now line.dose tick _ _ c.loop-k.sum left c.loop-k.invariant w.in-Some.ensures.0 _
          (w.units_in-sum.ensures ∙ ap (λ (s : Slot). slot_units s tick) w.in-Some.ensures.1))
      | in_default w ↦ rw w.sum-is (units_same line.plan.now line.dose tick _ _ c.loop-k.sum left c.loop-k.invariant w.in_default.ensures)
    ])

pub returns : goal.returns
returns c = units_end _ _ _ _ _ c.loop-k.sum c.loop-k.invariant (omega arith) c.args.self.now.drawable
