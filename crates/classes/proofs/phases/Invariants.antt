use Prim.Native.Nat.{◌≤◌, ◌-◌}
use Rattle.measure.specs.Held.{as_setting}
use Rattle.classes.specs.Phase.{SoFar}
use Rattle.classes.proofs.phases.Given as goal

abbrev pub invariant-loop-tally : goal.invariant-loop-tally
invariant-loop-tally l = (l.tally.classed ≤ l.setting.order.count) × SoFar (as_setting l.setting) (λ j. l.setting.order.fans) l.tally l.table l.shares

abbrev pub decreases-loop-tally : goal.decreases-loop-tally
decreases-loop-tally l = l.setting.order.count - l.tally.classed
