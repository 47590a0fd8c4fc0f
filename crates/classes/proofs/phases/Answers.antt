-- `phases` meets its contract: the tally so far is the invariant, and the doses not yet classed fall.
use native.Mathlib.Omega.{arith}
use Rattle.classes.proofs.OnePhase.{so_far_start}
use Rattle.classes.proofs.phases.Goals as goal

pub loop-tally-init : goal.loop-tally-init
loop-tally-init c =
    let laid = c.args.setting.now in
    let none = c.start-tally.ensures in
    (omega (arith, none.classed), so_far_start laid (λ j. laid.order.fans) _ _ _ none c.told-table c.requires)
