-- `phase` meets its contract: one class more is the tally so far (OnePhase).
use native.Mathlib.Omega.{arith}
use Rattle.measure.specs.Arrays.{set_of}
use Rattle.classes.proofs.OnePhase.{some_remain, some_size, so_far_next}
use Rattle.classes.proofs.phase.Goals as goal

pub next_class-next-requires : goal.next_class-next-requires
next_class-next-requires c =
    let laid = c.args.setting.now in
    some_remain laid (λ j. laid.order.fans) c.args.tally _ _ c.requires.0 c.requires.1

-- the next class with its row of the table and its shares
pub returns : goal.returns
returns c =
    let laid = c.args.setting.now in
    let next = c.next_class-next in
    let after = c.after in (
      so_far_next laid (λ j. laid.order.fans) c.args.tally _ _ c.requires.0 c.requires.1 c.free_fans-free.result (rw c.from.ensures at c.free_fans-free.ensures)
          next.result.members _ next.result.reserved _ _ next.ensures.measured next.ensures.chosen
          after.result _ _ after.ensures c.reserve.ensures c.keep_shares.ensures,
      omega (arith, after.ensures.classed, some_size laid.order.count (set_of next.result.members) next.ensures.chosen.next.some),
    )
