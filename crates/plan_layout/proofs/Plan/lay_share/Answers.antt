-- `lay_share` meets its contract: a share of 0 gives no record, an uncut share one, a cut share two (Shares).
use native.Mathlib.Omega.{arith}
use Rattle.plan_layout.specs.Held.{as_lane}
use Rattle.plan_layout.proofs.Runs.{fits_behind}
use Rattle.plan_layout.proofs.Shares.{laid_none, laid_one, laid_two, room_one, room_two}
use Rattle.plan_layout.proofs.Plan.lay_share.Goals as goal

pub returns-then-x-eq0 : goal.returns-then-x-eq0
returns-then-x-eq0 c =
    let A = c.args in
    laid_none (as_lane A.l.now) A.dose A.a A.x c.if-x-eq0.true

pub put_slot-requires : goal.put_slot-requires
put_slot-requires c = room_one c.args.l.now.ready c.requires c.if-x-eq0.false c.if-low-x.true

pub put_slot-requires-else-low-x : goal.put_slot-requires-else-low-x
put_slot-requires-else-low-x c = omega (arith, room_two c.args.l.now.ready c.requires c.if-x-eq0.false c.if-low-x.false)

pub put_slot-requires-else-low-x-2 : goal.put_slot-requires-else-low-x-2
put_slot-requires-else-low-x-2 c =
    fits_behind 2 1 (room_two c.args.l.now.ready c.requires c.if-x-eq0.false c.if-low-x.false) c.put_slot-else-low-x.ensures (omega arith)

pub returns-then-low-x : goal.returns-then-low-x
returns-then-low-x c =
    let A = c.args in
    laid_one (as_lane A.l.now) A.dose A.a A.x c.if-x-eq0.false c.if-low-x.true c.slot.ensures c.put_slot.ensures

pub returns-else-low-x : goal.returns-else-low-x
returns-else-low-x c =
    let A = c.args in
    laid_two (as_lane A.l.now) A.dose A.a A.x c.if-x-eq0.false c.if-low-x.false
    c.slot-else-low-x.ensures c.slot-else-low-x-2.ensures c.put_slot-else-low-x.ensures c.put_slot-else-low-x-2.ensures
