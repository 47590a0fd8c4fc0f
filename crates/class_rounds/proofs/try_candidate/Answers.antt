-- `try_candidate` meets its contract: the arrays are those that the candidate asks for (OneRound).
use native.Mathlib.Omega.{arith}
use Rattle.measure.specs.Arrays.{set_of}
use Rattle.measure.proofs.Laws.{W-most, time_most, worked_out}
use Rattle.class_rounds.proofs.OneRound.{found, onward}
use Rattle.class_rounds.proofs.try_candidate.Goals as goal

-- W fits
pub lay_rooms-requires : goal.lay_rooms-requires
lay_rooms-requires c = omega (arith, c.weight_of-w.ensures, W-most c.args.setting.now.arrays (set_of c.args.set.now))

pub holds_of-holds-requires : goal.holds_of-holds-requires
holds_of-holds-requires c =
    (c.open_fans-reserved.ensures.small, omega (arith, c.weight_of-w.ensures, W-most c.args.setting.now.arrays (set_of c.args.set.now)))

-- and P
pub needs_of-needs-requires : goal.needs_of-needs-requires
needs_of-needs-requires c =
    omega (arith, c.fan_time-p.ensures, time_most c.args.setting.now.arrays c.open_fans-reserved.result c.open_fans-reserved.ensures.small)

pub returns-then-needs_met : goal.returns-then-needs_met
returns-then-needs_met c = λ rest z past.
    let A = c.args in
    let h = A.setting.now in
    let reserved = c.open_fans-reserved in
    let known = worked_out h A.free.now A.set.now reserved.result _ _ reserved.ensures c.weight_of-w.ensures c.fan_time-p.ensures in
    record {
      measured = known;
      small = reserved.ensures.small;
      chosen = found h A.free.now A.set.now _ _ _ known _ _ _ c.lay_rooms.ensures c.holds_of-holds.ensures c.needs_of-needs.ensures _ _ _ c.find_shares-dead.ensures
          c.needs_met.ensures c.if-needs_met.true rest z past;
    }

pub returns-else-needs_met : goal.returns-else-needs_met
returns-else-needs_met c =
    let A = c.args in
    let h = A.setting.now in
    let reserved = c.open_fans-reserved in
    let known = worked_out h A.free.now A.set.now reserved.result _ _ reserved.ensures c.weight_of-w.ensures c.fan_time-p.ensures in
    onward h A.free.now A.set.now _ _ _ known _ _ _ c.lay_rooms.ensures c.holds_of-holds.ensures c.needs_of-needs.ensures _ _ _ c.find_shares-dead.ensures
    c.needs_met.ensures c.if-needs_met.false c.dead_part-part.result c.dead_part-part.ensures
