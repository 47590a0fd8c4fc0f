-- The two searches meet their contracts together: the number of unseen stations falls at each call. In each loop nothing was pushed so far,
-- and what was seen since the start is exhausted.
use Rattle.std.proofs.Common.{◌+◌, arith, rules}
use Rattle.model.specs.Limits.{most_doses}
use Rattle.class_chains.proofs.Laws.{falls_to}
use Rattle.class_chains.proofs.Searches.{new_station, tried_none, dose_called, interval_called}
use Rattle.class_chains.proofs.Searches.{dose_fails, dose_pushes, interval_spares, interval_fails, interval_pushes}
use Rattle.class_chains.proofs.Fill.+from_dose_from_interval.Goals as goal

-- ---- from a dose

pub from_dose-loop-j-init : goal.from_dose-loop-j-init
from_dose-loop-j-init t c = record { refilled = search rules; tried = tried_none }

pub from_dose-from_interval-a-requires : goal.from_dose-from_interval-a-requires
from_dose-from_interval-a-requires t c =
    let tried = c.loop-j.invariant.tried in
    let new = new_station c.args.d c.args.self.now.bounded c.if-seen-d.false (search rules) in
    (falls_to _ _ t new.inside new.unseen c.decreases tried.kept, (c.loop-j-test.true, c.requires.1))

pub from_dose-returns-then-a-gt0-clause-searched :
    goal.from_dose-returns-then-a-gt0-clause-searched
from_dose-returns-then-a-gt0-clause-searched t c =
    let refilled = c.loop-j.invariant.refilled in
    let new = new_station c.args.d c.args.self.now.bounded c.if-seen-d.false (search rules) in
    dose_pushes c.args.want c.requires.0 new c.loop-j.invariant.tried c.room-room.result c.loop-j-test.true (rw refilled.rooms at c.room-room.ensures) c.min-w.ensures
    (interval_called refilled.rooms refilled.holds c.from_interval-a.ensures.searched) c.if-a-gt0.true c.take.ensures.taken

pub from_dose-returns-clause-searched : goal.from_dose-returns-clause-searched
from_dose-returns-clause-searched t c =
    let new = new_station c.args.d c.args.self.now.bounded c.if-seen-d.false (search rules) in
    dose_fails _ c.requires.0 new c.loop-j.invariant.tried c.loop-j-test.false

-- ---- from an interval

-- the interval has spare time
pub from_interval-returns-then-least-spare-clause-searched :
    goal.from_interval-returns-then-least-spare-clause-searched
from_interval-returns-then-least-spare-clause-searched t c =
    let new = new_station (most_doses + c.args.j) c.args.self.now.bounded c.if-seen-j.false (search rules) in
    interval_spares _ c.requires.0 new _ c.spare-spare.ensures c.min.ensures (omega (arith, c.min.ensures))

pub from_interval-loop-d-init : goal.from_interval-loop-d-init
from_interval-loop-d-init t c = record { refilled = search rules; tried = tried_none }

pub from_interval-from_dose-a-requires : goal.from_interval-from_dose-a-requires
from_interval-from_dose-a-requires t c =
    let tried = c.loop-d.invariant.tried in
    let new = new_station (most_doses + c.args.j) c.args.self.now.bounded c.if-seen-j.false (search rules) in
    (falls_to _ _ t new.inside new.unseen c.decreases tried.kept, (c.loop-d-test.true, c.requires.1))

pub from_interval-returns-then-a-gt0-clause-searched :
    goal.from_interval-returns-then-a-gt0-clause-searched
from_interval-returns-then-a-gt0-clause-searched t c =
    let refilled = c.loop-d.invariant.refilled in
    let new = new_station (most_doses + c.args.j) c.args.self.now.bounded c.if-seen-j.false (search rules) in
    interval_pushes c.args.want c.requires.0 new c.loop-d.invariant.tried c.loop-d-test.true c.min-w.ensures
    (dose_called refilled.rooms refilled.holds c.from_dose-a.ensures.searched) c.if-a-gt0.true c.give_back.ensures.given_back

pub from_interval-returns-clause-searched : goal.from_interval-returns-clause-searched
from_interval-returns-clause-searched t c =
    let new = new_station (most_doses + c.args.j) c.args.self.now.bounded c.if-seen-j.false (search rules) in
    interval_fails _ c.requires.0 new _ c.spare-spare.ensures c.if-least-spare.false c.loop-d.invariant.tried c.loop-d-test.false
