-- `lay_all` meets its contract: the records of the intervals passed are written, one interval behind the other (Runs).
use native.Mathlib.Omega.{arith}
use Rattle.plan_layout.proofs.Arrays.{room_for, table_all}
use Rattle.plan_layout.proofs.Runs.{gather_more, gather_none}
use Rattle.plan_layout.proofs.Plan.lay_all.Goals as goal

pub loop-j-init : goal.loop-j-init
loop-j-init c = gather_none _

pub lay_interval-requires-clause-room : goal.lay_interval-requires-clause-room
lay_interval-requires-clause-room c = room_for c.args.x.now _ (omega arith) c.requires c.loop-j.invariant

pub loop-j-preserved : goal.loop-j-preserved
loop-j-preserved c = gather_more _ _ c.loop-j.invariant c.lay_interval.ensures

pub returns : goal.returns
returns c = table_all c.args.x.now c.loop-j.invariant (omega arith)
