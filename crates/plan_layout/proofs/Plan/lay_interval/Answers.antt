-- `lay_interval` meets its contract: the classes passed are laid, and `below` is the sum of their reserved fans (Arrays).
use native.Mathlib.Omega.{arith}
use Rattle.plan_layout.proofs.Arrays.{below_at, interval_all, rising_more, rising_none, rooms_at}
use Rattle.plan_layout.proofs.Plan.lay_interval.Goals as goal

pub loop-i-init : goal.loop-i-init
loop-i-init c = rising_none _ _

pub lay_class-requires-clause-room : goal.lay_class-requires-clause-room
lay_class-requires-clause-room c =
    rooms_at _ c.loop-i.invariant c.requires.interval (omega arith) c.requires.room c.lane.ensures

pub overflow_add-below : goal.overflow_add-below
overflow_add-below c = omega (arith, below_at _ c.loop-i.invariant c.requires.interval (omega arith), c.from-below.ensures)

pub loop-i-preserved : goal.loop-i-preserved
loop-i-preserved c = rising_more _ c.loop-i.invariant c.lane.ensures c.lay_class.ensures c.from-below.ensures

pub lane-requires-clause-fans : goal.lane-requires-clause-fans
lane-requires-clause-fans c = omega (arith, below_at _ c.loop-i.invariant c.requires.interval (omega arith))

pub returns : goal.returns
returns c = interval_all _ c.loop-i.invariant (omega arith)
