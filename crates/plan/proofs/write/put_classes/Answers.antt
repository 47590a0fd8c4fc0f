-- `put_classes` meets its contract: the C records of the classes passed are written, and each has room (Writing).
use native.Mathlib.Omega.{arith}
use Rattle.plan_layout.proofs.Runs.{gather_none}
use Rattle.plan.proofs.Writing.{class_room, classes_all, classes_more}
use Rattle.plan.proofs.write.put_classes.Goals as goal

pub loop-i-init : goal.loop-i-init
loop-i-init c = gather_none _

pub put_class-requires : goal.put_class-requires
put_class-requires c = class_room c.args.t.now c.loop-i.i (omega arith) c.requires.2 c.loop-i.invariant

pub loop-i-preserved : goal.loop-i-preserved
loop-i-preserved c = classes_more c.args.t.now _ c.loop-i.invariant c.class_from.ensures c.put_class.ensures

pub returns : goal.returns
returns c = classes_all c.args.t.now c.loop-i.i c.loop-i.invariant (omega arith)
