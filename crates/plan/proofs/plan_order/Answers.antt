-- `plan_order` meets its contract: a first class above the top rate is 9 with no byte written; else the plan is written (Answering).
use Rattle.plan.proofs.Answering.{slow_enough, too_fast_lem}
use Rattle.plan.proofs.plan_order.Goals as goal

pub returns-in-Some : goal.returns-in-Some
returns-in-Some c = too_fast_lem _ _ c.too_fast.ensures c.in-Some.is

pub returns : goal.returns
returns c = slow_enough c.too_fast.ensures c.in_default.is c.write_order.ensures
