-- `plan` meets its contract: 1 by the buffer's length, 2 to 8 and 15 by the reading, then 9 or the plan (Answering).
use borrow.Author.Rules.{rules}
use Rattle.model.proofs.Orders.{read_fits}
use Rattle.order.proofs.Settles.{was_read, was_refused}
use Rattle.plan.specs.declared.refusal.Refusal.TheVariants.{Order}
use Rattle.plan.proofs.Answering.{by_reading, nine_or_done, one}
use Rattle.plan.proofs.Exits.{error_out, value_in}
use Rattle.plan.proofs.plan.Goals as goal

pub returns-then-plan-lt-PLAN_ROOM : goal.returns-then-plan-lt-PLAN_ROOM
returns-then-plan-lt-PLAN_ROOM c = one _ _ c.if-plan-lt-PLAN_ROOM.true

-- the reading's refusal goes out as planning's
pub returns-in_err-o : goal.returns-in_err-o
returns-in_err-o c =
    let out = error_out Order (λ e d q. search rules) c.read_order.result c.from_residual.result c.map_err.ensures.cases c.in_err-o.was c.from_residual.ensures.1 in
    rw out.2 (by_reading _ _ c.if-plan-lt-PLAN_ROOM.false (was_refused _ (rw out.1 at c.read_order.ensures)))

pub plan_order-requires : goal.plan_order-requires
plan_order-requires c =
    let read = value_in Order (λ e d q. search rules) c.read_order.result c.map_err.ensures.cases c.in_ok-o.was in
    (read_fits _ _ _ (was_read _ (rw read at c.read_order.ensures)), c.if-plan-lt-PLAN_ROOM.false)

pub returns : goal.returns
returns c =
    let read = value_in Order (λ e d q. search rules) c.read_order.result c.map_err.ensures.cases c.in_ok-o.was in
    nine_or_done _ _ c.if-plan-lt-PLAN_ROOM.false (was_read _ (rw read at c.read_order.ensures)) c.plan_order.ensures
