-- `judge` meets its contract: each answer is the verdict of its case (Verdicts).
use Rattle.model.proofs.Orders.{read_fits}
use Rattle.order.proofs.Cases.{passed}
use Rattle.order.proofs.Settles.{was_read, was_refused}
use Rattle.judge.proofs.Verdicts.{judged_falls, judged_fast, judged_stands, judged_unread}
use Rattle.judge.proofs.judge.Goals as goal

pub returns-in_err-o : goal.returns-in_err-o
returns-in_err-o c = rw (passed _ c.from_residual.ensures.1) (judged_unread _ _ _ (was_refused _ c.in_err-o.ensures))

pub certify-requires : goal.certify-requires
certify-requires c = read_fits _ _ _ (was_read _ c.in_ok-o.ensures)

pub by_certificate-requires : goal.by_certificate-requires
by_certificate-requires c = (read_fits _ _ _ (was_read _ c.in_ok-o.ensures), c.in-Some.ensures.leader)

pub returns-in-Some-by_certificate : goal.returns-in-Some-by_certificate
returns-in-Some-by_certificate c = judged_fast _ _ _ (was_read _ c.in_ok-o.ensures) _ c.in-Some-by_certificate.ensures

pub returns-in-None-by_certificate : goal.returns-in-None-by_certificate
returns-in-None-by_certificate c = judged_stands _ _ _ (was_read _ c.in_ok-o.ensures) c.in-Some.ensures.stands c.in-None-by_certificate.ensures

pub by_classes-requires : goal.by_classes-requires
by_classes-requires c = read_fits _ _ _ (was_read _ c.in_ok-o.ensures)

pub returns-in-Some-by_classes : goal.returns-in-Some-by_classes
returns-in-Some-by_classes c = judged_fast _ _ _ (was_read _ c.in_ok-o.ensures) _ c.in-Some-by_classes.ensures

pub returns-in-None-by_classes : goal.returns-in-None-by_classes
returns-in-None-by_classes c = judged_falls _ _ _ (was_read _ c.in_ok-o.ensures) c.in-None.ensures c.in-None-by_classes.ensures
