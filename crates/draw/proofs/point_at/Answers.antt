-- `point_at` meets its contract: what the judge refuses, 11 for no such dose, 12 for a tick over 604,800, else the point by the order read again (Drawings).
use mathlib.Core.Path.{refl}
use Rattle.order.proofs.Cases.{passed}
use Rattle.draw.proofs.Drawings.{draws_refused, reads_again, drawable, draws_no_dose, draws_too_late, draws_point, judged_sound, refusal_not_done}
use Rattle.draw.specs.declared.Refusal.TheVariants.{Plan}
use Rattle.draw.proofs.point_at.Goals as goal

pub returns-in_err-judge : goal.returns-in_err-judge
returns-in_err-judge c = rw (passed _ c.from_residual.ensures.1) (draws_refused c.in_err-judge.ensures.answer (refusal_not_done (Plan c.in_err-judge.field-0.0)) refl)

pub unwrap-o-requires : goal.unwrap-o-requires
unwrap-o-requires c = reads_again (judged_sound c.in_ok-judge.ensures.answer refl) c.read_order.result c.read_order.ensures

pub returns-then-o-dose : goal.returns-then-o-dose
returns-then-o-dose c =
    draws_no_dose (judged_sound c.in_ok-judge.ensures.answer refl) (rw c.unwrap-o.ensures at c.read_order.ensures) c.args.dose c.args.tick _ refl c.if-o-dose.true

pub returns-then-tick-gt-WEEK : goal.returns-then-tick-gt-WEEK
returns-then-tick-gt-WEEK c =
    draws_too_late (judged_sound c.in_ok-judge.ensures.answer refl) (rw c.unwrap-o.ensures at c.read_order.ensures) c.args.dose c.args.tick _ refl c.if-o-dose.false c.if-tick-gt-WEEK.true

pub of-requires : goal.of-requires
of-requires c = drawable (judged_sound c.in_ok-judge.ensures.answer refl) (rw c.unwrap-o.ensures at c.read_order.ensures) c.args.dose c.args.tick c.if-o-dose.false

pub returns : goal.returns
returns c =
    draws_point (judged_sound c.in_ok-judge.ensures.answer refl) (rw c.unwrap-o.ensures at c.read_order.ensures) c.args.dose c.args.tick _
    (rw (c.of.ensures.0, c.of.ensures.1) at c.point_at.ensures) c.if-o-dose.false c.if-tick-gt-WEEK.false
