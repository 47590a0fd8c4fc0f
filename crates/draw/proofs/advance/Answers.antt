-- `advance` meets its contract: the answer is the drawing at the next tick, and the pen moves on only with a point (Drawings).
use mathlib.Core.Path.{refl}
use Rattle.order.proofs.Cases.{passed}
use Rattle.draw.proofs.Drawings.{moves_by, refusal_not_done}
use Rattle.draw.proofs.advance.Goals as goal

pub returns-in_err-p : goal.returns-in_err-p
returns-in_err-p c =
    rw (passed _ c.from_residual.ensures.1) ((moves_by c.args.pen.now.tick c.next_tick-next.ensures c.in_err-p.ensures).0 (refusal_not_done _))

pub returns : goal.returns
returns c = (moves_by c.args.pen.now.tick c.next_tick-next.ensures c.in_ok-p.ensures).1 refl
