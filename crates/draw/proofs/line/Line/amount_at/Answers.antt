-- `amount_at` meets its contract: the dose's P is above 0, and the whole part of its units divided by P is no more than a dose may have (Points).
use mathlib.Core.Path.{refl}
use Rattle.model.specs.Line.{drawn}
use Rattle.draw.proofs.Points.{amounts}
use Rattle.draw.proofs.line.Line.amount_at.Goals as goal

pub returns : goal.returns
unfolding drawn
returns c =
    let line = c.args.self.now in
    let most = (amounts line.plan.now line.dose line.drawable c.args.tick).1 in
    rw (c.units_before.ensures, c.from.ensures, line.timed) (refl, most)
