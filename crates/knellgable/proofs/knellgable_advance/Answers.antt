-- `knellgable_advance` meets its contract: the pen stays at its dose, and its tick is the one that is lent (Pens).
use Rattle.draw.specs.Drawing.{as_drawn}
use Rattle.knellgable.proofs.Pens.{dose_stays}
use Rattle.knellgable.proofs.knellgable_advance.Goals as goal

pub returns : goal.returns
returns c = record {
  drawn = as_drawn c.advance.result;
  moves = rw (dose_stays c.advance.ensures) at c.advance.ensures;
  numbers = c.from-drawn.ensures;
}
