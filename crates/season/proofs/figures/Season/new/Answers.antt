-- `Season::new` meets its contract: every figure of no order is 0, and its rate 0 and 1.
use mathlib.Core.Path.{refl}
use Rattle.model.specs.Lists.{gather, total}
use Rattle.model.specs.Season.{greatest_from, season_of}
use Rattle.season.proofs.figures.Season.new.Goals as goal

pub returns : goal.returns
unfolding season_of gather total greatest_from
returns c = refl
