-- What a class in an interval is known to be.
use Rattle.std.specs.Prelude.{◌+◌, ◌≤◌, ◌<◌}
use Rattle.model.specs.Limits.{most_weight, most_fans, week}
use Rattle.model.specs.Layout.{Lane}

-- a class in an interval of the week, on fans up to the eighth
pub record LaneReady (l : Lane) : Type 0 where
  pub heavy : 0 < l.weight
  pub light : l.weight ≤ most_weight
  pub wide : 0 < l.len
  pub week : l.start + l.len ≤ week
  pub below : l.below ≤ most_fans
