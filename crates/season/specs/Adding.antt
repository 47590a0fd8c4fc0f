-- The season's figures with one order more. Only the contracts of private functions cite this page.
use Rattle.std.specs.Prelude.{◌+◌, get_or, set}
use Rattle.model.specs.Season.{Outcome, Season, accepted_with, greater, refused_by}

unfoldable pub with_outcome : Season → Outcome → Season
with_outcome s (accepted_with grams seconds first) = record {
  accepted = s.accepted + 1;
  refused = s.refused;
  grams = s.grams + grams;
  seconds = s.seconds + seconds;
  greatest = greater s.greatest first;
}
with_outcome s (refused_by number) = record {
  accepted = s.accepted;
  refused = set s.refused number (get_or s.refused number 0 + 1);
  grams = s.grams;
  seconds = s.seconds;
  greatest = s.greatest;
}
