use Rattle.std.proofs.Common.{◌≤◌}
use Rattle.model.specs.Limits.{most_doses}
use Rattle.class_shares.specs.Share.{Raised}
use Rattle.class_shares.specs.Sharings.{Reshared}
use Rattle.class_shares.proofs.Sharing.raise.Given as goal

abbrev pub invariant-loop-least : goal.invariant-loop-least
invariant-loop-least l =
    let f = l.initial.self.fill in
    record {
      reshared : Reshared l.initial.self l.self;
      some : 1 ≤ l.least;
      raised : Raised f.rooms.now f.holds.now l.initial.self.needs.now l.least most_doses l.dead l.self.fill.shares.now;
    }

abbrev pub decreases-loop-least : goal.decreases-loop-least
decreases-loop-least l = l.least
