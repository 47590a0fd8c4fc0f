use Rattle.class_shares.specs.Share.{Raised}
use Rattle.class_shares.specs.Sharings.{Reshared}
use Rattle.class_shares.proofs.Sharing.raise_pass.Given as goal

abbrev pub invariant-loop-d : goal.invariant-loop-d
invariant-loop-d l =
    let f = l.initial.self.fill in
    record {
      reshared : Reshared l.initial.self l.self;
      raised : Raised f.rooms.now f.holds.now l.initial.self.needs.now l.least l.d l.dead l.self.fill.shares.now;
    }
