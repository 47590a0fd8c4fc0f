use Rattle.std.proofs.Common.{◌≡◌, ◌+◌, get_or}
use Rattle.class_chains.specs.Chains.{got}
use Rattle.class_shares.specs.Sharings.{Reshared}
use Rattle.class_shares.proofs.Sharing.first_shares.Given as goal

abbrev pub invariant-loop-j : goal.invariant-loop-j
invariant-loop-j l = record {
  reshared : Reshared l.initial.self l.self;
  missing : got l.self.fill.shares.now l.d + l.miss ≡ get_or l.self.needs.now l.d 0;
}
