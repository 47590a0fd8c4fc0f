use Rattle.class_shares.specs.Sharings.{Reshared}
use Rattle.class_shares.proofs.find_shares.Given as goal

abbrev pub invariant-loop-d : goal.invariant-loop-d
invariant-loop-d l = Reshared l.initial.sharing l.sharing
