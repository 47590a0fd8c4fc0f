use Rattle.std.proofs.Common.{◌≤◌}
use Rattle.class_shares.proofs.Sharing.largest_shortage.Given as goal

abbrev pub invariant-loop-k : goal.invariant-loop-k
invariant-loop-k l = 1 ≤ l.most
