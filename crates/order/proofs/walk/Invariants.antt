use Prim.Native.Nat.{◌/◌}
use lib.ListN.{length}
use Rattle.model.specs.Records.{record_size}
use Rattle.order.proofs.Walks.{Walking}
use Rattle.order.proofs.walk.Given as goal

abbrev pub invariant-loop-k : goal.invariant-loop-k
invariant-loop-k l = Walking l.last l.bytes (length l.bytes / record_size) l.k l.s
