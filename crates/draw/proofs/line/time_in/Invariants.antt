use Prim.Native.Nat.{◌-◌, ◌/◌}
use mathlib.Core.Path.{◌≡◌}
use lib.ListN.{length}
use Rattle.model.specs.Records.{record_size}
use Rattle.draw.proofs.Walks.{time_left}
use Rattle.draw.proofs.line.time_in.Given as goal

abbrev pub invariant-loop-k : goal.invariant-loop-k
invariant-loop-k l = time_left l.plan l.dose l.k (length l.plan / record_size - l.k) ≡ time_left l.plan l.dose 0 (length l.plan / record_size)
