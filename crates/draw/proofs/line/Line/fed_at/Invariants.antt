use Prim.Native.Nat.{◌-◌, ◌/◌}
use mathlib.Core.Path.{◌≡◌}
use lib.ListN.{length}
use Rattle.model.specs.Records.{record_size}
use Rattle.draw.proofs.Walks.{fed_left}
use Rattle.draw.proofs.line.Line.fed_at.Given as goal

abbrev pub invariant-loop-k : goal.invariant-loop-k
invariant-loop-k l =
    let plan = l.self.plan.now in
    l.kept ≡ fed_left plan l.self.dose l.tick l.k (length plan / record_size - l.k)
