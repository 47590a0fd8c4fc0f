use Prim.Native.Nat.{◌+◌, ◌-◌, ◌/◌}
use mathlib.Core.Path.{◌≡◌}
use lib.ListN.{length}
use Rattle.model.specs.Records.{record_size}
use Rattle.draw.proofs.Walks.{units_left}
use Rattle.draw.proofs.line.Line.units_before.Given as goal

abbrev pub invariant-loop-k : goal.invariant-loop-k
invariant-loop-k l =
    let plan = l.self.plan.now in
    l.sum + units_left plan l.self.dose l.tick l.k (length plan / record_size - l.k) ≡ units_left plan l.self.dose l.tick 0 (length plan / record_size)
