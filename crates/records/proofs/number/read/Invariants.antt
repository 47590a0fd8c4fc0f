use Prim.Native.Nat.{◌<◌, ◌+◌, ◌-◌, ◌^◌}
use mathlib.Core.Path.{◌≡◌}
use Rattle.model.specs.Records.{number_at}
use Rattle.records.proofs.number.read.Given as goal

abbrev pub invariant-loop-i : goal.invariant-loop-i
invariant-loop-i g l = (l.n ≡ number_at l.s (l.at + l.i) (g.row.N - l.i)) × (l.n < 256 ^ (g.row.N - l.i))
