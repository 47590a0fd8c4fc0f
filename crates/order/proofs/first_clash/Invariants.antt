use Prim.Native.Nat.{◌-◌}
use mathlib.Core.Path.{◌≡◌}
use Rattle.order.specs.Gathered.{first_of, clashes_earlier, first_clash}
use Rattle.order.proofs.first_clash.Given as goal

abbrev pub invariant-loop-k : goal.invariant-loop-k
invariant-loop-k l = first_of (clashes_earlier l.o.rest l.o) l.k (l.o.count - l.k) ≡ first_clash l.o.rest l.o
