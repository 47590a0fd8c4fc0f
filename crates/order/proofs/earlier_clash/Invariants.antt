use Prim.Native.Nat.{◌-◌}
use mathlib.Core.Path.{◌≡◌}
use Rattle.order.specs.Gathered.{first_of, doses_clash, earlier_clash}
use Rattle.order.proofs.earlier_clash.Given as goal

abbrev pub invariant-loop-j : goal.invariant-loop-j
invariant-loop-j l = first_of (doses_clash l.o.rest l.o l.k) l.j (l.k - l.j) ≡ earlier_clash l.o.rest l.o l.k
