use mathlib.Core.Path.{◌≡◌}
use Prim.Native.Nat.{◌*◌, ◌≤◌}
use lib.ListN.{get_or}
use Rattle.model.specs.Sets as sets
use Rattle.interval.specs.Held.{span_in}
use Rattle.measure.proofs.fan_time.Given as goal

abbrev pub invariant-loop-j : goal.invariant-loop-j
invariant-loop-j l = (l.sum ≡ sets.sum l.j (λ i. span_in l.s i * get_or l.reserved i 0)) × (l.sum ≤ l.j * 103079215080)
