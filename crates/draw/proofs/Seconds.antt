-- A slot that feeds a second. Assumes nothing.
use mathlib.Core.Bool.{◌&&◌}
use mathlib.Core.Path.{◌≡◌}
use Prim.Native.Nat.{ℕ, ◌+◌, ◌*◌}
use native.Mathlib.Omega.{arith}
use lib.Dec.{ltb}
use Rattle.model.specs.Plans.{Slot}
use Rattle.model.specs.Stands.{starts, ends}
use Rattle.model.specs.Line.{feeds}

-- a slot feeds second t if it starts before the next one, which starts a whole W of parts behind t, and ends after t
pub feeds_by : (s : Slot) (t : ℕ) {now next from to : ℕ} → now ≡ t * s.weight → next ≡ t * s.weight + s.weight → from ≡ starts s → to ≡ ends s
    → (ltb from next && ltb now to) ≡ feeds s t
unfolding feeds
feeds_by s t e f g h =
    let after : t * s.weight + s.weight ≡ (t + 1) * s.weight = omega arith in
    rw (e, f, g, h, after)
