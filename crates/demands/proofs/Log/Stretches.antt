-- The stretches of a log whose ticks rise, beside any line that never falls: what they come to together. Assumes nothing.
use mathlib.Core.Path.{◌≡◌, refl, ap}
use mathlib.Core.List.{List, [], ◌∷◌}
use mathlib.Core.Logic.{◌≢◌}
use Prim.Native.Nat.{ℕ, ◌+◌, ◌-◌, ◌≤◌, ◌<◌}
use native.Mathlib.Omega.{arith}
use Rattle.model.specs.Lists.{All, none, also, total}
use Rattle.model.specs.Log.{Logged, Metering, Stretch, if_known, if_unknown, known, metering, rise, stretches, stretches_from, unknown}

-- ---- first and last tick

-- the tick of the last record, from record m over the later ones
unfoldable pub last_from : Logged → List Logged → ℕ
last_from m [] = m.tick
last_from m (n ∷ later) = last_from n later

unfoldable pub last_tick : List Logged → ℕ
last_tick [] = 0
last_tick (m ∷ later) = last_from m later

unfoldable pub first_tick : List Logged → ℕ
first_tick [] = 0
first_tick (m ∷ later) = m.tick

-- each tick is above the one before, the first one above t
pub data RisesBehind : ℕ → List Logged → Type 0 where
  last : {t : ℕ} → RisesBehind t []
  behind : {t : ℕ} {m : Logged} {later : List Logged} → t < m.tick → RisesBehind m.tick later → RisesBehind t (m ∷ later)

pub data Rises : List Logged → Type 0 where
  empty : Rises []
  from : {m : Logged} {later : List Logged} → RisesBehind m.tick later → Rises (m ∷ later)

-- a line never falls
abbrev pub NeverFalls : (ℕ → ℕ) → Type 0
NeverFalls line = (t h : ℕ) → line t ≤ line (t + h)

-- ---- a stretch is known or it is not

parted : (a : Metering) (v : ℕ) → if_known a v + if_unknown a v ≡ v
unfolding if_known if_unknown
parted (known n) v = omega arith
parted unknown v = omega arith

module _ (line : ℕ → ℕ) (up : NeverFalls line) where
  ahead : (s t : ℕ) → s < t → line s ≤ line t
  ahead s t l = rw (ap line (there s t l)) at (up s (t - s))
    where
      there : (s t : ℕ) → s < t → s + (t - s) ≡ t
      there s t l = omega arith

  -- the line at the last tick is no lower
  last_ahead : (m : Logged) (later : List Logged) → RisesBehind m.tick later → line m.tick ≤ line (last_from m later)
  unfolding last_from
  last_ahead m [] last = omega arith
  last_ahead m (n ∷ later) (behind l r) = omega (arith, ahead m.tick n.tick l, last_ahead n later r)

  rises_from_lem : (m : Logged) (later : List Logged) → RisesBehind m.tick later
      → total (λ s. if_known (metering s) (rise line s)) (stretches_from m later) + total (λ s. if_unknown (metering s) (rise line s)) (stretches_from m later)
      ≡ line (last_from m later) - line m.tick
  unfolding total stretches_from last_from
  rises_from_lem m [] last = omega arith
  rises_from_lem m (n ∷ later) (behind l r) =
      let s : Stretch = record { from = m; to = n } in
      omega (arith, parted (metering s) (rise line s), rises_from_lem n later r, ahead m.tick n.tick l, last_ahead n later r)

  -- in known and unknown stretches together the line rises by what it rises from the first tick to the last
  pub rises_together : (log : List Logged) → Rises log
      → total (λ s. if_known (metering s) (rise line s)) (stretches log) + total (λ s. if_unknown (metering s) (rise line s)) (stretches log)
      ≡ line (last_tick log) - line (first_tick log)
  unfolding total stretches last_tick first_tick
  rises_together [] empty = omega arith
  rises_together (m ∷ later) (from r) = rises_from_lem m later r

-- the last tick is no lower than the first
pub first_before_last : (log : List Logged) → Rises log → first_tick log ≤ last_tick log
unfolding last_tick first_tick
first_before_last [] empty = omega arith
first_before_last (m ∷ later) (from r) = last_ahead (λ t. t) (λ t h. omega arith) m later r

-- ---- where every stretch is known

-- no stretch is unknown
abbrev pub AllKnown : List Stretch → Type 0
AllKnown = All (λ s. metering s ≢ unknown)

not_unknown : (a : Metering) (v : ℕ) → a ≢ unknown → if_unknown a v ≡ 0
unfolding if_unknown
not_unknown (known n) v k = refl
not_unknown unknown v k = absurd (k refl)

pub none_unknown : (f : Stretch → ℕ) (ss : List Stretch) → AllKnown ss → total (λ s. if_unknown (metering s) (f s)) ss ≡ 0
unfolding total
none_unknown f [] none = refl
none_unknown f (s ∷ ss) (also k h) = omega (arith, not_unknown (metering s) (f s) k, none_unknown f ss h)
