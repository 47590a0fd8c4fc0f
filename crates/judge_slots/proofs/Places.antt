-- Where slots stand: the interval of a tick, the order of slots, and slots that do not overlap.
use mathlib.Core.Path.{◌∙◌, ◌≡◌, ap}
use mathlib.Core.Logic.{inl, inr}
use mathlib.Core.List.{List}
use Prim.Native.Nat.{ℕ, zero, suc, ◌+◌, ◌-◌, ◌*◌, ◌<◌, ◌≤◌}
use native.Mathlib.Nat.{eq-or-lt_of_le, le_of_lt, le_of_mul-le-mul_left, mul-le-mul_left, mul-le-mul_right, mul-lt-mul_of_pos_left}
use native.Mathlib.Numerals.{add-one}
use native.Mathlib.Omega.{arith}
use borrow.Author.Tests.{lt-ltb, le-ltb}
use lib.ListN.{get_or}
use Rattle.model.specs.Plans.{Slot}
use Rattle.model.specs.Stands.{Between, EndsBy, ends, starts}
use Rattle.model.proofs.Fractions.{compare≤}
use Rattle.judge_clauses.specs.Tests.{InTurn, SlotLong, by_fan, by_interval, by_time, interval_of, scan}

-- ---- the interval of a tick

module _ (instants : List ℕ) (t : ℕ) where
  pub scan_stop : (j n : ℕ) → 0 < n → t < get_or instants (j + 1) 0 → scan instants t j n ≡ j
  unfolding scan
  scan_stop j zero h l = absurd (omega arith)
  scan_stop j (suc n) h l = rw (lt-ltb t (get_or instants (j + 1) 0) l)

  pub scan_on : (j n : ℕ) → 0 < n → get_or instants (j + 1) 0 ≤ t → scan instants t j n ≡ scan instants t (j + 1) (n - 1)
  unfolding scan
  scan_on j zero h l = absurd (omega arith)
  scan_on j (suc n) h l = let e : suc n - 1 ≡ n = omega arith in rw (e, le-ltb t (get_or instants (j + 1) 0) l)

  pub scan_none : (j n : ℕ) → n ≡ 0 → scan instants t j n ≡ j
  unfolding scan
  scan_none j n e = rw e

  -- an interval in which the tick is, behind others that end at or before it
  scan_at : (n j i : ℕ) → j ≤ i → i < j + n → ((l : ℕ) → l < i → get_or instants (l + 1) 0 ≤ t) → t < get_or instants (i + 1) 0 → scan instants t j n ≡ i
  scan_at zero j i a b h l = absurd (omega arith)
  scan_at (suc n) j i a b h l = elim (eq-or-lt_of_le a) [
    | inl e ↦ rw e (scan_stop i (suc n) (omega arith) l)
    | inr q ↦ let e : suc n - 1 ≡ n = omega arith in scan_on j (suc n) (omega arith) (h j q) ∙ rw e (scan_at n (j + 1) i (omega arith) (omega arith) h l)
  ]

  pub place_at : (J i : ℕ) → i < J → ((l : ℕ) → l < i → get_or instants (l + 1) 0 ≤ t) → t < get_or instants (i + 1) 0 → interval_of instants J t ≡ i
  place_at J i l = scan_at J 0 i (omega arith) (omega arith)

-- ---- moments

-- from a tick up to a slot that starts with a part below W
pub tick_from : (d t q w : ℕ) → q < w → d * w ≤ t * w + q → d ≤ t
tick_from d t q w l h = elim (compare≤ d t) [
  | inl a ↦ a
  | inr a ↦ absurd (omega (arith, mul-le-mul_right w a))
]

-- a moment before a whole tick
pub tick_before : (d t q w : ℕ) → t * w + q < d * w → t < d
tick_before d t q w h = elim (compare≤ d t) [
  | inl a ↦ absurd (omega (arith, mul-le-mul_right w a))
  | inr a ↦ a
]

-- ---- one slot behind another, "by ticks first and then by products of parts"

module _ {s u : Slot} (ls : SlotLong s) (lu : SlotLong u) where
  pub ends_earlier : s.end_tick < u.start_tick → EndsBy s u
  ends_earlier h = record { by = omega (arith, mul-le-mul_right (s.weight * u.weight) h, mul-le-mul_right u.weight (le_of_lt ls.end_part)) }

  pub ends_later : u.start_tick < s.end_tick → EndsBy s u → ⊥
  ends_later h e = omega (arith, e.by, mul-le-mul_right (s.weight * u.weight) h, mul-lt-mul_of_pos_left {k = s.weight} lu.start_part (omega (arith, ls.end_part)))

  pub ends_together : s.end_tick ≡ u.start_tick → s.end_part * u.weight ≤ u.start_part * s.weight → EndsBy s u
  ends_together h l = record { by = omega (arith, ap (λ (x : ℕ). x * (s.weight * u.weight)) h) }

  pub ends_parts : s.end_tick ≡ u.start_tick → EndsBy s u → s.end_part * u.weight ≤ u.start_part * s.weight
  ends_parts h e = omega (arith, e.by, ap (λ (x : ℕ). x * (s.weight * u.weight)) h)

-- one behind another behind a third
pub ends_chain : (s u v : Slot) → EndsBy s u → starts u < ends u → 0 < u.weight → EndsBy u v → EndsBy s v
ends_chain s u v a l w b = record {
  by = le_of_mul-le-mul_left {k = u.weight}
      (omega (arith, mul-le-mul_left v.weight a.by, mul-le-mul_left s.weight b.by, mul-le-mul_left (s.weight * v.weight) (le_of_lt l))) w;
}

-- s ends by a tick at or after which u starts
pub ends_apart : (a b from to : ℕ) (s u : Slot) → b ≤ from → Between a b s → Between from to u → EndsBy s u
ends_apart a b from to s u l x y = record {
  by = omega (arith, mul-le-mul_right u.weight x.high, mul-le-mul_right s.weight y.low, mul-le-mul_right (s.weight * u.weight) l);
}

-- ---- slots in turn

module _ (instants : List ℕ) (intervals : ℕ) where
  -- s before u before v
  pub turn_chain : (s u v : Slot) → SlotLong u → InTurn instants intervals s u → InTurn instants intervals u v → InTurn instants intervals s v
  turn_chain s u v l (by_interval a) (by_interval b) = by_interval (omega arith)
  turn_chain s u v l (by_interval a) (by_fan e b) = by_interval (omega arith)
  turn_chain s u v l (by_interval a) (by_time e f b) = by_interval (omega arith)
  turn_chain s u v l (by_fan d a) (by_interval b) = by_interval (omega arith)
  turn_chain s u v l (by_fan d a) (by_fan e b) = by_fan (d ∙ e) (omega arith)
  turn_chain s u v l (by_fan d a) (by_time e f b) = by_fan (d ∙ e) (omega arith)
  turn_chain s u v l (by_time d g a) (by_interval b) = by_interval (omega arith)
  turn_chain s u v l (by_time d g a) (by_fan e b) = by_fan (d ∙ e) (omega arith)
  turn_chain s u v l (by_time d g a) (by_time e f b) = by_time (d ∙ e) (g ∙ f) (ends_chain s u v a l.long (omega (arith, l.start_part)) b)

  -- so each before every later one
  pub turns_all : (f : ℕ → Slot) (p m : ℕ) → ((i : ℕ) → i < m → p ≤ i → SlotLong (f i)) → ((i : ℕ) → i + 1 < m → p ≤ i → InTurn instants intervals (f i) (f (i + 1)))
      → (l i : ℕ) → p ≤ i → i < l → l < m → InTurn instants intervals (f i) (f l)
  turns_all f p m long turn zero i a b c = absurd (omega arith)
  turns_all f p m long turn (suc l) i a b c = elim (eq-or-lt_of_le b) [
    | inl e ↦ rw (← e, ← add-one i) (turn i (omega arith) a)
    | inr q ↦
        let q' : i < l = omega arith in
        let one : InTurn instants intervals (f l) (f (suc l)) = rw add-one at (turn l (omega arith) (omega arith)) in
        turn_chain (f i) (f l) (f (suc l)) (long l (omega arith) (omega arith)) (turns_all f p m long turn l i a q' (omega arith)) one
  ]
