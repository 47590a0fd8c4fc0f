-- Laws of the slots of one class in one interval: each lies there, they follow each other, and each share is whole.
use mathlib.Core.Path.{◌∙◌, ◌≡◌, ap, refl}
use Prim.Native.Nat.{ℕ, ◌+◌, ◌*◌, ◌/◌, ◌%◌, ◌≤◌, ◌<◌}
use native.Mathlib.Nat.{div-add-mod', lt_of_mul-lt-mul_right, mod-lt, mul-le-mul_right, mul-pos}
use native.Mathlib.Omega.{arith}
use lib.Dec.{eqb}
use Rattle.model.specs.Sets.{sum, on}
use Rattle.model.specs.Lists.{All, Pairs, total}
use Rattle.model.specs.Plans.{Slot}
use Rattle.model.specs.Layout.{Piece, Lane, lane_slots, line, piece_slot}
use Rattle.model.specs.Stands.{Between, EndsBy, ends, starts, units_of}
use Rattle.model.proofs.Lists.{All-imp, All-map, Pairs-map, Pairs-with, total_congr, total_map}
use Rattle.model.proofs.Laid.Wrap.{Follow, Placed, line_follow, line_placed, line_units, units}

-- a moment's fraction, put together again
moment : (τ s W : ℕ) → (τ + s / W) * W + s % W ≡ τ * W + s
moment τ s W = omega (arith, div-add-mod' s W)

-- m fans above those below, shares each at most L × W, in all m × L × W
module _ (l : Lane) (x : ℕ → ℕ) (n m : ℕ) (heavy : 0 < l.weight) (wide : 0 < l.len)
    (most : (k : ℕ) → k < n → x k ≤ l.len * l.weight) (full : sum n x ≡ m * (l.len * l.weight)) where
  -- a slot of the class in the interval
  pub record LaneSlot (s : Slot) : Type 0 where
    pub within : Between l.start (l.start + l.len) s
    pub start_part : s.start_part < s.weight
    pub end_part : s.end_part < s.weight
    pub long : starts s < ends s
    pub dose : s.dose < n
    pub some : 0 < x s.dose
    pub above_fan : l.below < s.fan
    pub most_fan : s.fan ≤ l.below + m
    pub class : s.class ≡ l.class
    pub weight : s.weight ≡ l.weight
    pub time : s.time ≡ l.time

  -- in the order of the list: s, then u
  pub record Next (s u : Slot) : Type 0 where
    pub order : s.fan ≤ u.fan
    pub same_fan : s.fan ≡ u.fan → EndsBy s u
    pub same_dose : s.dose ≡ u.dose → EndsBy u s

  abbrev Pl : Piece → Type 0
  Pl = Placed (l.len * l.weight) (mul-pos wide heavy) x n most m

  placed : All Pl (line (l.len * l.weight) x n)
  placed = line_placed (l.len * l.weight) (mul-pos wide heavy) x n most m (omega arith)

  laid_one : (t : Piece) → Pl t → LaneSlot (piece_slot l t)
  unfolding piece_slot
  laid_one t h =
      let a = moment l.start t.low l.weight in
      let b = moment l.start t.high l.weight in
      record {
        within = record { low = omega (arith, a); high = omega (arith, h.fits, b) };
        start_part = mod-lt t.low heavy;
        end_part = mod-lt t.high heavy;
        long = omega (arith, h.long, a, b);
        dose = h.dose;
        some = h.some;
        above_fan = omega arith;
        most_fan = omega (arith, h.fan);
        class = refl;
        weight = refl;
        time = refl;
      }

  -- every slot is one of the class in the interval
  pub laid : All LaneSlot (lane_slots l x n)
  unfolding lane_slots
  laid = All-map (piece_slot l) (All-imp laid_one placed)

  next_one : (t u : Piece) → Pl t → Pl u → Follow (l.len * l.weight) t u → Next (piece_slot l t) (piece_slot l u)
  unfolding piece_slot
  next_one t u h g f =
      let a = moment l.start t.low l.weight in
      let b = moment l.start t.high l.weight in
      let d = moment l.start u.low l.weight in
      let e = moment l.start u.high l.weight in
      let fans : l.below + t.fan + 1 ≡ l.below + u.fan + 1 → t.fan ≡ u.fan = λ q. omega arith in
      record {
        order = omega (arith, lt_of_mul-lt-mul_right (l.len * l.weight) {m = t.fan} {n = u.fan + 1} (omega (arith, f.next, h.long, g.long, g.fits)));
        same_fan = λ q. record { by = mul-le-mul_right l.weight (omega (arith, b, d, f.next, ap (λ (y : ℕ). y * (l.len * l.weight)) (fans q))) };
        same_dose = λ q. record { by = mul-le-mul_right l.weight (omega (arith, e, a, f.once q)) };
      }

  -- slots follow each other
  pub laid_next : Pairs Next (lane_slots l x n)
  unfolding lane_slots
  laid_next = Pairs-map (piece_slot l) (Pairs-with next_one placed (line_follow (l.len * l.weight) (mul-pos wide heavy) x n most))

  -- the slots of a dose have its share
  pub laid_units : (d : ℕ) → d < n → total (units_of d) (lane_slots l x n) ≡ x d
  unfolding lane_slots piece_slot
  laid_units d q =
      total_map (piece_slot l) (units_of d) (line (l.len * l.weight) x n)
      ∙ total_congr {P = Pl} _ (units d) (λ t h. same t) placed
      ∙ line_units (l.len * l.weight) (mul-pos wide heavy) x n most d q
    where
      same : (t : Piece) → units_of d (piece_slot l t) ≡ units d t
      same t = ap (on (eqb d t.dose)) (omega (arith, moment l.start t.low l.weight, moment l.start t.high l.weight))
