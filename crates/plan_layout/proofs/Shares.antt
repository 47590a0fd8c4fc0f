-- Laws of one share and of the shares of a class: numbers that fit, room in the buffer, slots written. Assumes nothing.
use mathlib.Core.Path.{◌≡◌, refl, ap}
use mathlib.Core.List.{List, [], ◌∷◌, map}
use Prim.Native.Nat.{ℕ, ◌+◌, ◌*◌, ◌/◌, ◌%◌, ◌≤◌, ◌<◌}
use native.Mathlib.Nat.{div-le_of_le-mul, mod-lt, mul-le-mul_right, mul-pos}
use native.Mathlib.Numerals.{add-one}
use native.Mathlib.Omega.{arith}
use lib.ListN.{length, length-map}
use Rattle.model.specs.Records.{record_size}
use Rattle.model.specs.Limits.{most_weight, most_fans, week}
use Rattle.model.specs.Sets.{sum}
use Rattle.model.specs.Lists.{gather}
use Rattle.model.specs.Plans.{Slot, slot_record}
use Rattle.model.specs.Layout.{Lane, before, behind, cut, lane_slots, line, piece_slot, uncut}
use Rattle.model.proofs.Lists.{map_gather, sum_before}
use Rattle.model.proofs.Wrap.{cut_none, cut_two, cut_uncut}
use Rattle.plan_layout.specs.declared.Plan.{Plan}
use Rattle.plan_layout.specs.Ready.{LaneReady}
use Rattle.plan_layout.specs.Laying.{ShareRoom, LaneRoom}
use Rattle.plan_layout.specs.Growing.{Grows}
use Rattle.plan_layout.proofs.Runs.{gather_fits, gather_more, gather_none, grows_more, grows_none, wrote_length}

-- a unit of a stretch is in the week
pub tick : (l : Lane) → LaneReady l → (s : ℕ) → s ≤ l.len * l.weight → l.start + s / l.weight ≤ week
tick l r s h = omega (arith, r.week, div-le_of_le-mul l.weight {m = s} {n = l.len} (omega arith))

-- ---- a share

-- what its numbers are at most
pub record Small (l : Lane) (a x : ℕ) : Type 0 where
  pub units : l.len * l.weight ≤ week * l.weight
  pub some : 0 < l.len * l.weight
  pub fan : a / (l.len * l.weight) ≤ most_fans
  pub low : a % (l.len * l.weight) < l.len * l.weight
  pub share : x ≤ l.len * l.weight

module _ {l : Lane} {k a x r size : ℕ} (ready : LaneReady l) (h : ShareRoom l k a x r size) where
  stretch : 0 < l.len * l.weight
  stretch = mul-pos ready.wide ready.heavy

  pub small : Small l a x
  small = record {
    units = mul-le-mul_right l.weight (omega (arith, ready.week));
    some = stretch;
    fan = div-le_of_le-mul (l.len * l.weight) {m = a} {n = 8} (omega (arith, h.end));
    low = mod-lt a stretch;
    share = h.most;
  }

  -- room for a share that is not cut
  pub room_one : (x ≡ 0 → ⊥) → a % (l.len * l.weight) + x ≤ l.len * l.weight → record_size * (r + 1) ≤ size
  room_one n q = omega (arith, h.room, ap length (cut_uncut (l.len * l.weight) k a x (omega arith) q))

  -- and for one that is
  pub room_two : (x ≡ 0 → ⊥) → l.len * l.weight < a % (l.len * l.weight) + x → record_size * (r + 2) ≤ size
  room_two n q = omega (arith, h.room, ap length (cut_two (l.len * l.weight) k a x (omega arith) q))

module _ (l : Lane) (k a x : ℕ) where
  -- what is promised of a share
  abbrev LaidShare : Plan → Plan → Type 0
  LaidShare p q = Grows slot_record (map (piece_slot l) (cut (l.len * l.weight) k a x)) p q

  pub laid_none : {p : Plan} → x ≡ 0 → LaidShare p p
  laid_none e = rw (cut_none (l.len * l.weight) k a x e) grows_none

  pub laid_one : {p q : Plan} {s : Slot} → (x ≡ 0 → ⊥) → a % (l.len * l.weight) + x ≤ l.len * l.weight → s ≡ piece_slot l (uncut (l.len * l.weight) k a x)
      → Grows slot_record (s ∷ []) p q → LaidShare p q
  laid_one n f e g = rw (cut_uncut (l.len * l.weight) k a x (omega arith) f, ← e) g

  pub laid_two : {p q r : Plan} {s u : Slot} → (x ≡ 0 → ⊥) → l.len * l.weight < a % (l.len * l.weight) + x
      → s ≡ piece_slot l (before (l.len * l.weight) k a x) → u ≡ piece_slot l (behind (l.len * l.weight) k a x)
      → Grows slot_record (s ∷ []) p q → Grows slot_record (u ∷ []) q r → LaidShare p r
  laid_two n f d e g h = rw (cut_two (l.len * l.weight) k a x (omega arith) f, ← d, ← e) (grows_more g h)

-- ---- the shares of a class

module _ (l : Lane) (x : ℕ → ℕ) where
  -- the slots of the share of dose k
  abbrev pub of_dose : ℕ → List Slot
  of_dose k = map (piece_slot l) (cut (l.len * l.weight) k (sum k x) (x k))

  pub lane_doses : (n : ℕ) → lane_slots l x n ≡ gather n of_dose
  unfolding lane_slots line
  lane_doses n = map_gather (piece_slot l) n _

  -- what the loop over the doses keeps
  pub record Kept (p q : Plan) (a k : ℕ) : Type 0 where
    pub grows : Grows slot_record (gather k of_dose) p q
    pub sum_is : a ≡ sum k x

  pub kept_none : {p : Plan} → Kept p p 0 0
  unfolding sum
  kept_none = record { grows = gather_none of_dose; sum_is = refl }

  pub kept_more : {p q r : Plan} {a k s : ℕ} → Kept p q a k → s ≡ x k → Grows slot_record (map (piece_slot l) (cut (l.len * l.weight) k a s)) q r
      → Kept p r (a + s) (k + 1)
  unfolding sum
  kept_more {k = k} h e f = record {
    grows = gather_more of_dose k h.grows (rw (h.sum_is, e) at f);
    sum_is = rw add-one (omega (arith, h.sum_is, e));
  }

  module _ {n : ℕ} {p q : Plan} {a k : ℕ} (h : LaneRoom l x n p.records (length p.bytes.now)) (g : Kept p q a k) where
    pub room_at : {s : ℕ} → k < n → s ≡ x k → ShareRoom l k a s q.records (length q.bytes.now)
    room_at f e = rw (e, g.sum_is) (record {
      most = h.most k f;
      end = omega (arith, h.end, sum_before n x k f);
      room =
          omega (
            arith,
            h.room,
            g.grows.wrote.next,
            wrote_length g.grows.wrote,
            ap length (lane_doses n),
            gather_fits of_dose n k f,
            length-map (cut (l.len * l.weight) k (sum k x) (x k)) (piece_slot l),
          );
    })

    -- no sum of shares is too large for the code
    pub sum_at : {s : ℕ} → LaneReady l → k < n → s ≡ x k → a + s ≤ most_fans * (week * most_weight)
    sum_at ready q e =
        omega (
          arith,
          g.sum_is,
          h.end,
          sum_before n x k q,
          mul-le-mul_right {m = l.len} {n = week} l.weight (omega (arith, ready.week)),
          ready.light,
        )

    -- the loop has come to the end
    pub laid_all : k ≡ n → Grows slot_record (lane_slots l x n) p q
    laid_all e = rw (lane_doses, ← e) g.grows
