-- Laws of the arrays that the slots are laid from: shares, lanes, and the loops over classes and intervals. Assumes nothing.
use mathlib.Core.Path.{◌≡◌, refl, ◌∙◌}
use mathlib.Core.List.{List}
use Prim.Native.Nat.{ℕ, ◌+◌, ◌*◌, ◌≤◌, ◌<◌}
use native.Mathlib.Nat.{mul-le-mul_right}
use native.Mathlib.Numerals.{add-one}
use native.Mathlib.Omega.{arith}
use lib.ListN.{length, get_or}
use Rattle.model.specs.Limits.{most_fans}
use Rattle.model.specs.Sets.{sum}
use Rattle.model.specs.Lists.{gather}
use Rattle.model.specs.Plans.{Slot, slot_record}
use Rattle.model.specs.Layout.{Lane, interval_slots, lane, lane_slots, table_slots}
use Rattle.model.proofs.Lists.{sum_before}
use Rattle.plan_layout.specs.Held.{fans_at, lane_at, len_at, share_at, table_from}
use Rattle.plan_layout.specs.declared.Plan.{Plan}
use Rattle.plan_layout.specs.declared.filling.Filling.{Filling}
use Rattle.plan_layout.specs.Laying.{LaneRoom}
use Rattle.plan_layout.specs.Growing.{Fits, Grows, table_in}
use Rattle.plan_layout.proofs.Runs.{gather_more, gather_none, gather_room}

module _ (x : Filling) where
  -- the slots of class i in interval j
  abbrev pub of_class : ℕ → ℕ → List Slot
  of_class j i = lane_slots (lane (table_in x) i j) (λ k. share_at x.tables.now x.shares.now i k j) x.tables.now.doses

  pub interval_is : (j : ℕ) → interval_slots (table_in x) j ≡ gather x.tables.now.classes (of_class j)
  unfolding interval_slots table_from
  interval_is j = refl

  pub table_is : table_slots (table_in x) ≡ gather x.tables.now.intervals (interval_slots (table_in x))
  unfolding table_slots table_from
  table_is = refl

  -- what the loop over the classes keeps
  pub record Rising (j : ℕ) (p q : Plan) (below i : ℕ) : Type 0 where
    pub grows : Grows slot_record (gather i (of_class j)) p q
    pub below_is : below ≡ sum i (λ i. fans_at x.reserved.now i j)

  pub rising_none : (j : ℕ) {p : Plan} → Rising j p p 0 0
  unfolding sum
  rising_none j = record { grows = gather_none (of_class j); below_is = refl }

  -- the loops have come to the end
  pub interval_all : {j : ℕ} {p q : Plan} {below i : ℕ} → Rising j p q below i → i ≡ x.tables.now.classes → Grows slot_record (interval_slots (table_in x) j) p q
  interval_all {j = j} g e = rw (interval_is j) (rw e at g.grows)

  pub table_all : {p q : Plan} {j : ℕ} → Grows slot_record (gather j (interval_slots (table_in x))) p q → j ≡ x.tables.now.intervals → Grows slot_record (table_slots (table_in x)) p q
  table_all g e = rw table_is (rw e at g)

  -- room for an interval
  pub room_for : {p q : Plan} (j : ℕ) → j < x.tables.now.intervals → Fits (length (table_slots (table_in x))) p → Grows slot_record (gather j (interval_slots (table_in x))) p q
      → Fits (length (interval_slots (table_in x) j)) q
  room_for j l s g = gather_room (interval_slots (table_in x)) x.tables.now.intervals j l (rw table_is at s) g

  module _ {j : ℕ} {p q : Plan} {below i : ℕ} (g : Rising j p q below i) where
    pub lane_is : {l : Lane} → l ≡ lane_at x.tables.now i j below → l ≡ lane (table_in x) i j
    unfolding lane_at table_from
    lane_is e = e ∙ rw g.below_is

    pub rising_more : {r : Plan} {v : ℕ} {l : Lane} → l ≡ lane_at x.tables.now i j below
        → Grows slot_record (lane_slots l (λ k. share_at x.tables.now x.shares.now i k j) x.tables.now.doses) q r → v ≡ fans_at x.reserved.now i j
        → Rising j p r (below + v) (i + 1)
    unfolding sum
    rising_more e f u = record {
      grows = gather_more (of_class j) i g.grows (rw (lane_is e) at f);
      below_is = rw add-one (omega (arith, g.below_is, u));
    }

    module _ (l : j < x.tables.now.intervals) (m : i < x.tables.now.classes) where
      -- the fans up to those of class i
      pub below_at : below + fans_at x.reserved.now i j ≤ most_fans
      below_at = omega (arith, g.below_is, sum_before x.tables.now.classes (λ i. fans_at x.reserved.now i j) i m, x.filled.room j l)

      -- room for a class
      pub rooms_at : {a : Lane} → Fits (length (interval_slots (table_in x) j)) p → a ≡ lane_at x.tables.now i j below
          → LaneRoom a (λ k. share_at x.tables.now x.shares.now i k j) x.tables.now.doses q.records (length q.bytes.now)
      unfolding table_from
      rooms_at s e =
          let filled = x.filled in
          rw (lane_is e) (record {
            most = λ k o. filled.most i k j m o l;
            end =
                omega (
                  arith,
                  filled.full i j m l,
                  mul-le-mul_right {m = fans_at x.reserved.now i j} {n = 8} (len_at x.tables.now j * get_or x.tables.now.weight i 0) (omega (arith, below_at)),
                );
            room = gather_room (of_class j) x.tables.now.classes i m (rw (interval_is j) at s) g.grows;
          })
