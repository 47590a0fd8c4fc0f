-- What the later clauses need of the earlier ones.
use mathlib.Core.List.{List}
use Prim.Native.Nat.{ℕ, ◌+◌, ◌/◌, ◌<◌, ◌≤◌}
use lib.ListN.{length}
use Rattle.model.specs.Records.{record_size}
use Rattle.records.specs.Plan.{slot_in}
use Rattle.judge_clauses.specs.Tests.{InTurn, SlotsReady, OrderHeld, SlotFits}
use Rattle.judge_slots.proofs.Places.{turns_all}
use Rattle.judge_pairs.proofs.Turns.{turn_place}

module _ (h : OrderHeld) (plan : List ℕ) (p : ℕ) (numbers : List ℕ)
    (slots : (i : ℕ) → i < length plan / record_size → p ≤ i → SlotFits h plan numbers (slot_in plan i)) where
  -- slots that fit and are in turn can be held against each other
  pub ready_of : ((i : ℕ) → i + 1 < length plan / record_size → p ≤ i → InTurn h.instants h.intervals (slot_in plan i) (slot_in plan (i + 1)))
      → SlotsReady h.instants h.intervals plan p
  ready_of turns = record {
    long = λ i l g. (slots i l g).long;
    place = λ i l g. (slots i l g).inside.place;
    sorted = λ i l g il lm.
        turn_place (turns_all h.instants h.intervals (slot_in plan) p (length plan / record_size) (λ k km kp. (slots k km kp).long) turns l i g il lm);
  }
