-- One round: the arrays that are filled for a candidate are those that its shares ask for, and what the shares show of the candidate.
-- Assumes nothing.
use mathlib.Core.Bool.{Bool, true, false, ◌&&◌}
use mathlib.Core.List.{List}
use mathlib.Core.Path.{◌≡◌, refl, sym, ap, ◌∙◌, subst, fun_ext}
use Prim.Native.Nat.{ℕ, ◌+◌, ◌*◌, ◌<◌}
use native.Mathlib.Omega.{arith}
use lib.Dec.{T}
use lib.ListN.{get_or}
use Rattle.model.specs.Limits.{most_doses, most_intervals}
use Rattle.model.specs.Sets.{on, Doses, Nonempty}
use Rattle.model.specs.Classes.{Setting, Row, W, open_fans}
use Rattle.model.proofs.Sets.{on_and, and_right}
use Rattle.model.proofs.Rounds.{keeps_start}
use Rattle.model.proofs.ValidShares.{valid_if_met}
use Rattle.class_chains.specs.Chains.{cell}
use Rattle.class_shares.specs.Share.{Raised, Met}
use Rattle.class_shares.proofs.Bridge as bridge
use Rattle.measure.specs.declared.arrays.Setting as measure
use Rattle.measure.specs.Arrays.{set_of, active_of, row_of}
use Rattle.measure.specs.Held.{as_setting}
use Rattle.measure.specs.Measure.{Measured}
use Rattle.class_rounds.specs.Candidates.{Rooms, Holds, Needs}
use Rattle.class_rounds.specs.Rounds.{Candidate, Chosen, NonePast, Onward}
use Rattle.class_rounds.proofs.Laws.{room_place}

on_zero : (a : Bool) {u : ℕ} → u ≡ 0 → on a u ≡ 0
on_zero true e = e
on_zero false e = refl

module _ (h : measure.Setting) (free : List ℕ) (set : List Bool)
    (reserved : List ℕ) (w p : ℕ) (known : Measured (as_setting h) (row_of free) (set_of set) w p reserved) where
  abbrev S : Setting
  S = as_setting h

  abbrev A : Doses
  A = set_of set

  module _ (rooms holds needs : List ℕ) (hr : Rooms h.active h.lens set w rooms) (hh : Holds h.lens reserved w holds) (hn : Needs h.grams set p needs) where
    -- a room by dose and interval
    room_at : (k j : ℕ) → k < most_doses → j < most_intervals → cell rooms k j ≡ on (A k && active_of h.active k j) (get_or h.lens j 0 * w)
    room_at k j hk hj =
        hr (k * most_intervals + j) (omega arith)
        ∙ sym (room_place h.active set h.lens w k j hj)
        ∙ on_and (A k) (active_of h.active k j) (get_or h.lens j 0 * w)

    no_room : (k j : ℕ) → k < most_doses → j < most_intervals → active_of h.active k j ≡ false → cell rooms k j ≡ 0
    no_room k j hk hj e = room_at k j hk hj ∙ sym (on_and (A k) (active_of h.active k j) _) ∙ on_zero (A k) (ap (λ (b : Bool). on b (get_or h.lens j 0 * w)) e)

    asked : bridge.Asked S (row_of free) A rooms holds needs
    asked = record {
      doses = h.arrays.few_doses;
      intervals = h.arrays.few_intervals;
      room = λ k j l m. room_at k j (omega (arith, h.arrays.few_doses)) (omega (arith, h.arrays.few_intervals))
          ∙ ap (λ (y : ℕ). on (A k && active_of h.active k j) (get_or h.lens j 0 * y)) known.weight;
      no_dose = λ k j g l q. no_room k j l q (h.arrays.no_dose k j g l q);
      no_interval = λ k j l g q. no_room k j l q (h.arrays.no_interval k j l g q);
      hold = λ j l. hh j (omega (arith, h.arrays.few_intervals)) ∙ ap (λ (y : ℕ). y * (get_or h.lens j 0 * w)) (known.fans j l)
          ∙ ap (λ (y : ℕ). open_fans S (row_of free) A j * (get_or h.lens j 0 * y)) known.weight;
      need = λ k l. hn k (omega (arith, h.arrays.few_doses)) ∙ ap (λ (y : ℕ). on (A k) (get_or h.grams k 0 * y)) known.time;
      no_need = λ k g l. hn k l ∙ on_zero (A k) (ap (λ (y : ℕ). y * p) (h.arrays.no_grams k g) ∙ omega arith);
    }

    module _ (x : List ℕ) (s : List Bool) (r : Bool) (done : Raised rooms holds needs 1 most_doses s x) (m : Met needs x r) where
      -- where all needs are met, the candidate is the class
      pub found : r ≡ true → (rest : Doses) → Candidate S (row_of free) rest A → NonePast S.doses A → Chosen S (row_of free) rest A x
      found e rest z past = record {
        next = bridge.found S (row_of free) A rooms holds needs asked x s done h.arrays.heavy rest z.within z.some z.keeps r m e;
        valid = valid_if_met S (row_of free) A (cell x) (bridge.within S (row_of free) A rooms holds needs asked x s done)
            (bridge.none_missing S (row_of free) A rooms holds needs asked x s done (m.all e));
        past = past;
        none = λ k j hk hj q. omega (arith, done.within.bounded.roomy k j hk hj, no_room k j hk hj q);
      }

      -- where one is not, its dead part is the next candidate
      module _ (e : r ≡ false) (part : List Bool) (ht : (k : ℕ) → get_or part k false ≡ (get_or s k false && get_or set k false)) where
        same : (λ k. get_or s k false && get_or set k false) ≡ set_of part
        same = fun_ext (λ k. sym (ht k))

        candidate : (rest : Doses) → Candidate S (row_of free) rest A → Candidate S (row_of free) rest (set_of part)
        candidate rest z = subst (λ (B : Doses). Candidate S (row_of free) rest B) same (record {
          within = bridge.part S (row_of free) A rooms holds needs asked x s done h.arrays.heavy rest z.within z.some z.keeps r m e;
          some = bridge.part_some S (row_of free) A rooms holds needs asked x s done h.arrays.heavy rest z.within z.some z.keeps r m e;
          keeps = bridge.part_keeps S (row_of free) A rooms holds needs asked x s done h.arrays.heavy rest z.within z.some z.keeps r m e;
        })

        lighter : (rest : Doses) → Candidate S (row_of free) rest A → W S (set_of part) < W S A
        lighter rest z = subst (λ (B : Doses). W S B < W S A) same
            (bridge.lighter S (row_of free) A rooms holds needs asked x s done h.arrays.heavy rest z.within z.some z.keeps r m e)

        pub onward : Onward S (row_of free) A (set_of part)
        onward = record { candidate = candidate; lighter = lighter; fewer = λ k u. and_right (get_or s k false) (A k) (subst T (ht k) u) }

-- all remaining doses are the first candidate
pub first_candidate : (S : Setting) (row : Row) (rest : Doses) → Nonempty S.doses rest → Candidate S row rest rest
first_candidate S row rest some = record { within = λ k l t. t; some = some; keeps = keeps_start S row rest }
