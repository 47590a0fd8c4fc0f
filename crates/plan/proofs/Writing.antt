-- Laws of the plan's records: the C records in a loop, and all records in front of the rest of the buffer. Assumes nothing.
use mathlib.Core.Path.{◌≡◌, subst, sym, ap₂, ◌∙◌}
use mathlib.Core.List.{List, [], ◌∷◌, ◌++◌, map}
use Prim.Native.Nat.{ℕ, ◌+◌, ◌*◌, ◌≤◌, ◌<◌}
use native.Mathlib.Nat.{zero-add}
use native.Mathlib.Omega.{arith}
use lib.ListN.{drop, length, length-map}
use lib.Seq.{sets-eq}
use Rattle.model.specs.Records.{record_size}
use Rattle.records.specs.Written.{written}
use Rattle.records.proofs.Laws.{join}
use Rattle.model.specs.Lists.{gather}
use Rattle.model.specs.Plans.{Class, Slot, class_record, plan_of, records_bytes, slot_record}
use Rattle.model.specs.Answers.{overwritten}
use Rattle.model.proofs.Lists.{length_singles}
use Rattle.model.proofs.Plans.{length_plan, length_records, records_append}
use Rattle.plan_layout.specs.declared.Tables.{Tables}
use Rattle.plan_layout.specs.declared.Plan.{Plan}
use Rattle.plan_layout.specs.Growing.{Fits, Grows}
use Rattle.plan_layout.proofs.Runs.{gather_more, gather_room}
use Rattle.plan.specs.Held.{class_from, classes_from}

abbrev one : Tables → ℕ → List Class
one t i = class_from t i ∷ []

module _ (t : Tables) {p : Plan} where
  -- one class more
  pub classes_more : {q r : Plan} (i : ℕ) {c : Class} → Grows class_record (gather i (one t)) p q → c ≡ class_from t i → Grows class_record (c ∷ []) q r
      → Grows class_record (gather (i + 1) (one t)) p r
  classes_more i h e g = gather_more (one t) i h (rw (← e) g)

  -- the loop has come to the end
  pub classes_all : {q : Plan} (i : ℕ) → Grows class_record (gather i (one t)) p q → i ≡ t.classes → Grows class_record (classes_from t) p q
  classes_all {q} i h e = subst (λ (n : ℕ). Grows class_record (gather n (one t)) p q) e h

  -- there is room for one class more
  pub class_room : {q : Plan} (i : ℕ) → i < t.classes → Fits t.classes p → Grows class_record (gather i (one t)) p q → Fits 1 q
  class_room i l r h = gather_room (one t) t.classes i l (rw (length_singles t.classes (class_from t)) r) h

  -- the S records start behind them
  pub classes_next : {q : Plan} → Grows class_record (classes_from t) p q → q.records ≡ p.records + t.classes
  classes_next h = omega (arith, h.wrote.next, length_singles t.classes (class_from t))

-- ---- the whole plan

written_front : (vs l : List ℕ) → length vs ≤ length l → written l 0 vs ≡ vs ++ drop (length vs) l
unfolding written
written_front vs l h = rw zero-add at (sets-eq vs l 0 (omega arith))

pub plan_written : {classes : List Class} {slots : List Slot} {p q r : Plan} {b' : List ℕ} → Grows class_record classes p q → Grows slot_record slots q r → p.records ≡ 0
    → record_size * (length classes + length slots) ≤ length p.bytes.now → b' ≡ r.bytes.now → b' ≡ overwritten p.bytes.now (records_bytes (plan_of classes slots))
plan_written {classes} {slots} {p} {r = r} h g first room back =
    let bytes : r.bytes.now ≡ written p.bytes.now (record_size * p.records) (records_bytes (map class_record classes) ++ records_bytes (map slot_record slots)) =
    join p.bytes.now (records_bytes (map class_record classes)) (records_bytes (map slot_record slots)) (record_size * p.records) h.wrote.now g.wrote.now
    (omega (arith, h.wrote.next, length_records (map class_record classes), length-map classes class_record)) in
    let whole : r.bytes.now ≡ written p.bytes.now 0 (records_bytes (plan_of classes slots)) =
    bytes ∙ ap₂ (written p.bytes.now) (omega (arith, first)) (sym (records_append (map class_record classes) (map slot_record slots))) in
    back ∙ whole ∙ written_front (records_bytes (plan_of classes slots)) p.bytes.now (omega (arith, length_plan classes slots))
