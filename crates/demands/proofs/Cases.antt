-- The table of cases: a row that passes the computed test is right by the definitions, and every row passes. Assumes nothing.
pub mod Laws
pub mod ForcedShares
pub mod SplitSlot
use mathlib.Core.Path.{◌≡◌, refl, sym, ap, ap₂, ◌∙◌}
use mathlib.Core.Bool.{Bool, true, false, not, ◌&&◌}
use mathlib.Core.Logic.{inl, inr}
use mathlib.Core.List.{List, []}
use Prim.Native.Nat.{ℕ, suc, ◌≤◌, ◌<◌}
use native.Mathlib.Nat.{eq-zero-or-pos}
use native.Mathlib.Omega.{arith}
use lib.Dec.{T, T_not, eqb, leb, leb→le}
use lib.ListN.{length}
use Rattle.model.specs.Limits.{last_open_bay, most_bay, plan_room, week}
use Rattle.model.specs.Sets.{Doses}
use Rattle.model.specs.Lists.{All, none}
use Rattle.model.specs.Records.{Reading, read, refused, pick}
use Rattle.model.specs.Orders.{Order, read_order}
use Rattle.model.specs.Classes.{Classes, NextClass, Row, free, remaining}
use Rattle.model.specs.Intervals.{setting_of, fans_present}
use Rattle.model.specs.Plans.{Class, Slot, records_bytes, plan_of, slots_read, plan_records}
use Rattle.model.specs.Layout.{slots_of, class_at, classes_of}
use Rattle.model.specs.Line.{point_at}
use Rattle.model.specs.Stands.{Stands}
use Rattle.model.specs.Answers.{Answer, refusal, done, above_top, too_fast, FirstClass, Refuses, unread, above, Accepts, Planned, ValidShares, plan_bytes, overwritten, Plans, Judges, Draws, Moves}
use Rattle.model.specs.Cases.{Case, Drawing, DrawingRight, SameDoses, SetsRight, PlanningRight, JudgingRight, Right, case_sets, case_plan, case_planned, cases}
use Rattle.model.specs.CaseTests.{all_below, all_in, case_test, reading_test, nothing_test, class_test, valid_test, forced_test, shares_test, point_test, same_point, fast_test, done_test, slow_test, records_test, plan_test, case_shares, empty_list, same_answer, same_list, same_class, same_slot, cases_pass}
use Rattle.model.proofs.Sets.{and_left, and_right, or_elim, Alike, alike_sub, alike_back, weight_alike}
use Rattle.model.proofs.FanTime.{P-alike}
use Rattle.model.proofs.NextClass.{next_unique}
use Rattle.model.proofs.Sequence.{classes_unique, count_unique}
use Rattle.model.proofs.Orders.{Fit, three, read_fits}
use Rattle.model.proofs.Readings.{no_refusal}
use Rattle.model.proofs.Lists.{length_singles}
use Rattle.model.proofs.Written.{plan_stands, plan_reads}
use Rattle.model.proofs.Plans.{slots_read_lem}
use Rattle.demands.proofs.Demand2.Refusing.{first_class}
use Rattle.model.proofs.Answers.{one_order, refuses_one, refused_not_accepted}
use Rattle.demands.proofs.TrialBays.Readings.{read_same}
use Rattle.demands.proofs.Cases.Laws.{all_below_lem, all_in_lem, next, valid, same_list_lem, same_class_lem, same_slot_lem, same_point_lem, same_answer_lem, empty_list_lem}
use Rattle.demands.proofs.Cases.ForcedShares.{one_plan}

-- ---- a row that is refused

-- planning an order that is refused gives the refusal and nothing else, and no byte changes
pub refused_planning : (order : List ℕ) (a : Answer) → Refuses last_open_bay order a → PlanningRight order (record { answer = a; classes = 0; slots = 0 }) []
refused_planning order a h = record { plans = λ before room. Plans.refuses room a h; only = one }
  where
    one : (before : List ℕ) → plan_room ≤ length before → (r : Planned) (after : List ℕ) → Plans order before r after
        → (r ≡ record { answer = a; classes = 0; slots = 0 }) × (after ≡ overwritten before [])
    one before room r after (Plans.no_room s) = absurd (omega arith)
    one before room r after (Plans.refuses w b q) = (λ t. record { answer = refuses_one q h t; classes = 0; slots = 0 }, refl)
    one before room r after (Plans.plans w o g p C k x v) = absurd (refused_not_accepted h g)

module _ (c : Case) (t : T (nothing_test c)) where
  nothing : (c.classes ≡ []) × (c.slots ≡ []) × (c.points ≡ [])
  unfolding nothing_test
  nothing =
      let r = three (empty_list c.classes) (empty_list c.slots) (empty_list c.points) t in
      (empty_list_lem c.classes r.0, empty_list_lem c.slots r.1, empty_list_lem c.points r.2)

  refused_planned : Refuses last_open_bay c.order c.answer → PlanningRight c.order (case_planned c) (case_plan c)
  unfolding records_bytes
  refused_planned h = rw (nothing.0, nothing.1) (refused_planning c.order c.answer h)

  refused_judged : Refuses most_bay c.order c.answer
      → ((o : Order) → read_order most_bay c.order ≡ read o → (A : Doses) → FirstClass o A → SameDoses o A (case_sets c 0)) → JudgingRight c
  refused_judged h first = record {
    first = first;
    sets = λ o g. absurd (refused_not_accepted h g);
    judged = Judges.refuses c.answer h;
    points = rw nothing.2 none;
  }

-- ---- a row whose order is read

module _ (c : Case) (o : Order) where
  abbrev p : ℕ
  p = length c.sets

  abbrev C : ℕ → Doses
  C = case_sets c

  -- the fans that the first i sets leave
  abbrev fans_left : ℕ → Row
  fans_left = free (setting_of o) (fans_present o) C

  -- a set of a row that passes is the next class
  class_next : (i : ℕ) → T (class_test o c i) → NextClass (setting_of o) (fans_left i) (remaining C i) (C i)
  unfolding class_test
  class_next i = next (setting_of o) (fans_left i) (remaining C i) (C i)

  -- sets that are alike have the same doses
  same_doses : (A B : Doses) → Alike (setting_of o).doses A B → SameDoses o A B
  same_doses A B e = (alike_sub (setting_of o).doses A B e, alike_back (setting_of o).doses A B e)

  -- what is shown of the order is shown of whatever the row's bytes read as
  first_of : read_order most_bay c.order ≡ read o → ((A : Doses) → FirstClass o A → Alike (setting_of o).doses A (C 0))
      → (o' : Order) → read_order most_bay c.order ≡ read o' → (A : Doses) → FirstClass o' A → SameDoses o' A (C 0)
  first_of reads h o' e = let same : o ≡ o' = cc in rw (← same) (λ A a. same_doses A (C 0) (h A a))

  -- refused 9
  module _ (t : T (fast_test o c)) where
    fast : T (class_test o c 0) × T (above_top o (C 0)) × T (same_answer (too_fast o (C 0)) c.answer) × T (nothing_test c)
    unfolding fast_test
    fast =
        let rest = above_top o (C 0) && same_answer (too_fast o (C 0)) c.answer && nothing_test c in
        let q = three (above_top o (C 0)) (same_answer (too_fast o (C 0)) c.answer) (nothing_test c) (and_right (class_test o c 0) rest t) in
        (and_left (class_test o c 0) rest t, q.0, q.1, q.2)

    fast_first : FirstClass o (C 0)
    unfolding free remaining
    fast_first = class_next 0 fast.0

    fast_refuses : (last : ℕ) → read_order last c.order ≡ read o → Refuses last c.order c.answer
    fast_refuses last reads = rw (← same_answer_lem (too_fast o (C 0)) c.answer fast.2) (above o (C 0) reads fast_first fast.1)

    fast_judged : read_order most_bay c.order ≡ read o → JudgingRight c
    fast_judged reads =
        refused_judged c fast.3 (fast_refuses most_bay reads) (first_of reads (λ A a. next_unique (setting_of o) (fans_present o) (λ k. true) A (C 0) a fast_first))

  -- planned
  module _ (fit : Fit o) (t : T (plan_test o c)) where
    abbrev x : ℕ → ℕ → ℕ → ℕ
    x = case_shares c

    parts : T (all_below p (class_test o c) && all_below (setting_of o).doses (done_test o c) && slow_test o c)
        × T (all_below p (shares_test o c) && records_test o c) × T (all_in (point_test o c) c.points && same_answer done c.answer)
    unfolding plan_test
    parts =
        three (all_below p (class_test o c) && all_below (setting_of o).doses (done_test o c) && slow_test o c) (all_below p (shares_test o c) && records_test o c)
        (all_in (point_test o c) c.points && same_answer done c.answer) t

    first : T (all_below p (class_test o c)) × T (all_below (setting_of o).doses (done_test o c)) × T (slow_test o c)
    first = three (all_below p (class_test o c)) (all_below (setting_of o).doses (done_test o c)) (slow_test o c) parts.0

    tests : (i : ℕ) → i < p → T (class_test o c i)
    tests = all_below_lem p (class_test o c) first.0

    classes : Classes (setting_of o) (fans_present o) p C
    unfolding done_test
    classes = record {
      next = λ i l. class_next i (tests i l);
      done = λ k l u. T_not (remaining C p k) (all_below_lem (setting_of o).doses (done_test o c) first.1 k l) u;
    }

    -- the shares of a class are valid, and forced
    both : (i : ℕ) → i < p → T (valid_test (setting_of o) (fans_left i) (C i) (x i)) × T (all_below (setting_of o).doses (forced_test (setting_of o) (fans_left i) (C i)))
    unfolding shares_test
    both i l =
        let u = all_below_lem p (shares_test o c) (and_left (all_below p (shares_test o c)) (records_test o c) parts.1) i l in
        let a = valid_test (setting_of o) (fans_left i) (C i) (x i) in
        let b = all_below (setting_of o).doses (forced_test (setting_of o) (fans_left i) (C i)) in
        (and_left a b u, and_right a b u)

    shares : ValidShares o p C x
    shares i l = valid (setting_of o) (fans_left i) (C i) (x i) (both i l).0

    -- without classes there is no dose, so no first class; else it is that of the row
    no_first : p ≡ 0 → (A : Doses) → FirstClass o A → ⊥
    unfolding remaining
    no_first z A a = let k = a.some in classes.done k.0 k.1 (rw z tt)

    first_one : (A : Doses) → FirstClass o A → Alike (setting_of o).doses A (C 0)
    first_one A a = elim (eq-zero-or-pos p) [
      | inl z ↦ absurd (no_first z A a)
      | inr l ↦ next_unique (setting_of o) (fans_present o) (λ k. true) A (C 0) a (first_class o p C classes l)
    ]

    -- and not above the top rate
    not_above_lem : (A : Doses) → FirstClass o A → T (above_top o A) → ⊥
    unfolding slow_test
    not_above_lem A a u =
        let same = first_one A a in
        let u' : T (above_top o (C 0)) = rw (weight_alike (setting_of o).doses (setting_of o).grams A (C 0) same, P-alike (setting_of o) (fans_present o) A (C 0) same) at u in
        or_elim (empty_list c.sets) (not (above_top o (C 0))) first.2
        (λ z. no_first (ap (λ (l : List (List ℕ)). length l) (empty_list_lem c.sets z)) A a) (λ z. T_not (above_top o (C 0)) z u')

    accepts : (last : ℕ) → read_order last c.order ≡ read o → Accepts last c.order o
    accepts last reads = record { reads = reads; slow = not_above_lem }

    -- the records of the plan
    same_records : (classes_of o p C ≡ c.classes) × (slots_of o p C x ≡ c.slots)
    unfolding records_test
    same_records =
        let u = and_right (all_below p (shares_test o c)) (records_test o c) parts.1 in
        let e = same_list same_class (classes_of o p C) c.classes in
        let f = same_list same_slot (slots_of o p C x) c.slots in
        (same_list_lem same_class same_class_lem (classes_of o p C) c.classes (and_left e f u), same_list_lem same_slot same_slot_lem (slots_of o p C x) c.slots (and_right e f u))

    same_done : done ≡ c.answer
    same_done = same_answer_lem done c.answer (and_right (all_in (point_test o c) c.points) (same_answer done c.answer) parts.2)

    -- what is planned, in the row's words
    same_planned : ◌≡◌ {A = Planned} (record { answer = done; classes = p; slots = length (slots_of o p C x) }) (case_planned c)
    same_planned =
        let count = sym (length_singles p (class_at o p C)) ∙ ap (λ (l : List Class). length l) same_records.0 in
        let slots = ap (λ (l : List Slot). length l) same_records.1 in
        λ t. record { answer = same_done t; classes = count t; slots = slots t }

    -- the bytes of the row are the planner's
    same_plan : plan_bytes o p C x ≡ case_plan c
    same_plan = ap₂ (λ (l : List Class) (m : List Slot). records_bytes (plan_of l m)) same_records.0 same_records.1

    stands : Stands o (case_plan c)
    stands = rw same_plan at (plan_stands o fit p C classes x shares)

    read_slots : slots_read (plan_records (case_plan c)) ≡ c.slots
    read_slots =
        ap (λ (b : List ℕ). slots_read (plan_records b)) (sym same_plan)
        ∙ slots_read_lem (plan_bytes o p C x) (classes_of o p C) (slots_of o p C x) (plan_reads o fit p C classes x shares) ∙ same_records.1

    -- planning gives it, and nothing else
    planned_right : read_order last_open_bay c.order ≡ read o → PlanningRight c.order (case_planned c) (case_plan c)
    planned_right reads = rw (← same_planned, ← same_plan) (record {
      plans = λ before room. Plans.plans room o (accepts last_open_bay reads) p C classes x shares;
      only = one_plan c.order o (accepts last_open_bay reads) p C classes x shares (λ i l. (both i l).1);
    })

    -- the sets of the row
    sets_right : SetsRight c o
    sets_right = record {
      are = classes;
      only = λ p' C' c'.
          let count : p' ≡ p = count_unique (setting_of o) (fans_present o) p' p C' C c' classes in
          (count, λ i l. same_doses (C' i) (C i) (classes_unique (setting_of o) (fans_present o) p' p C' C c' classes i l (omega arith)));
      records = sym same_records.0;
    }

    -- a point of the row
    point_right : read_order most_bay c.order ≡ read o → (d : Drawing) → T (point_test o c d) → DrawingRight c d
    unfolding point_test
    point_right reads d u =
        let r = three (leb (suc d.dose) (setting_of o).doses) (leb d.tick week) (same_point (point_at o c.slots d.dose d.tick) d.point) u in
        let known : d.dose < (setting_of o).doses = leb→le (suc d.dose) (setting_of o).doses r.0 in
        let early : d.tick ≤ week = leb→le d.tick week r.1 in
        let same : point_at o (slots_read (plan_records (case_plan c))) d.dose d.tick ≡ d.point =
        rw read_slots (same_point_lem (point_at o c.slots d.dose d.tick) d.point r.2) in
        let accepted = accepts most_bay reads in
        record {
          draws = rw (← same) (Draws.draws o accepted stands known early);
          moves = λ t e. rw (← same, e) (Moves.moves o accepted stands known (omega arith));
        }

    judged_right : read_order most_bay c.order ≡ read o → JudgingRight c
    judged_right reads = record {
      first = first_of reads first_one;
      sets = λ o' g. rw (one_order g (accepts most_bay reads)) sets_right;
      judged = rw (← same_done) (Judges.stands o (accepts most_bay reads) stands);
      points = all_in_lem (DrawingRight c) (point_test o c) (point_right reads) c.points (and_left (all_in (point_test o c) c.points) (same_answer done c.answer) parts.2);
    }

-- ---- a row by what its order reads as

picked : {P : Type 0} (b x y : Bool) → T (pick b x y) → (T x → P) → (T y → P) → P
picked true x y u f g = f u
picked false x y u f g = g u

module _ (c : Case) where
  -- a row that is refused: its answer
  refused_parts : (number place : ℕ) → T (reading_test c (refused number place)) → (refusal number place ≡ c.answer) × T (nothing_test c)
  unfolding reading_test
  refused_parts number place u =
      let r = three (same_answer (refusal number place) c.answer) (not (eqb number 0)) (nothing_test c) u in
      (same_answer_lem (refusal number place) c.answer r.0, r.2)

  -- planning
  planning_right : T (reading_test c (read_order last_open_bay c.order)) → PlanningRight c.order (case_planned c) (case_plan c)
  unfolding reading_test
  planning_right = go (read_order last_open_bay c.order) refl
    where
      go : (r : Reading Order) → read_order last_open_bay c.order ≡ r → T (reading_test c r) → PlanningRight c.order (case_planned c) (case_plan c)
      go (refused number place) e u =
          let r = refused_parts number place u in
          refused_planned c r.1 (rw (← r.0) (unread number place e))
      go (read o) e u =
          picked (eqb c.answer.number 9) (fast_test o c) (plan_test o c) u (λ t. refused_planned c (fast c o t).3 (fast_refuses c o t last_open_bay e))
          (λ t. planned_right c o (read_fits last_open_bay c.order o e) t e)

  -- judging and drawing
  pub judging_right : T (reading_test c (read_order most_bay c.order)) → JudgingRight c
  unfolding reading_test
  judging_right = go (read_order most_bay c.order) refl
    where
      go : (r : Reading Order) → read_order most_bay c.order ≡ r → T (reading_test c r) → JudgingRight c
      go (refused number place) e u =
          let r = refused_parts number place u in
          refused_judged c r.1 (rw (← r.0) (unread number place e)) (λ o q. absurd (no_refusal number place o (sym e ∙ q)))
      go (read o) e u =
          picked (eqb c.answer.number 9) (fast_test o c) (plan_test o c) u (λ t. fast_judged c o t e) (λ t. judged_right c o (read_fits most_bay c.order o e) t e)

-- a row that passes is right: its answer is not 15, so that judging reads its order as planning does
pub row_right : (c : Case) → T (case_test c) → Right c
unfolding case_test
row_right c t = record { planning = planning_right c passes; judging = judging_right c (rw same at passes) }
  where
    passes : T (reading_test c (read_order last_open_bay c.order))
    passes = and_left (reading_test c (read_order last_open_bay c.order)) (not (eqb c.answer.number 15)) t

    another : T (eqb c.answer.number 15) → ⊥
    another = T_not (eqb c.answer.number 15) (and_right (reading_test c (read_order last_open_bay c.order)) (not (eqb c.answer.number 15)) t)

    same : read_order last_open_bay c.order ≡ read_order most_bay c.order
    same = elim (read_same last_open_bay most_bay (omega arith) c.order) [
      | inl e ↦ e
      | inr q ↦ absurd (another (let r = refused_parts c 15 q.0 (rw q.1 at passes) in rw (← r.0) tt))
    ]

-- P1 to P12, and the rows of document 02's requests
pub cases_right : All Right cases
cases_right = all_in_lem Right case_test row_right cases cases_pass
