-- Two plannings of an order agree on all but the choice of shares; a log is refused by 2 to 11 as drawing is.
use mathlib.Core.Path.{◌≡◌, refl, sym, ap, subst, ◌∙◌}
use mathlib.Core.Logic.{◌≢◌, inl, inr}
use mathlib.Core.List.{List, [], ◌++◌, map, append_assoc}
use Prim.Native.Nat.{ℕ, ◌≤◌}
use native.Mathlib.Omega.{arith}
use lib.ListN.{length, drop}
use Rattle.model.specs.Sets.{Doses}
use Rattle.model.specs.Orders.{Order, dose_at}
use Rattle.model.specs.Classes.{Classes}
use Rattle.model.specs.Plans.{Class, Slot, class_record, slot_record, plan_of, records_bytes}
use Rattle.model.specs.Layout.{slots_of, class_at, classes_of}
use Rattle.model.specs.Intervals.{setting_of, fans_present}
use Rattle.model.specs.Log.{read_log}
use Rattle.model.specs.Answers.{Answer, refusal, Planned, Plans, overwritten, Draws, no_point, Laid, Lays, line_of}
use Rattle.model.proofs.Lists.{length_singles}
use Rattle.model.proofs.Plans.{records_append}
use Rattle.model.proofs.Sequence.{count_unique}
use Rattle.model.proofs.Answers.{one_order, refuses_one, refused_not_accepted, classes_settled}
use Rattle.demands.proofs.Log.Given.{laid_either, log_number}

-- two sequences of classes have one count, and so the same C records
pub classes_alike : (o : Order) (p p' : ℕ) (C C' : ℕ → Doses) → Classes (setting_of o) (fans_present o) p C → Classes (setting_of o) (fans_present o) p' C'
    → classes_of o p C ≡ classes_of o p' C'
classes_alike o p p' C C' c c' =
    let same = count_unique (setting_of o) (fans_present o) p p' C C' c c' in
    classes_settled o p C C' c (subst (λ (p : ℕ). Classes (setting_of o) (fans_present o) p C') (sym same) c') ∙ ap (λ (p : ℕ). classes_of o p C') same

-- two plannings of an order into one buffer agree on the answer, the classes and their records, which stand in front
pub record Agree (before : List ℕ) (r r' : Planned) (after after' : List ℕ) : Type 0 where
  pub answer : r.answer ≡ r'.answer
  pub classes : r.classes ≡ r'.classes
  pub front : List Class
  pub counted : length front ≡ r.classes
  pub rest : List ℕ
  pub rest' : List ℕ
  pub behind : after ≡ records_bytes (map class_record front) ++ rest
  pub behind' : after' ≡ records_bytes (map class_record front) ++ rest'
  -- where nothing was planned, the buffer is as it was
  pub kept : r.answer.number ≢ 0 → (after ≡ before) × (after' ≡ before)

-- nothing was planned
both_kept : (before : List ℕ) (a a' : Answer) → a ≡ a'
    → Agree before (record { answer = a; classes = 0; slots = 0 }) (record { answer = a'; classes = 0; slots = 0 }) before before
unfolding records_bytes
both_kept before a a' e = record {
  answer = e;
  classes = refl;
  front = [];
  counted = refl;
  rest = before;
  rest' = before;
  behind = refl;
  behind' = refl;
  kept = λ n. (refl, refl);
}

-- the S records, and the rest of the buffer
abbrev back : List ℕ → List Class → List Slot → List ℕ
back before classes slots = records_bytes (map slot_record slots) ++ drop (length (records_bytes (plan_of classes slots))) before

-- a plan is its C records and what is behind them
in_front : (before : List ℕ) (classes : List Class) (slots : List Slot)
    → overwritten before (records_bytes (plan_of classes slots)) ≡ records_bytes (map class_record classes) ++ back before classes slots
in_front before classes slots =
    ap (λ (b : List ℕ). b ++ drop (length (records_bytes (plan_of classes slots))) before) (records_append (map class_record classes) (map slot_record slots))
    ∙ append_assoc (records_bytes (map class_record classes)) (records_bytes (map slot_record slots)) _

-- "Two answers allowed by a promise" of planning agree so
pub plans_agree : {order before : List ℕ} {r r' : Planned} {after after' : List ℕ} → Plans order before r after → Plans order before r' after'
    → Agree before r r' after after'
plans_agree {before = before} (Plans.no_room s) (Plans.no_room s') = both_kept before (refusal 1 0) (refusal 1 0) refl
plans_agree (Plans.no_room s) (Plans.refuses w b q) = absurd (omega arith)
plans_agree (Plans.no_room s) (Plans.plans w o g p C c x v) = absurd (omega arith)
plans_agree (Plans.refuses w a q) (Plans.no_room s) = absurd (omega arith)
plans_agree {before = before} (Plans.refuses w a q) (Plans.refuses w' b q') = both_kept before a b (refuses_one q q')
plans_agree (Plans.refuses w a q) (Plans.plans w' o g p C c x v) = absurd (refused_not_accepted q g)
plans_agree (Plans.plans w o g p C c x v) (Plans.no_room s) = absurd (omega arith)
plans_agree (Plans.plans w o g p C c x v) (Plans.refuses w' b q) = absurd (refused_not_accepted q g)
plans_agree {before = before} (Plans.plans w o g p C c x v) (Plans.plans w' o' g' p' C' c' x' v') =
    let same_o = one_order g' g in
    let c'' : Classes (setting_of o) (fans_present o) p' C' = subst (λ (o : Order). Classes (setting_of o) (fans_present o) p' C') same_o c' in
    let front : classes_of o' p' C' ≡ classes_of o p C = ap (λ (o : Order). classes_of o p' C') same_o ∙ sym (classes_alike o p p' C C' c c'') in
    record {
      answer = refl;
      classes = count_unique (setting_of o) (fans_present o) p p' C C' c c'';
      front = classes_of o p C;
      counted = length_singles p (class_at o p C);
      rest = back before (classes_of o p C) (slots_of o p C x);
      rest' = back before (classes_of o' p' C') (slots_of o' p' C' x');
      behind = in_front before (classes_of o p C) (slots_of o p C x);
      behind' = in_front before (classes_of o' p' C') (slots_of o' p' C' x')
          ∙ ap (λ (l : List Class). records_bytes (map class_record l) ++ back before (classes_of o' p' C') (slots_of o' p' C' x')) front;
      kept = λ n. absurd (n refl);
    }

-- ---- a log and drawing

-- a log that is refused by 2 to 11: so is drawing, at any tick
pub laid_drawn : {order plan : List ℕ} {d : ℕ} {log : List ℕ} {x : Laid} → Lays order plan d log x → 2 ≤ x.answer.number → x.answer.number ≤ 11
    → (t : ℕ) → Draws order plan d t (no_point x.answer)
laid_drawn (Lays.refuses a j n) = λ low high t. Draws.refuses a j n
laid_drawn (Lays.no_such_dose o g h l) = λ low high t. Draws.no_such_dose o g h l
laid_drawn {order} {plan} {d} {log} (Lays.lays o g h l) =
    laid_either (λ x. 2 ≤ x.answer.number → x.answer.number ≤ 11 → (t : ℕ) → Draws order plan d t (no_point x.answer)) (line_of plan d) (read_log (dose_at o d).bay log)
    (λ number place e low high. elim (log_number (dose_at o d).bay log number place e) [ inl n ↦ absurd (omega arith) | inr n ↦ absurd (omega arith) ])
    (λ records e low high. absurd (omega arith))
