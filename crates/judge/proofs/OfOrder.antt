-- The arrays of an order, and what the tests over them tell of the order.
use mathlib.Core.Bool.{Bool, true, false}
use mathlib.Core.List.{List}
use mathlib.Core.Path.{◌≡◌, ap, refl, sym, ◌∙◌}
use Rattle.std.specs.Prelude.{MatchOption, Option, Some, None}
use Rattle.std.specs.Bool.{then_some}
use Prim.Native.Nat.{ℕ, ◌*◌, ◌-◌, ◌/◌, ◌<◌, ◌≤◌}
use native.Mathlib.Omega.{arith}
use lib.Dec.{T, ltb→lt, lt→ltb}
use lib.ListN.{length}
use Rattle.model.specs.Records.{record_size}
use Rattle.model.specs.Sets.{Doses}
use Rattle.model.specs.Orders as model
use Rattle.model.specs.Intervals.{fans_present, setting_of}
use Rattle.model.specs.Classes.{P, W, free, remaining, set_number}
use Rattle.model.specs.Plans as plans
use Rattle.model.specs.Stands.{Stands}
use Rattle.model.specs.Answers.{FirstClass, above_top, too_fast}
use Rattle.model.proofs.Orders.{Fit}
use Rattle.model.proofs.Sets.{weight_alike}
use Rattle.model.proofs.FanTime.{P-alike}
use Rattle.model.proofs.NextClass.{next_unique}
use Rattle.order.specs.declared.Order.{Order}
use Rattle.order.specs.Held.{as_order}
use Rattle.order.proofs.Fields.{doses_is, fans_is, top_grams_is, top_seconds_is, dose_is}
use Rattle.interval.specs.declared.Instants.{Instants}
use Rattle.interval.specs.Held.{InstantsOf}
use Rattle.interval.proofs.Laws.{count_is, instant_is}
use Rattle.records.specs.Plan.{class_in}
use Rattle.judge_clauses.specs.declared.Certificate.{Certificate}
use Rattle.judge_clauses.specs.Tests.{ClassNumbers, HeldFrom, Leads, OrderHeld, Passes, Tells, order_held}
use Rattle.measure.specs.Arrays.{sets_of}
use Rattle.classes.specs.Answer.{AgainstTop, nine}
use Rattle.classes.specs.declared.TooFast.{TooFast}
use Rattle.judge.specs.Verdict.{Certified, Leader}
use Rattle.judge.proofs.Held.{same_weight, same_time}
use Rattle.judge.proofs.Certified.{passes_classes, passes_stands}
use Rattle.judge.proofs.Complete.{stands_passes}

module _ (o : Order) where
  -- it and its instants hold it
  pub holds : (s : Instants) → InstantsOf o s → HeldFrom (as_order o) (order_held o s)
  holds s of = record {
    doses = doses_is o;
    intervals = ap (λ (n : ℕ). n - 1) (count_is o s of);
    fans = fans_is o;
    release = λ k l. ap (λ (d : model.Dose). d.release) (dose_is o k l);
    deadline = λ k l. ap (λ (d : model.Dose). d.deadline) (dose_is o k l);
    grams = λ k l. ap (λ (d : model.Dose). d.grams) (dose_is o k l);
    instants = λ j l. instant_is o s of j;
  }

-- ---- the tests tell whether plan bytes stand, and the first class

module _ (o : model.Order) (fit : Fit o) (h : OrderHeld) (sh : HeldFrom o h) (plan : List ℕ) (p : ℕ) (numbers : List ℕ) where
  leads : p ≤ length plan / record_size → Passes h plan p numbers → Leader o plan p numbers
  unfolding remaining free
  leads short q =
      let c = passes_classes o fit h sh plan p numbers short q in
      record {
        short = short;
        none = λ e A f. let r = f.some in c.done r.0 r.1 (rw e tt);
        first = λ l. c.next 0 l;
        weight = λ l. (q.classes 0 l).weight ∙ same_weight o h sh (sets_of numbers 0);
        time = λ l. (q.classes 0 l).time ∙ same_time o h sh (sets_of numbers) 0;
      }

-- bytes that pass stand, and their first record is the first class; others do not stand
pub certified : (o : model.Order) → Fit o → (h : OrderHeld) → HeldFrom o h → (plan : List ℕ) (c : Certificate) → Leads plan c.classes
    → ClassNumbers plan c.classes (length plan / record_size) c.numbers → (r : Bool) → Tells r (Passes h plan c.classes c.numbers)
    → MatchOption (then_some r c) (¬ Stands o plan) (λ x. Certified o plan x)
certified o fit h sh plan c l n true t =
    let q = t.yes refl in
    record { stands = passes_stands o fit h sh plan c.classes c.numbers l.short q; leader = leads o fit h sh plan c.classes c.numbers l.short q }
certified o fit h sh plan c l n false t = λ st. t.no refl (stands_passes o fit h sh plan c.classes c.numbers l n st)

-- ---- the first class against the top rate

-- none is above it
pub not_above : (o : model.Order) → ((A : Doses) → FirstClass o A → T (above_top o A) → ⊥) → AgainstTop o None
not_above o f = record { slow = λ e. f; above = λ r e. absurd (differ r e) }
  where
    differ : (r : TooFast) → ◌≡◌ {A = Option TooFast} None (Some r) → ⊥
    differ r e = cc

-- A is
pub is_above : (o : model.Order) (r : TooFast) (A : Doses) → FirstClass o A → T (above_top o A) → nine r ≡ too_fast o A → AgainstTop o (Some r)
is_above o r A f t e = record { slow = λ q. absurd (differ q); above = λ g q. (A, f, t, ap nine (sym (same g q)) ∙ e) }
  where
    differ : ◌≡◌ {A = Option TooFast} (Some r) None → ⊥
    differ q = cc

    same : (g : TooFast) → ◌≡◌ {A = Option TooFast} (Some r) (Some g) → r ≡ g
    same g q = cc

module _ (o : model.Order) (A : Doses) (f : FirstClass o A) where
  -- any first class is this one
  slow_if : W (setting_of o) A * o.top_seconds ≤ P (setting_of o) (fans_present o) A * o.top_grams → AgainstTop o None
  slow_if l = not_above o (λ B g t.
      let same = next_unique (setting_of o) (fans_present o) (λ k. true) B A g f in
      omega (
        arith,
        ltb→lt (P (setting_of o) (fans_present o) B * o.top_grams) (W (setting_of o) B * o.top_seconds) t,
        ap (λ (y : ℕ). y * o.top_seconds) (weight_alike (setting_of o).doses (setting_of o).grams B A same),
        ap (λ (y : ℕ). y * o.top_grams) (P-alike (setting_of o) (fans_present o) B A same),
      ))

-- ---- as the plan's first record has it

module _ (o : Order) {plan : List ℕ} {p : ℕ} {numbers : List ℕ} (leader : Leader (as_order o) plan p numbers) (l : 0 < p)
    {c : plans.Class} (e : c ≡ class_in plan 0) where
  abbrev A : Doses
  A = sets_of numbers 0

  weight_is : c.weight ≡ W (setting_of (as_order o)) A
  weight_is = ap (λ (x : plans.Class). x.weight) e ∙ leader.weight l

  time_is : c.time ≡ P (setting_of (as_order o)) (fans_present (as_order o)) A
  time_is = ap (λ (x : plans.Class). x.time) e ∙ leader.time l

  pub leader_slow : c.weight * o.top_seconds ≤ c.time * o.top_grams → AgainstTop (as_order o) None
  leader_slow h = slow_if (as_order o) A (leader.first l) (rw (← weight_is, ← time_is, ← top_seconds_is o, ← top_grams_is o) h)

  pub leader_fast : (set g t : ℕ) → set ≡ set_number o.count A → g ≡ c.weight → t ≡ c.time → c.time * o.top_grams < c.weight * o.top_seconds
      → AgainstTop (as_order o) (Some (record { set = set; weight = g; time = t }))
  leader_fast set g t es eg et h =
      is_above (as_order o) _ A (leader.first l)
      (lt→ltb (P (setting_of (as_order o)) (fans_present (as_order o)) A * (as_order o).top_grams) (W (setting_of (as_order o)) A * (as_order o).top_seconds)
      (rw (← weight_is, ← time_is, ← top_seconds_is o, ← top_grams_is o) h))
      (rw (es ∙ ap (λ (n : ℕ). set_number n A) (doses_is o), eg ∙ weight_is, et ∙ time_is))
