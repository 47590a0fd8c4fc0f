-- A plan that stands, by its bytes: one sequence of classes, and the line of a dose.
use mathlib.Core.Path.{◌∙◌, ◌≡◌, ap, fun_ext}
use mathlib.Core.List.{List}
use Prim.Native.Nat.{ℕ, ◌<◌}
use native.Mathlib.Omega.{arith}
use lib.Dec.{T}
use Rattle.model.specs.Sets.{Doses}
use Rattle.model.specs.Orders.{Order}
use Rattle.model.specs.Classes.{Classes, P, Row, Setting, W, class_p, free}
use Rattle.model.specs.Intervals.{fans_present, setting_of}
use Rattle.model.specs.Plans.{Slot, plan_records, slots_read}
use Rattle.model.specs.Stands.{SlotsStand, Stands}
use Rattle.model.specs.Line.{weight_of, time_of}
use Rattle.model.proofs.Sets.{Alike, weight_alike}
use Rattle.model.proofs.FanTime.{P-alike}
use Rattle.model.proofs.Sequence.{classes_unique, count_unique, free_alike, one_class}
use Rattle.model.proofs.Orders.{Fit}
use Rattle.model.proofs.Planner.{stand_read}
use Rattle.model.proofs.DrawnLine.{InClass, Line, class_of, dose_rate, line_of}

-- ---- one sequence of classes

module _ (S : Setting) (F : Row) (p p' : ℕ) (C C' : ℕ → Doses) (c : Classes S F p C) (c' : Classes S F p' C') where
  same_count : p ≡ p'
  same_count = count_unique S F p p' C C' c c'

  same_sets : (l : ℕ) → l < p → Alike S.doses (C l) (C' l)
  same_sets l lp = classes_unique S F p p' C C' c c' l lp (omega (arith, same_count))

  -- a dose is in the same class in both
  pub same_member : (l k : ℕ) → l < p → k < S.doses → T (C l k) → (l < p') × T (C' l k)
  same_member l k lp kn t = (omega (arith, same_count), rw (same_sets l lp k kn) at t)

  -- which has one W and one P
  pub same_rate : (l i k : ℕ) → l < p → i < p' → k < S.doses → T (C l k) → T (C' i k) → (W S (C l) ≡ W S (C' i)) × (class_p S F C l ≡ class_p S F C' i)
  same_rate l i k lp ip kn t t' =
      let m = same_member l k lp kn t in
      let same : l ≡ i = one_class S F p' C' c' l i k m.0 ip kn m.1 t' in (
        weight_alike S.doses S.grams (C l) (C' l) (same_sets l lp) ∙ ap (λ (l : ℕ). W S (C' l)) same,
        P-alike S (free S F C l) (C l) (C' l) (same_sets l lp)
            ∙ ap (λ (row : Row). P S row (C' l)) (fun_ext (free_alike S F C C' l (λ h q. same_sets h (omega arith))))
            ∙ ap (λ (l : ℕ). class_p S F C' l) same,
      )

-- ---- a dose of a plan that stands

module _ (o : Order) (plan : List ℕ) (st : Stands o plan) where
  abbrev S : Setting
  S = setting_of o

  abbrev slots : List Slot
  slots = slots_read (plan_records plan)

  stand : SlotsStand o st.count st.sets slots
  stand = stand_read st

  module _ (fit : Fit o) (d : ℕ) (dn : d < S.doses) where
    own : InClass st.count st.sets d
    own = class_of o fit st.count st.sets st.classes slots stand d dn

    -- its line
    pub plan_line : Line o slots d
    plan_line = line_of o fit st.count st.sets st.classes slots stand d dn own

    -- its W and P are its class's
    pub plan_rate : (p : ℕ) (C : ℕ → Doses) → Classes S (fans_present o) p C → (i : ℕ) → i < p → T (C i d)
        → (weight_of slots d ≡ W S (C i)) × (time_of slots d ≡ class_p S (fans_present o) C i)
    plan_rate p C c i ip t =
        let named = dose_rate o fit st.count st.sets st.classes slots stand d dn own in
        let r = same_rate S (fans_present o) st.count p st.sets C st.classes c own.class i d own.known ip dn own.member t in
        (named.0 ∙ r.0, named.1 ∙ r.1)
