-- The season's sheet: what the slots of a plan that stands take is the P of its classes together, whichever plan it is; so an order comes to one
-- outcome, and a stream is added up in one way.
use mathlib.Core.Bool.{Bool, false, true}
use mathlib.Core.Path.{◌∙◌, ◌≡◌, ap, ap₂, refl, subst, sym}
use mathlib.Core.List.{List, [], ◌∷◌}
use Prim.Native.Nat.{ℕ, ◌*◌, ◌-◌, ◌<◌}
use native.Mathlib.Nat.{eq_of_mul-eq-mul_left, mul-pos}
use native.Mathlib.Omega.{arith}
use borrow.Author.Tests.{eq-eqb, eqb-true, ne_eqb}
use lib.Dec.{T, eqb}
use Rattle.model.specs.Limits.{most_bay}
use Rattle.model.specs.Sets.{Doses, on, sum, weight}
use Rattle.model.specs.Lists.{All, Along, also, none, total}
use Rattle.model.specs.Orders.{Order, no_dose}
use Rattle.model.specs.Classes.{Classes, P, Row, Setting, W, class_p}
use Rattle.model.specs.Intervals.{fans_present, setting_of}
use Rattle.model.specs.Plans.{Slot, plan_records, slots_read}
use Rattle.model.specs.Stands.{Named, SlotsStand, Stands, ends, starts, units_of}
use Rattle.model.specs.Answers.{Answer, done, refusal}
use Rattle.model.specs.Season.{AddedUp, AddsUp, Comes, FirstRate, Outcome, Rate, Takes, accepted_with, first_class, no_first_class, not_added_up, refused_by, season_of, slots_time}
use Rattle.model.proofs.Lists.{All-imp, Along-one, total_at, total_congr}
use Rattle.model.proofs.Orders.{Fit, read_fits}
use Rattle.model.proofs.Readings.{no_refusal}
use Rattle.model.proofs.Planner.{stand_read}
use Rattle.model.proofs.PlanPieces.{class_grid, grid, grid_pos, scale, scale_class, slot_grid, unit}
use Rattle.model.proofs.Sequence.{Nested, all_in_lem, nested, nested_one, prefix, prefix_weight, upto}
use Rattle.model.proofs.Sets.{Alike, alike, weight_all, weight_alike, weight_on_set, weight_scale}
use Rattle.model.proofs.Answers.{one_order, refused_not_accepted, refuses_one}
use Rattle.model.proofs.FanTime.{P-alike}
use Rattle.model.proofs.NextClass.{next_unique}
use Rattle.model.proofs.Sums.{one_term, sum_add, sum_congr, sum_scale, sum_zero}
use Rattle.model.proofs.ValidShares.{class_weighs}

-- ---- times as fractions

-- a slot's units
abbrev length_of : Slot → ℕ
length_of s = ends s - starts s

-- on a grid on which each slot's units are whole cells, the fraction is that many cells
on_grid : (cells : Slot → ℕ) (g : ℕ) {slots : List Slot} → All (λ s. cells s * s.weight ≡ g) slots
    → (slots_time slots).units * g ≡ (slots_time slots).per_second * total (λ s. length_of s * cells s) slots
unfolding slots_time total
on_grid cells g none = omega arith
on_grid cells g (also {a = s} {l = slots} e h) =
    let rest = slots_time slots in
    omega (
      arith,
      ap (λ (y : ℕ). length_of s * rest.per_second * y) e,
      ap (λ (y : ℕ). s.weight * y) (on_grid cells g h),
    )

-- seconds have units where every slot's have
units_some : {slots : List Slot} → All (λ s. 0 < s.weight) slots → 0 < (slots_time slots).per_second
unfolding slots_time
units_some none = omega arith
units_some (also h t) = mul-pos h (units_some t)

-- ---- slots by their doses

-- what all slots come to, dose by dose
by_dose : (n : ℕ) (f : Slot → ℕ) {slots : List Slot} → All (λ s. s.dose < n) slots
    → total f slots ≡ sum n (λ k. total (λ s. on (eqb k s.dose) (f s)) slots)
unfolding total
by_dose n f none = sym (sum_zero n)
by_dose n f (also {a = s} {l = slots} h t) =
    let own = one_term n s.dose (λ k. on (eqb k s.dose) (f s)) h (λ i l ne. rw (ne_eqb i s.dose ne)) in
    let mine : on (eqb s.dose s.dose) (f s) ≡ f s = rw (eq-eqb s.dose s.dose refl) in
    omega (arith, own, mine, by_dose n f t, sum_add n (λ k. on (eqb k s.dose) (f s)) (λ k. total (λ s. on (eqb k s.dose) (f s)) slots))

-- a number of times as much of each member
total_scale : {A : Type 0} (c : ℕ) (f : A → ℕ) (l : List A) → total (λ a. c * f a) l ≡ c * total f l
unfolding total
total_scale c f [] = omega arith
total_scale c f (a ∷ l) = omega (arith, total_scale c f l)

-- ---- a plan that stands

-- every dose is in a class
every_dose : (o : Order) (p : ℕ) (C : ℕ → Doses) → Classes (setting_of o) (fans_present o) p C → Alike (setting_of o).doses (upto C p) (λ k. true)
every_dose o p C c =
    alike (setting_of o).doses (upto C p) (λ k. true) (λ k l t. tt) (λ k l t. all_in_lem (setting_of o) (fans_present o) p C c k l)

module _ (o : Order) (fit : Fit o) (p : ℕ) (C : ℕ → Doses) (c : Classes (setting_of o) (fans_present o) p C) (slots : List Slot) (st : SlotsStand o p C slots) where
  abbrev S : Setting
  S = setting_of o

  abbrev F : Row
  F = fans_present o

  -- the cells of a unit of class l, on a grid on which every slot starts and ends
  abbrev unit_of : ℕ → ℕ
  unit_of l = unit o p C 1 l

  abbrev cells_of : Slot → ℕ
  cells_of s = scale o p C 1 s

  nest : Nested S.doses C p
  nest = nested S F p C c p (omega arith)

  -- a slot of a dose of class l has that class's units
  in_class : (l k : ℕ) → l < p → k < S.doses → T (C l k) → (s : Slot) → Named o p C s
      → on (eqb k s.dose) (length_of s * cells_of s) ≡ unit_of l * units_of k s
  in_class l k lp kn mine s n = go (eqb k s.dose) refl
    where
      go : (b : Bool) → eqb k s.dose ≡ b → on b (length_of s * cells_of s) ≡ unit_of l * on b (length_of s)
      go true e =
          let same : n.class ≡ l = nested_one S.doses C p nest n.class l k n.known lp kn (rw (eqb-true k s.dose e) n.member) mine in
          rw (scale_class o p C 1 s n, same) (omega arith)
      go false e = omega arith

  -- the cells of dose k's slots
  abbrev cells_at : ℕ → ℕ
  cells_at k = total (λ s. on (eqb k s.dose) (length_of s * cells_of s)) slots

  -- so a dose of class l has the cells of its grams
  dose_cells : (l k : ℕ) → l < p → k < S.doses → T (C l k)
      → cells_at k ≡ unit_of l * class_p S F C l * S.grams k
  dose_cells l k lp kn mine =
      omega (
        arith,
        total_congr (λ s. on (eqb k s.dose) (length_of s * cells_of s)) (λ s. unit_of l * units_of k s) (in_class l k lp kn mine) st.named,
        total_scale (unit_of l) (units_of k) slots,
        ap (λ (y : ℕ). unit_of l * y) (st.totals l k lp kn mine),
      )

  -- and a class those of its P
  class_cells : (l : ℕ) → l < p → weight S.doses cells_at (C l) ≡ grid o p C 1 * class_p S F C l
  class_cells l lp =
      omega (
        arith,
        weight_on_set S.doses cells_at (λ k. unit_of l * class_p S F C l * S.grams k) (C l) (λ k kn t. dose_cells l k lp kn t),
        weight_scale S.doses (unit_of l * class_p S F C l) S.grams (C l),
        ap (λ (y : ℕ). class_p S F C l * y) (class_grid o p C 1 l lp),
      )

  -- all of them together
  all_cells : total (λ s. length_of s * cells_of s) slots ≡ grid o p C 1 * sum p (class_p S F C)
  all_cells =
      by_dose S.doses (λ s. length_of s * cells_of s) (All-imp (λ s (n : Named o p C s). n.dose) st.named)
      ∙ sym (weight_all S.doses cells_at)
      ∙ sym (weight_alike S.doses cells_at (upto C p) (λ k. true) (every_dose o p C c))
      ∙ sym (prefix_weight S C cells_at p nest)
      ∙ sum_congr p (λ l lp. class_cells l lp)
      ∙ sum_scale p (grid o p C 1) (class_p S F C)

  -- so the slots take the P of the classes
  slots_take : (slots_time slots).units ≡ sum p (class_p S F C) * (slots_time slots).per_second
  slots_take =
      eq_of_mul-eq-mul_left (grid o p C 1) (grid_pos o p C 1 (class_weighs o p C c fit) (omega arith)) _ _ (omega (
        arith,
        on_grid cells_of (grid o p C 1) (All-imp (λ s (n : Named o p C s). slot_grid o p C 1 s n) st.named),
        ap (λ (y : ℕ). (slots_time slots).per_second * y) all_cells,
      ))

  -- and nothing else
  slots_take_one : (v : ℕ) → (slots_time slots).units ≡ v * (slots_time slots).per_second → v ≡ sum p (class_p S F C)
  slots_take_one v e =
      let heavy = All-imp {Q = λ s. 0 < s.weight} (λ s (n : Named o p C s). omega (arith, n.start_part)) st.named in
      eq_of_mul-eq-mul_left (slots_time slots).per_second (units_some heavy) _ _ (omega (arith, e, slots_take))

-- the grams of an order's classes are together those of its doses
pub classes_grams : (o : Order) (p : ℕ) (C : ℕ → Doses) → Classes (setting_of o) (fans_present o) p C
    → sum p (λ i. W (setting_of o) (C i)) ≡ total (λ d. d.grams) o.doses
classes_grams o p C c =
    prefix_weight (setting_of o) C (setting_of o).grams p (nested (setting_of o) (fans_present o) p C c p (omega arith))
    ∙ weight_alike (setting_of o).doses (setting_of o).grams (upto C p) (λ k. true) (every_dose o p C c)
    ∙ weight_all (setting_of o).doses (setting_of o).grams
    ∙ sym (total_at (λ d. d.grams) o.doses no_dose)

-- the P of an order's classes is together that of all its doses
pub classes_time : (o : Order) (p : ℕ) (C : ℕ → Doses) → Classes (setting_of o) (fans_present o) p C
    → sum p (class_p (setting_of o) (fans_present o) C) ≡ P (setting_of o) (fans_present o) (λ k. true)
classes_time o p C c =
    prefix (setting_of o) (fans_present o) C p (nested (setting_of o) (fans_present o) p C c p (omega arith))
    ∙ P-alike (setting_of o) (fans_present o) (upto C p) (λ k. true) (every_dose o p C c)

module _ (o : Order) (fit : Fit o) (plan : List ℕ) (st : Stands o plan) where
  own_time : sum st.count (class_p (setting_of o) (fans_present o) st.sets) ≡ P (setting_of o) (fans_present o) (λ k. true)
  own_time = classes_time o st.count st.sets st.classes

  -- "fan_seconds (from the slots, shown equal to the sum of P over classes)": of every plan that stands
  pub stands_takes : (p : ℕ) (C : ℕ → Doses) → Classes (setting_of o) (fans_present o) p C → Takes plan (sum p (class_p (setting_of o) (fans_present o) C))
  stands_takes p C c =
      let same = own_time ∙ sym (classes_time o p C c) in
      rw (← same) (record { whole = slots_take o fit st.count st.sets st.classes (slots_read (plan_records plan)) (stand_read st) })

  -- so they do not depend on the plan
  pub takes_all : (v : ℕ) → Takes plan v → v ≡ P (setting_of o) (fans_present o) (λ k. true)
  takes_all v t = slots_take_one o fit st.count st.sets st.classes (slots_read (plan_records plan)) (stand_read st) v t.whole ∙ own_time

-- ---- one outcome, one answer

-- an order has one first class, or none
first_rate_one : (o : Order) (r r' : Rate) → FirstRate o r → FirstRate o r' → r ≡ r'
first_rate_one o r r' (no_first_class z) (no_first_class z') = refl
first_rate_one o r r' (no_first_class z) (first_class A f) = absurd (omega (arith, z, f.some.1))
first_rate_one o r r' (first_class A f) (no_first_class z) = absurd (omega (arith, z, f.some.1))
first_rate_one o r r' (first_class A f) (first_class B g) =
    let same = next_unique (setting_of o) (fans_present o) (λ k. true) A B f g in
    let weight = weight_alike (setting_of o).doses (setting_of o).grams A B same in
    let time = P-alike (setting_of o) (fans_present o) A B same in
    λ i. record { weight = weight i; time = time i }

-- an order comes to one outcome
pub comes_one : {order : List ℕ} {x y : Outcome} → Comes order x → Comes order y → x ≡ y
comes_one (Comes.refuses a r) (Comes.refuses b s) = ap (λ (a : Answer). refused_by a.number) (refuses_one r s)
comes_one (Comes.refuses a r) (Comes.accepts o g plan st v t f h) = absurd (refused_not_accepted r g)
comes_one (Comes.accepts o g plan st v t f h) (Comes.refuses b s) = absurd (refused_not_accepted s g)
comes_one {order} (Comes.accepts o g plan st v t f h) (Comes.accepts o' g' plan' st' v' t' f' h') =
    let same : o' ≡ o = one_order g' g in
    let fit = read_fits most_bay order o g.reads in
    let there = subst (λ (o : Order). Stands o plan') same st' in
    let seconds : v ≡ v' = takes_all o fit plan st v t ∙ sym (takes_all o fit plan' there v' t') in
    let first = first_rate_one o f f' h (subst (λ (o : Order). FirstRate o f') same h') in
    λ i. accepted_with (total (λ d. d.grams) (sym same i).doses) (seconds i) (first i)

-- and a stream is added up in one way
pub adds_up_one : {stream : List ℕ} {a b : AddedUp} → AddsUp stream a → AddsUp stream b → a ≡ b
adds_up_one (AddsUp.refuses n p e) (AddsUp.refuses n' p' e') =
    let number : n ≡ n' = cc in let place : p ≡ p' = cc in ap₂ (λ (n p : ℕ). not_added_up (refusal n p)) number place
adds_up_one (AddsUp.refuses n p e) (AddsUp.adds_up l f m h) = absurd (no_refusal n p l (sym e ∙ f))
adds_up_one (AddsUp.adds_up l f m h) (AddsUp.refuses n p e) = absurd (no_refusal n p l (sym e ∙ f))
adds_up_one {stream} (AddsUp.adds_up l f m h) (AddsUp.adds_up l' f' m' h') =
    let same : l' ≡ l = cc in
    let outcomes : m ≡ m' = Along-one (λ a x y. comes_one) h (subst (λ (l : List (List ℕ)). Along Comes l m') same h') in
    ap (λ (m : List Outcome). record { answer = done; season = season_of m }) outcomes
