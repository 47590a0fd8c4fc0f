-- The arrays of an order stand for its setting. Assumes nothing.
use mathlib.Core.Bool.{Bool, ◌&&◌}
use mathlib.Core.List.{List}
use mathlib.Core.Logic.{inl, inr}
use mathlib.Core.Path.{◌≡◌, refl, sym, ap, ◌∙◌}
use Prim.Native.Nat.{ℕ, ◌+◌, ◌*◌, ◌-◌, ◌%◌, ◌<◌, ◌≤◌}
use native.Mathlib.Omega.{arith}
use borrow.Author.Tests.{lt-ltb, le-ltb}
use lib.Arith.{digits_div, digits_mod}
use lib.Dec.{ltb}
use lib.ListN.{get_or}
use Rattle.model.specs.Limits.{most_doses, most_intervals}
use Rattle.model.specs.Orders as model
use Rattle.model.specs.Intervals.{interval_count, setting_of}
use Rattle.model.proofs.Fractions.{compare≤}
use Rattle.model.proofs.Same.{Agree}
use Rattle.model.proofs.Orders.{Fit}
use Rattle.model.proofs.Intervals.{few_intervals, instants_week}
use Rattle.order.specs.declared.Order.{Order}
use Rattle.order.specs.Held.{as_order}
use Rattle.order.proofs.Fields.{doses_is, dose_is, few_doses}
use Rattle.interval.specs.declared.Instants.{Instants}
use Rattle.interval.specs.Held.{InstantsOf, active_in}
use Rattle.interval.proofs.Laws.{count_is, span_is, active_is}
use Rattle.measure.specs.declared.arrays.Setting as measure
use Rattle.measure.specs.Held.{as_setting}
use Rattle.measure.specs.Arrays.{ActiveIn, GramsIn, LensIn, active_of, intervals_of, setting_from, OrderArrays}
use Rattle.steps.proofs.Tests.{and_false}

module _ (o : Order) (fit : Fit (as_order o)) (s : Instants) (of : InstantsOf o s) (active : List Bool) (lens grams : List ℕ)
    (ha : ActiveIn o s (intervals_of s) active) (hl : LensIn s lens) (hg : GramsIn o grams) where
  intervals_is : intervals_of s ≡ interval_count (as_order o)
  intervals_is = ap (λ (m : ℕ). m - 1) (count_is o s of)

  few_spans : intervals_of s ≤ most_intervals
  few_spans = omega (arith, intervals_is, few_intervals (as_order o) fit)

  active_at_lem : (k j : ℕ) → k < most_doses → j < most_intervals → active_of active k j ≡ (ltb k o.count && (ltb j (intervals_of s) && active_in o s k j))
  active_at_lem k j hk hj =
      ha (k * most_intervals + j) (omega arith)
      ∙ ap (λ (m : ℕ). ltb m o.count && (ltb ((k * most_intervals + j) % most_intervals) (intervals_of s) && active_in o s m ((k * most_intervals + j) % most_intervals))) (digits_div k hj)
      ∙ ap (λ (m : ℕ). ltb k o.count && (ltb m (intervals_of s) && active_in o s k m)) (digits_mod k hj)

  span_at : (j : ℕ) → j < most_intervals → get_or lens j 0 ≡ (setting_of (as_order o)).len j
  span_at j q = hl.intervals j q ∙ span_is o s of j

  grams_at : (k : ℕ) → k < o.count → get_or grams k 0 ≡ (setting_of (as_order o)).grams k
  grams_at k q = hg.doses k q ∙ ap (λ (d : model.Dose). d.grams) (dose_is o k q)

  -- their setting is the order's
  pub agree : Agree (setting_from o.count (intervals_of s) active lens grams) (setting_of (as_order o))
  agree = record {
    doses = doses_is o;
    intervals = intervals_is;
    active = λ k j q m. active_at_lem k j (omega (arith, few_doses o fit)) (omega (arith, few_spans))
        ∙ rw (lt-ltb k o.count q, lt-ltb j (intervals_of s) m) (active_is o s of k j q);
    len = λ j m. span_at j (omega (arith, few_spans));
    grams = grams_at;
  }

  -- the table and the lengths are those of its windows and instants; the numbers fit, and nothing stands past the doses and the intervals
  pub arrays : OrderArrays o s active lens grams
  arrays = record {
    same = record {
      doses = refl;
      intervals = refl;
      active = λ k j q m. sym (active_at_lem k j (omega (arith, few_doses o fit)) (omega (arith, few_spans)) ∙ rw (lt-ltb k o.count q, lt-ltb j (intervals_of s) m));
      len = λ j m. sym (hl.intervals j (omega (arith, few_spans)));
      grams = λ k q. sym (hg.doses k q);
    };
    few_doses = few_doses o fit;
    few_intervals = few_spans;
    short = λ j. elim (compare≤ most_intervals j) [ inl h ↦ omega (arith, hl.past j h) | inr h ↦ omega (arith, span_at j h, instants_week (as_order o) fit (j + 1)) ];
    light = λ k. elim (compare≤ o.count k) [ inl h ↦ omega (arith, hg.past k h) | inr h ↦ omega (arith, grams_at k h, fit.light k (omega (arith, doses_is o))) ];
    heavy = λ k q. omega (arith, grams_at k q, fit.some_grams k (omega (arith, doses_is o)));
    no_grams = hg.past;
    no_dose = λ k j h l q. active_at_lem k j l q ∙ rw (le-ltb k o.count h);
    no_interval = λ k j l h q. active_at_lem k j l q ∙ rw (le-ltb j (intervals_of s) h) (and_false (ltb k o.count));
  }

-- and so does the struct that has them
pub stands_for : (o : Order) (s : Instants) (h : measure.Setting) → h.order ≡ o → h.instants ≡ s → Fit (as_order o) → InstantsOf o s
    → ActiveIn o s (intervals_of s) h.active → LensIn s h.lens → GramsIn o h.grams → Agree (as_setting h) (setting_of (as_order o))
stands_for o s h e q fit of ha hl hg = rw (e, q) (agree o fit s of h.active h.lens h.grams ha hl hg)
