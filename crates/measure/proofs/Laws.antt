-- Laws of the arrays that measure a set: what is worked out in them is its W, P and open fans. Assumes nothing.
use mathlib.Core.Bool.{Bool}
use mathlib.Core.List.{List}
use mathlib.Core.Path.{◌≡◌, refl, ap, ap₂, ◌∙◌}
use Prim.Native.Nat.{ℕ, zero, suc, ◌*◌, ◌<◌, ◌≤◌, min}
use native.Mathlib.Nat.{mul-le-mul}
use native.Mathlib.Omega.{arith}
use lib.ListN.{get_or}
use Rattle.model.specs.Limits.{most_weight, most_doses, most_grams, week}
use Rattle.model.specs.Sets.{sum, on, weight, Doses}
use Rattle.model.specs.Classes.{Setting, Row, P, open_fans}
use Rattle.model.proofs.Same.{Agree, fans_same, W-same, time_same}
use Rattle.model.proofs.Sets.{Alike, on_below, weight_alike}
use Rattle.model.proofs.Sums.{sum_congr}
use Rattle.order.specs.declared.Order.{Order}
use Rattle.interval.specs.declared.Instants.{Instants}
use Rattle.interval.specs.Held.{span_in}
use Rattle.measure.specs.declared.arrays.Setting as measure
use Rattle.measure.specs.Arrays.{set_of, row_of, grams_of, intervals_of, setting_by, Below, OrderArrays}
use Rattle.measure.specs.Held.{as_setting}
use Rattle.measure.specs.Measure.{Opens, Measured}

-- ---- W and P fit

sum_most : (n b : ℕ) (f : ℕ → ℕ) → ((k : ℕ) → k < n → f k ≤ b) → sum n f ≤ n * b
unfolding sum
sum_most zero b f h = omega arith
sum_most (suc n) b f h = omega (arith, sum_most n b f (λ k l. h k (omega arith)), h n (omega arith))

module _ {o : Order} {s : Instants} {active : List Bool} {lens grams : List ℕ} (arrays : OrderArrays o s active lens grams) where
  pub W-most : (A : Doses) → weight o.count (grams_of o) A ≤ most_weight
  unfolding weight
  W-most A =
      omega (arith, arrays.few_doses, sum_most o.count most_grams (λ k. on (A k) (grams_of o k)) (λ k l. omega (arith, on_below (A k) (grams_of o k), arrays.same.grams k l, arrays.light k)))

  pub time_most : (fans : List ℕ) → Below most_doses fans → sum (intervals_of s) (λ j. span_in s j * get_or fans j 0) ≤ 1000000000
  time_most fans small =
      omega (arith, arrays.few_intervals, sum_most (intervals_of s) 14515200 (λ j. span_in s j * get_or fans j 0) (λ j l. omega (arith, mul-le-mul (short j l) (small j))))
    where
      short : (j : ℕ) → j < intervals_of s → span_in s j ≤ week
      short j l = omega (arith, arrays.same.len j l, arrays.short j)

-- ---- what is worked out in the arrays is what a set weighs and opens

-- the array marks the set A, and `free` has the fans of the row
module _ (o : Order) (s : Instants) (A : Doses) (set : List Bool) (marked : Alike o.count (set_of set) A)
    (row : Row) (free : List ℕ) (left : (j : ℕ) → j < intervals_of s → get_or free j 0 ≡ row j) (open-fans : List ℕ) (w p : ℕ)
    (opened : Opens o s set free open-fans) (weighs : w ≡ weight o.count (grams_of o) (set_of set))
    (lasts : p ≡ sum (intervals_of s) (λ j. span_in s j * get_or open-fans j 0)) where
  abbrev S : Setting
  S = setting_by o s

  fans : (j : ℕ) → j < intervals_of s → get_or open-fans j 0 ≡ open_fans S row A j
  unfolding open_fans
  fans j l = opened.smaller j l ∙ ap₂ min (weight_alike o.count _ (set_of set) A marked) (left j l)

  time : p ≡ P S row A
  unfolding P
  time = lasts ∙ sum_congr (intervals_of s) (λ j l. ap (λ (y : ℕ). span_in s j * y) (fans j l))

  pub measured : Measured S row A w p open-fans
  measured = record { weight = weighs ∙ weight_alike o.count _ (set_of set) A marked; time = time; fans = fans; no_fans = λ j g q. opened.none j g }

-- and so in a setting that agrees
pub measured_same : (S S' : Setting) → Agree S S' → {row : Row} {A : Doses} {w p : ℕ} {open-fans : List ℕ}
    → Measured S row A w p open-fans → Measured S' row A w p open-fans
measured_same S S' a {row} {A} m = record {
  weight = m.weight ∙ W-same S S' a A A (λ k l. refl);
  time = m.time ∙ time_same S S' a row row (λ j l. refl) A A (λ k l. refl);
  fans = λ j l. let l' : j < S.intervals = omega (arith, a.intervals) in m.fans j l' ∙ fans_same S S' a row row (λ j l. refl) A A (λ k l. refl) j l';
  no_fans = λ j g q. m.no_fans j (omega (arith, a.intervals)) q;
}

-- W, P and open fans are worked out by the windows, and so they are those of the table
pub worked_out : (h : measure.Setting) (free : List ℕ) (set : List Bool) (reserved : List ℕ) (w p : ℕ) → Opens h.order h.instants set free reserved
    → w ≡ weight h.order.count (grams_of h.order) (set_of set) → p ≡ sum (intervals_of h.instants) (λ j. span_in h.instants j * get_or reserved j 0)
    → Measured (as_setting h) (row_of free) (set_of set) w p reserved
worked_out h free set reserved w p opened weighs lasts =
    measured_same _ _ h.arrays.same (measured h.order h.instants (set_of set) set (λ k l. refl) (row_of free) free (λ j l. refl) reserved w p opened weighs lasts)
