-- What one order comes to, by its classes: their grams, their P and the first of them. Assumes nothing.
use mathlib.Core.Bool.{true, false}
use mathlib.Core.List.{List}
use mathlib.Core.Path.{◌≡◌, refl, ap, ◌∙◌, sym}
use Prim.Native.Nat.{ℕ, zero, suc, ◌+◌, ◌<◌, ◌≤◌}
use native.Mathlib.Omega.{arith}
use borrow.Author.Tests.{clash}
use lib.ListN.{get_or, length, take}
use Rattle.std.proofs.Common.{None, Option, Some}
use Rattle.std.specs.Option.{is_some}
use Rattle.std.specs.List as list
use Rattle.std.proofs.lemmas.List.{get_or_past, take_all}
use Rattle.std.proofs.lemmas.List.Sums.{sum_by_more}
use Rattle.model.specs.Limits.{most_bay, most_doses, most_weight}
use Rattle.model.specs.Sets.{sum}
use Rattle.model.specs.Records.{read, refused}
use Rattle.model.specs.Orders.{Order, read_order}
use Rattle.model.specs.Intervals.{fans_present, setting_of}
use Rattle.model.specs.Answers.{refusal, unread}
use Rattle.model.specs.Answers as answers
use Rattle.model.specs.Season.{Comes, FirstRate, Rate, accepted_with, first_class, no_first_class, refused_by}
use Rattle.model.proofs.Lists.{sum_const}
use Rattle.model.proofs.Sums.{sum_congr, sum_le}
use Rattle.model.proofs.Sequence.{few_classes}
use Rattle.model.proofs.Orders.{Fit}
use Rattle.model.proofs.Answers.{first_next, first_time, no_doses, unread_number}
use Rattle.model.proofs.Planner.{W-most, time_most}
use Rattle.model.proofs.Season.{classes_grams, stands_takes}
use Rattle.model.proofs.Written.{plan_stands}
use Rattle.classes.specs.Answer.{AgainstTop, ClassesOf, SharesOf}
use Rattle.classes.specs.Phase.{classes_in, shares_in}
use Rattle.classes.specs.declared.Tally.{Tally}
use Rattle.classes.specs.declared.TooFast.{TooFast}
use Rattle.steps.proofs.Tests.{below_or}
use Rattle.season.specs.Held.{OrderComes, above, below, most_of_order}

none_of : {A : Type 0} (x : Option A) → is_some x ≡ false → x ≡ None
none_of None e = refl
none_of (Some a) e = absurd (clash (sym e))

-- the first n numbers of a list, together
pub first_sum : (n : ℕ) (xs : List ℕ) → list.sum (take n xs) ≡ sum n (λ i. get_or xs i 0)
unfolding sum
first_sum zero xs = refl
first_sum (suc n) xs =
    let next : n + 1 ≡ suc n = omega arith in
    below_or n (length xs)
    (λ l. rw next at (sum_by_more (λ x. x) xs n 0 l) ∙ ap (λ (s : ℕ). s + get_or xs n 0) (first_sum n xs))
    (λ l. let all = take_all n xs l in let more = take_all (suc n) xs (omega arith) in omega (arith, first_sum n xs, get_or_past xs n 0 l, ap list.sum (more ∙ sym all)))

-- of few small numbers, they are no more than those of an order
few_together : (n : ℕ) (xs : List ℕ) → n ≤ most_doses → ((i : ℕ) → i < n → get_or xs i 0 ≤ most_weight) → list.sum (take n xs) ≤ most_of_order
few_together n xs few small = omega (arith, first_sum n xs, sum_le n {g = λ i. most_weight} small, sum_const n most_weight)

module _ (o : Order) (fit : Fit o) (t : Tally) (c : ClassesOf o t) where
  -- there are few classes, and their W and P are small
  pub classes_few : t.class ≤ most_doses
  classes_few = omega (arith, few_classes (setting_of o) (fans_present o) t.class (classes_in t) c.classes, fit.few)

  pub weights_fit : (i : ℕ) → i < t.class → get_or t.weight i 0 ≤ most_weight
  weights_fit i l = omega (arith, c.weight i l, W-most o fit t.class (classes_in t) (classes_in t i))

  pub times_fit : (i : ℕ) → i < t.class → get_or t.time i 0 ≤ most_weight
  times_fit i l = omega (arith, c.time i l, time_most o fit t.class (classes_in t) i)

  -- and together no more than those of an order
  pub sums_fit : (list.sum (take t.class t.weight) ≤ most_of_order) × (list.sum (take t.class t.time) ≤ most_of_order)
  sums_fit = (few_together t.class t.weight classes_few weights_fit, few_together t.class t.time classes_few times_fit)

  -- the first class, or none
  pub first_none : t.class ≡ 0 → FirstRate o (record { weight = 0; time = 1 })
  first_none e = no_first_class (no_doses o t.class (classes_in t) c.classes e)

  pub first_some : 0 < t.class → FirstRate o (record { weight = get_or t.weight 0 0; time = get_or t.time 0 0 })
  first_some l =
      let time = c.time 0 l ∙ first_time o t.class (classes_in t) c.classes in
      rw (c.weight 0 l, time) (first_class (classes_in t 0) (first_next o t.class (classes_in t) c.classes l))

  -- 9
  pub comes_above : {top : Option TooFast} → AgainstTop o top → is_some top ≡ true → OrderComes o (refused_by 9)
  comes_above {top = Some f} h e = let x = h.above f refl in above x.0 x.1 x.2
  comes_above {top = None} h e = absurd (clash e)

  -- or the figures: its own plan, which nobody writes, stands and takes the P of its classes
  pub comes_below : {top : Option TooFast} {table : List (List ℕ)} {shares : List ℕ} → SharesOf o t table shares → AgainstTop o top → is_some top ≡ false
      → (grams seconds : ℕ) → grams ≡ list.sum (take t.class t.weight) → seconds ≡ list.sum (take t.class t.time)
      → (first : Rate) → FirstRate o first → OrderComes o (accepted_with grams seconds first)
  comes_below {top = top} {shares = shares} s h e grams seconds eg es first f =
      let C = classes_in t in
      let stands = plan_stands o fit t.class C c.classes (shares_in t shares) s.valid in
      let all_grams = eg ∙ first_sum t.class t.weight ∙ sum_congr t.class (λ i l. c.weight i l) ∙ classes_grams o t.class C c.classes in
      let all_seconds = es ∙ first_sum t.class t.time ∙ sum_congr t.class (λ i l. c.time i l) in
      rw (all_grams, all_seconds) (below (h.slow (none_of top e)) _ stands _ (stands_takes o fit _ stands t.class C c.classes) first f)

-- ---- the bytes of an order

module _ (order : List ℕ) where
  -- 2 to 8
  pub comes_unread : {number place : ℕ} → read_order most_bay order ≡ refused number place → Comes order (refused_by number) × (number ≤ 8)
  comes_unread {number} {place} e = (Comes.refuses (refusal number place) (unread number place e), (unread_number order number place e).1)

  -- 9, or accepted
  pub comes_read : {o : Order} {x : _} → read_order most_bay order ≡ read o → OrderComes o x → Comes order x
  comes_read {o} e (above A f t) = Comes.refuses _ (answers.above o A e f t)
  comes_read {o} e (below slow plan stands v takes first f) = Comes.accepts o (record { reads = e; slow = slow }) plan stands v takes first f
