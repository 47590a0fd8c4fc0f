-- The season's figures with one order more, and how large they are. Assumes nothing.
use mathlib.Core.List.{List, [], ◌∷◌, ◌++◌}
use mathlib.Core.Path.{◌≡◌, refl, ap, ◌∙◌, sym}
use Prim.Native.Nat.{ℕ, ◌+◌, ◌*◌, ◌<◌, ◌≤◌}
use native.Mathlib.Nat.{mul-le-mul_right}
use native.Mathlib.Omega.{arith}
use borrow.Author.Tests.{eq-eqb, le-ltb, ne_eqb}
use Rattle.std.proofs.Common.{Err, Ok, Result}
use lib.ListN.{length, get_or, set, length-set}
use lib.Seq.{get_or-set_same, get_or-set_other}
use Rattle.model.specs.Limits.{order_numbers}
use Rattle.model.specs.Lists.{gather, total}
use Rattle.model.specs.Season.{Outcome, Rate, accepted_with, first_of, grams_of, greater, greatest_from, if_accepted, if_refused, no_rate, refused_by, season_of, seconds_of}
use Rattle.model.specs.Season as season
use Rattle.model.proofs.Lists.{gather_at, length_singles, total_append}
use Rattle.steps.proofs.Arrays.{all_same, places_one}
use Rattle.steps.proofs.Tests.{alike}
use Rattle.season.specs.Adding.{with_outcome}
use Rattle.season.specs.Held.{OutcomeFits, SeasonFits, as_outcome, as_rate, as_season, most_of_order, number_of}
use Rattle.season.specs.declared.outcome.Accepted.{Accepted}
use Rattle.season.specs.declared.outcome.Refused.{Refused}
use Rattle.season.specs.declared.figures.Season.{Season}

-- ---- one figure

-- what one outcome more adds
one_more : (f : Outcome → ℕ) (xs : List Outcome) (x : Outcome) → total f (xs ++ x ∷ []) ≡ total f xs + f x
unfolding total
one_more f xs x = omega (arith, total_append f xs (x ∷ []))

-- the greatest, with one more
greatest_more : (r : Rate) (xs : List Outcome) (x : Outcome) → greatest_from r (xs ++ x ∷ []) ≡ greater (greatest_from r xs) (first_of x)
unfolding greatest_from
greatest_more r [] x = refl
greatest_more r (y ∷ xs) x = greatest_more (greater r (first_of y)) xs x

-- an order that is refused is no greater
greater_none : (r : Rate) → greater r no_rate ≡ r
greater_none r = rw (le-ltb (r.weight * 1) (0 * r.time) (omega arith))

-- ---- counts by number

-- the counts of outcomes
abbrev counts : List Outcome → List ℕ
counts xs = gather order_numbers (λ n. total (if_refused n) xs ∷ [])

counts_long : (xs : List Outcome) → length (counts xs) ≡ order_numbers
counts_long xs = length_singles order_numbers (λ n. total (if_refused n) xs)

counts_at : (xs : List Outcome) (n : ℕ) → n < order_numbers → get_or (counts xs) n 0 ≡ total (if_refused n) xs
counts_at xs n l = gather_at order_numbers (λ n. total (if_refused n) xs) 0 n l

-- an order that is accepted counts nowhere
accepted_counts : (xs : List Outcome) (grams seconds : ℕ) (first : Rate) → counts xs ≡ counts (xs ++ accepted_with grams seconds first ∷ [])
accepted_counts xs grams seconds first =
    let x = accepted_with grams seconds first in
    places_one 0 order_numbers (counts_long xs) (counts_long (xs ++ x ∷ []))
    (λ n l. counts_at xs n l ∙ omega (arith, one_more (if_refused n) xs x) ∙ sym (counts_at (xs ++ x ∷ []) n l))

-- one that is refused counts under its number
refused_counts : (xs : List Outcome) (number : ℕ) → number < order_numbers
    → set (counts xs) number (get_or (counts xs) number 0 + 1) ≡ counts (xs ++ refused_by number ∷ [])
refused_counts xs number few =
    places_one 0 order_numbers (length-set (counts xs) number _ ∙ counts_long xs) (counts_long (xs ++ refused_by number ∷ []))
    (λ n l. alike n number (λ e. here n l e) (λ e. there n l e))
  where
    more : (n : ℕ) → n < order_numbers → get_or (counts (xs ++ refused_by number ∷ [])) n 0 ≡ total (if_refused n) xs + if_refused n (refused_by number)
    more n l = counts_at (xs ++ refused_by number ∷ []) n l ∙ one_more (if_refused n) xs (refused_by number)

    here : (n : ℕ) → n < order_numbers → n ≡ number → get_or (set (counts xs) number (get_or (counts xs) number 0 + 1)) n 0 ≡ get_or (counts (xs ++ refused_by number ∷ [])) n 0
    here n l e =
        rw e (get_or-set_same (counts xs) number _ 0 (omega (arith, counts_long xs))
        ∙ ap (λ (v : ℕ). v + 1) (counts_at xs number few)
        ∙ sym (more number few ∙ rw (eq-eqb number number refl)))

    there : (n : ℕ) → n < order_numbers → (n ≡ number → ⊥) → get_or (set (counts xs) number (get_or (counts xs) number 0 + 1)) n 0 ≡ get_or (counts (xs ++ refused_by number ∷ [])) n 0
    there n l ne =
        get_or-set_other (counts xs) number n _ 0 ne
        ∙ counts_at xs n l
        ∙ sym (more n l ∙ rw (ne_eqb n number ne) (omega arith))

-- ---- all figures

-- those of one order more
pub season_more : (xs : List Outcome) (x : Result Accepted Refused) → OutcomeFits x → with_outcome (season_of xs) (as_outcome x) ≡ season_of (xs ++ as_outcome x ∷ [])
unfolding with_outcome season_of as_outcome OutcomeFits
season_more xs (Ok a) h =
    let x = accepted_with a.grams a.seconds (as_rate a.first) in
    let accepted = sym (one_more if_accepted xs x) in
    let refused = accepted_counts xs a.grams a.seconds (as_rate a.first) in
    let all_grams = sym (one_more grams_of xs x) in
    let all_seconds = sym (one_more seconds_of xs x) in
    let greatest = sym (greatest_more no_rate xs x) in
    λ i. record { accepted = accepted i; refused = refused i; grams = all_grams i; seconds = all_seconds i; greatest = greatest i }
season_more xs (Err r) h =
    let x = refused_by (number_of r) in
    let accepted : total if_accepted xs ≡ total if_accepted (xs ++ x ∷ []) = omega (arith, one_more if_accepted xs x) in
    let refused = refused_counts xs (number_of r) h in
    let all_grams : total grams_of xs ≡ total grams_of (xs ++ x ∷ []) = omega (arith, one_more grams_of xs x) in
    let all_seconds : total seconds_of xs ≡ total seconds_of (xs ++ x ∷ []) = omega (arith, one_more seconds_of xs x) in
    let greatest = sym (greatest_more no_rate xs x ∙ greater_none (greatest_from no_rate xs)) in
    λ i. record { accepted = accepted i; refused = refused i; grams = all_grams i; seconds = all_seconds i; greatest = greatest i }

-- ---- how large they are

-- no figures are those of no order
pub fits_none : (s : Season) → as_season s ≡ season_of [] → SeasonFits 0 s
unfolding season_of gather total greatest_from
fits_none s e = record {
  long = ap (λ (s : season.Season). length s.refused) e;
  few_accepted = omega (arith, ap (λ (s : season.Season). s.accepted) e);
  few_refused = λ n. omega (arith, ap (λ (s : season.Season). get_or s.refused n 0) e, all_same {A = ℕ} order_numbers n 0);
  grams_most = omega (arith, ap (λ (s : season.Season). s.grams) e);
  seconds_most = omega (arith, ap (λ (s : season.Season). s.seconds) e);
}

-- one count more
count_more : (k : ℕ) (counts : List ℕ) (number : ℕ) → number < length counts → ((n : ℕ) → get_or counts n 0 ≤ k)
    → (n : ℕ) → get_or (set counts number (get_or counts number 0 + 1)) n 0 ≤ k + 1
count_more k counts number l h n =
    alike n number (λ e. rw e (omega (arith, get_or-set_same counts number (get_or counts number 0 + 1) 0 l, h number)))
    (λ e. omega (arith, get_or-set_other counts number n (get_or counts number 0 + 1) 0 e, h n))

-- with one order more
pub fits_more : (k : ℕ) (s r : Season) (x : Result Accepted Refused) → SeasonFits k s → OutcomeFits x → as_season r ≡ with_outcome (as_season s) (as_outcome x) → SeasonFits (k + 1) r
unfolding with_outcome as_outcome OutcomeFits
fits_more k s r (Ok a) fit h e = record {
  long = ap (λ (s : season.Season). length s.refused) e ∙ fit.long;
  few_accepted = omega (arith, ap (λ (s : season.Season). s.accepted) e, fit.few_accepted);
  few_refused = λ n. omega (arith, ap (λ (s : season.Season). get_or s.refused n 0) e, fit.few_refused n);
  grams_most = omega (arith, ap (λ (s : season.Season). s.grams) e, fit.grams_most, h.0);
  seconds_most = omega (arith, ap (λ (s : season.Season). s.seconds) e, fit.seconds_most, h.1);
}
fits_more k s r (Err x) fit h e = record {
  long = ap (λ (s : season.Season). length s.refused) e ∙ length-set s.refused (number_of x) _ ∙ fit.long;
  few_accepted = omega (arith, ap (λ (s : season.Season). s.accepted) e, fit.few_accepted);
  few_refused = λ n.
      omega (arith, ap (λ (s : season.Season). get_or s.refused n 0) e, count_more k s.refused (number_of x) (omega (arith, fit.long, h)) fit.few_refused n);
  grams_most = omega (arith, ap (λ (s : season.Season). s.grams) e, fit.grams_most);
  seconds_most = omega (arith, ap (λ (s : season.Season). s.seconds) e, fit.seconds_most);
}

-- and of more orders
pub fits_up : (k m : ℕ) (s : Season) → k ≤ m → SeasonFits k s → SeasonFits m s
fits_up k m s l fit = record {
  long = fit.long;
  few_accepted = omega (arith, fit.few_accepted);
  few_refused = λ n. omega (arith, fit.few_refused n);
  grams_most = omega (arith, fit.grams_most, mul-le-mul_right most_of_order l);
  seconds_most = omega (arith, fit.seconds_most, mul-le-mul_right most_of_order l);
}
