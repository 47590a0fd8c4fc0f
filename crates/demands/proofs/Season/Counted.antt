-- Each order of a stream counts once, as accepted or under its number; and counts of two lists of orders add up.
use mathlib.Core.List.{List, [], ◌∷◌, ◌++◌}
use mathlib.Core.Path.{◌≡◌, refl, ◌∙◌, sym}
use Prim.Native.Nat.{ℕ, ◌+◌, ◌<◌}
use native.Mathlib.Omega.{arith}
use borrow.Author.Tests.{eq-eqb, ne_eqb}
use lib.Dec.{eqb}
use lib.ListN.{length, get_or}
use Rattle.model.specs.Limits.{order_numbers}
use Rattle.model.specs.Sets.{on, sum}
use Rattle.model.specs.Lists.{All, Along, also, beside, ended, gather, none, total}
use Rattle.model.specs.Season.{Comes, Outcome, if_accepted, if_refused, refused_by}
use Rattle.model.proofs.Answers.{refuses_open}
use Rattle.demands.proofs.Season.OneFans.{never_six}
use Rattle.demands.proofs.Season.Streams.{fans_records}
use Rattle.model.proofs.Lists.{gather_at, total_append, total_gather}
use Rattle.model.proofs.Sums.{one_term, sum_add, sum_congr, sum_zero}

-- the counts of the numbers
abbrev pub counts : List Outcome → List ℕ
counts outcomes = gather order_numbers (λ n. total (if_refused n) outcomes ∷ [])

-- together
counts_total : (outcomes : List Outcome) → total (λ (c : ℕ). c) (counts outcomes) ≡ sum order_numbers (λ n. total (if_refused n) outcomes)
unfolding total
counts_total outcomes =
    total_gather (λ (c : ℕ). c) order_numbers (λ n. total (if_refused n) outcomes ∷ [])
    ∙ sum_congr order_numbers (λ n l. omega arith)

-- a number below the limit is counted at one place
counted_at : (number : ℕ) → number < order_numbers → sum order_numbers (λ n. if_refused n (refused_by number)) ≡ 1
counted_at number l =
    one_term order_numbers number (λ n. on (eqb n number) 1) l (λ n q ne. rw (ne_eqb n number ne)) ∙ rw (eq-eqb number number refl)

-- each order once
each_once : {orders : List (List ℕ)} {outcomes : List Outcome} → Along Comes orders outcomes
    → total if_accepted outcomes + sum order_numbers (λ n. total (if_refused n) outcomes) ≡ length orders
unfolding total
each_once ended = omega (arith, sum_zero order_numbers)
each_once (beside {m = later} (Comes.refuses a r) h) =
    omega (
      arith,
      sum_add order_numbers (λ n. if_refused n (refused_by a.number)) (λ n. total (if_refused n) later),
      counted_at a.number (omega (arith, refuses_open r)),
      each_once h,
    )
each_once (beside {m = later} (Comes.accepts o g plan st v t f q) h) =
    omega (arith, sum_congr order_numbers {f = λ n. 0 + total (if_refused n) later} {g = λ n. total (if_refused n) later} (λ n l. omega arith), each_once h)

pub each_counted_once : {orders : List (List ℕ)} {outcomes : List Outcome} → Along Comes orders outcomes
    → total if_accepted outcomes + total (λ (c : ℕ). c) (counts outcomes) ≡ length orders
each_counted_once {outcomes = outcomes} h = omega (arith, each_once h, counts_total outcomes)

-- and of two lists number by number
pub counts_joined : (xs ys : List Outcome) (n : ℕ) → n < order_numbers → get_or (counts (xs ++ ys)) n 0 ≡ get_or (counts xs) n 0 + get_or (counts ys) n 0
counts_joined xs ys n l =
    omega (
      arith,
      gather_at order_numbers (λ n. total (if_refused n) (xs ++ ys)) 0 n l,
      gather_at order_numbers (λ n. total (if_refused n) xs) 0 n l,
      gather_at order_numbers (λ n. total (if_refused n) ys) 0 n l,
      total_append (if_refused n) xs ys,
    )

-- orders with one F record each: none is counted under 6
by_six : {orders : List (List ℕ)} {outcomes : List Outcome} → All (λ order. fans_records order ≡ 1) orders → Along Comes orders outcomes → total (if_refused 6) outcomes ≡ 0
unfolding total
by_six none ended = refl
by_six (also one all) (beside (Comes.refuses a r) h) = rw (ne_eqb 6 a.number (λ e. never_six one r (sym e))) (omega (arith, by_six all h))
by_six (also one all) (beside (Comes.accepts o g plan st v t f q) h) = omega (arith, by_six all h)

pub none_by_six : {orders : List (List ℕ)} {outcomes : List Outcome} → All (λ order. fans_records order ≡ 1) orders → Along Comes orders outcomes
    → get_or (counts outcomes) 6 0 ≡ 0
none_by_six {outcomes = outcomes} one h = gather_at order_numbers (λ n. total (if_refused n) outcomes) 0 6 (omega arith) ∙ by_six one h
