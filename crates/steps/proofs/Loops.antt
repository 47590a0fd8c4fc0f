-- Laws of loops: weights and sums that a loop adds up, and arrays that a loop fills. Assumes nothing.
use mathlib.Core.Bool.{Bool}
use mathlib.Core.List.{List}
use mathlib.Core.Path.{◌≡◌, refl, ◌∙◌}
use Prim.Native.Nat.{ℕ, ◌+◌, ◌*◌, ◌<◌, ◌≤◌}
use native.Mathlib.Numerals.{add-one}
use native.Mathlib.Omega.{arith}
use lib.ListN.{length, get_or, length-set, set}
use lib.Seq.{get_or-set_same, get_or-set_other}
use Rattle.model.specs.Sets.{sum, on, weight, Doses}
use Rattle.steps.proofs.Tests.{alike, on_most}

-- what holds of the loop's count holds at its end
pub at_end : (P : ℕ → Type 0) {k n : ℕ} → k ≡ n → P k → P n
at_end P e p = rw e at p

-- ---- sums

-- nothing is added yet
pub sum_none : (f : ℕ → ℕ) → 0 ≡ sum 0 f
unfolding sum
sum_none f = refl

pub weight_none : (w : ℕ → ℕ) (A : Doses) → 0 ≡ weight 0 w A
unfolding weight
weight_none w A = sum_none (λ k. on (A k) (w k))

-- one term more
pub sum_next : (n : ℕ) (f : ℕ → ℕ) → sum (n + 1) f ≡ sum n f + f n
unfolding sum
sum_next n f = rw add-one

pub sum_more : (f : ℕ → ℕ) (k s v : ℕ) → s ≡ sum k f → v ≡ f k → s + v ≡ sum (k + 1) f
sum_more f k s v e q = omega (arith, sum_next k f)

-- one dose more, where the test b is that of the set
pub weight_more : (w : ℕ → ℕ) (A : Doses) (k s v x : ℕ) (b : Bool) → s ≡ weight k w A → v ≡ on b x → b ≡ A k → x ≡ w k → s + v ≡ weight (k + 1) w A
unfolding weight
weight_more w A k s v x b e q t y = sum_more (λ k. on (A k) (w k)) k s v e (q ∙ rw (t, y))

-- one term more of a sum of numbers of at most b, and its bound
pub sum_step : (b k s v : ℕ) (f : ℕ → ℕ) → s ≡ sum k f → s ≤ k * b → v ≡ f k → v ≤ b → (s + v ≡ sum (k + 1) f) × (s + v ≤ (k + 1) * b)
sum_step b k s v f e m q h = (sum_more f k s v e q, omega arith)

pub weight_step : (b k s v : ℕ) (w : ℕ → ℕ) (A : Doses) → s ≡ weight k w A → s ≤ k * b → v ≡ on (A k) (w k) → w k ≤ b
    → (s + v ≡ weight (k + 1) w A) × (s + v ≤ (k + 1) * b)
unfolding weight
weight_step b k s v w A e m q h = sum_step b k s v (λ k. on (A k) (w k)) e m q (on_most (A k) v (w k) b q h)

-- ---- arrays

-- one place more of an array that a loop fills
pub stored : {A : Type 0} (d : A) (f : ℕ → A) (l : List A) (i : ℕ) (v : A) → i < length l → ((k : ℕ) → k < i → get_or l k d ≡ f k) → v ≡ f i
    → (k : ℕ) → k < i + 1 → get_or (set l i v) k d ≡ f k
stored d f l i v h all e k q =
    alike k i (λ p. rw p (get_or-set_same l i v d h ∙ e)) (λ p. get_or-set_other l i k v d p ∙ all k (omega arith))

-- the places that it has not reached are as they were
pub unreached : {A : Type 0} (d : A) (f : ℕ → A) (l : List A) (i : ℕ) (v : A) → ((k : ℕ) → i ≤ k → get_or l k d ≡ f k)
    → (k : ℕ) → i + 1 ≤ k → get_or (set l i v) k d ≡ f k
unreached d f l i v all k q = get_or-set_other l i k v d (λ e. omega arith) ∙ all k (omega arith)

-- an array of n places has f in the first k
pub record DoneTo {A : Type 0} (d : A) (n : ℕ) (f : ℕ → A) (k : ℕ) (l : List A) : Type 0 where
  pub within : k ≤ n
  pub size : length l ≡ n
  pub places : (m : ℕ) → m < k → get_or l m d ≡ f m

module _ {A : Type 0} {d : A} {n : ℕ} {f : ℕ → A} where
  -- at first in none
  pub done_none : {l : List A} → length l ≡ n → DoneTo d n f 0 l
  done_none e = record { within = omega arith; size = e; places = λ m h. absurd (omega arith) }

  -- one place more
  pub done_next : {k : ℕ} {l : List A} {v : A} → DoneTo d n f k l → k < n → v ≡ f k → DoneTo d n f (k + 1) (set l k v)
  done_next {k} {l} {v} so h e =
      record { within = omega arith; size = simp length-set so.size; places = stored d f l k v (omega (arith, so.size)) so.places e }

  -- and in the end in all
  pub done_all : {k : ℕ} {l : List A} → DoneTo d n f k l → n ≤ k → (m : ℕ) → m < n → get_or l m d ≡ f m
  done_all so h m q = so.places m (omega arith)
