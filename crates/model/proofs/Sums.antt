-- Laws of sums over the numbers below n.
use mathlib.Core.Logic.{◌≢◌, ◌⊎◌, inl, inr}
use mathlib.Core.Path.{◌≡◌, ap, refl, sym}
use Prim.Native.Nat.{◌*◌, ◌+◌, ◌-◌, ◌<◌, ◌≤◌, suc, zero, ℕ}
use native.Mathlib.Nat.{add-sub_of_le, add-suc, add-zero, eq-or-lt_of_le, eq-zero-or-pos, le_antisymm, le_of_suc-le-suc}
use native.Mathlib.Omega.{arith}
use Rattle.model.specs.Sets.{sum}

-- every number below n + 1 is n or below n
pub last : {k n : ℕ} → k < suc n → (k ≡ n) ⊎ (k < n)
last h = eq-or-lt_of_le (le_of_suc-le-suc h)

-- each term of f is at most that of g
abbrev pub Under : ℕ → (ℕ → ℕ) → (ℕ → ℕ) → Type 0
Under n f g = (k : ℕ) → k < n → f k ≤ g k

-- then so are the sums
pub sum_le : (n : ℕ) {f g : ℕ → ℕ} → Under n f g → sum n f ≤ sum n g
unfolding sum
sum_le zero h = omega arith
sum_le (suc n) h = omega (arith, sum_le n (λ k l. h k (omega arith)), h n (omega arith))

-- equal terms, equal sums
pub sum_congr : (n : ℕ) {f g : ℕ → ℕ} → ((k : ℕ) → k < n → f k ≡ g k) → sum n f ≡ sum n g
sum_congr n h = le_antisymm (sum_le n (λ k l. omega (arith, h k l))) (sum_le n (λ k l. omega (arith, h k l)))

-- a sum of sums of two
pub sum_add : (n : ℕ) (f g : ℕ → ℕ) → sum n (λ k. f k + g k) ≡ sum n f + sum n g
unfolding sum
sum_add zero f g = refl
sum_add (suc n) f g = omega (arith, sum_add n f g)

-- a factor that all terms share
pub sum_scale : (n : ℕ) (c : ℕ) (f : ℕ → ℕ) → sum n (λ k. c * f k) ≡ c * sum n f
unfolding sum
sum_scale zero c f = omega arith
sum_scale (suc n) c f = omega (arith, sum_scale n c f)

-- nothing, added up
pub sum_zero : (n : ℕ) → sum n (λ k. 0) ≡ 0
unfolding sum
sum_zero zero = refl
sum_zero (suc n) = omega (arith, sum_zero n)

-- two sums against two
pub sum_le₂ : (n : ℕ) (f g h i : ℕ → ℕ) → Under n (λ k. f k + g k) (λ k. h k + i k) → sum n f + sum n g ≤ sum n h + sum n i
sum_le₂ n f g h i m = omega (arith, sum_le n m, sum_add n f g, sum_add n h i)

-- one term is at most the sum
pub le_sum : (n : ℕ) (f : ℕ → ℕ) (k : ℕ) → k < n → f k ≤ sum n f
unfolding sum
le_sum zero f k h = omega arith
le_sum (suc n) f k h = elim (last h) [ inl e ↦ omega (arith, ap f e) | inr l ↦ omega (arith, le_sum n f k l) ]

-- a sum that is not 0 has a term that is not 0
pub sum_pos : (n : ℕ) (f : ℕ → ℕ) → 0 < sum n f → (k : ℕ) × (k < n) × (0 < f k)
unfolding sum
sum_pos zero f h = absurd (omega arith)
sum_pos (suc n) f h = elim (eq-zero-or-pos (f n)) [ inl e ↦ let r = sum_pos n f (omega arith) in (r.0, omega arith, r.2) | inr p ↦ (n, omega arith, p) ]

-- terms at most: so are the sums without term k, f's to the left
pub sum_le_without : (n : ℕ) {f g : ℕ → ℕ} → Under n f g → (k : ℕ) → k < n → sum n f + g k ≤ sum n g + f k
unfolding sum
sum_le_without zero h k l = absurd (omega arith)
sum_le_without (suc n) {f} {g} h k l =
    let below : Under n f g = λ i q. h i (omega arith) in
    elim (last l) [
      | inl e ↦ omega (arith, sum_le n below, ap f e, ap g e)
      | inr q ↦ omega (arith, sum_le_without n below k q, h n (omega arith))
    ]

-- terms at most, and one of them less: the sum is less
pub sum_lt : (n : ℕ) {f g : ℕ → ℕ} → Under n f g → (k : ℕ) → k < n → f k < g k → sum n f < sum n g
sum_lt n h k l m = omega (arith, sum_le_without n h k l)

-- terms at most, and the sums are equal: the terms are equal
pub sum_tight : (n : ℕ) {f g : ℕ → ℕ} → Under n f g → sum n g ≤ sum n f → (k : ℕ) → k < n → f k ≡ g k
sum_tight n {f} {g} h e k l =
    elim (eq-or-lt_of_le (h k l)) [ inl q ↦ q | inr q ↦ absurd (omega (arith, sum_lt n h k l q)) ]

-- a table's total by rows and by columns
pub sum_swap : (n m : ℕ) (f : ℕ → ℕ → ℕ) → sum n (λ k. sum m (λ j. f k j)) ≡ sum m (λ j. sum n (λ k. f k j))
unfolding sum
sum_swap zero m f = sym (sum_zero m)
sum_swap (suc n) m f = omega (arith, sum_swap n m f, sum_add m (λ j. sum n (λ k. f k j)) (λ j. f n j))

-- more terms, no smaller a sum
pub sum_up : (f : ℕ → ℕ) (a b : ℕ) → a ≤ b → sum a f ≤ sum b f
unfolding sum
sum_up f a zero h = let e : a ≡ 0 = omega arith in rw e (omega arith)
sum_up f a (suc b) h = elim (eq-or-lt_of_le h) [ inl e ↦ rw e (omega arith) | inr q ↦ omega (arith, sum_up f a b (le_of_suc-le-suc q)) ]

-- f and g differ at k alone
pub sum_change : (n : ℕ) (f g : ℕ → ℕ) (k : ℕ) → k < n → ((i : ℕ) → i < n → i ≢ k → f i ≡ g i) → sum n g + f k ≡ sum n f + g k
unfolding sum
sum_change zero f g k l h = omega arith
sum_change (suc n) f g k l h = elim (last l) [
  | inl e ↦ omega (arith, sum_congr n {f = f} {g = g} (λ i m. h i (omega arith) (omega arith)), ap f e, ap g e)
  | inr m ↦ omega (arith, sum_change n f g k m (λ i q. h i (omega arith)), h n (omega arith) (omega arith))
]

-- one term alone is not 0
pub one_term : (n d : ℕ) (g : ℕ → ℕ) → d < n → ((i : ℕ) → i < n → i ≢ d → g i ≡ 0) → sum n g ≡ g d
one_term n d g l h = omega (arith, sum_change n (λ i. 0) g d l (λ i q ne. sym (h i q ne)), sum_zero n)

-- a sum over l numbers more, all with the term v
pub sum_run : (a l v : ℕ) (f : ℕ → ℕ) → ((x : ℕ) → a ≤ x → x < a + l → f x ≡ v) → sum (a + l) f ≡ sum a f + l * v
unfolding sum
sum_run a zero v f h = rw (add-zero a) (omega arith)
sum_run a (suc l) v f h = rw (add-suc a l) (omega (arith, sum_run a l v f (λ x p q. h x p (omega arith)), h (a + l) (omega arith) (omega arith)))

-- a sum over more numbers, with nothing there
pub sum_past : (a b : ℕ) → a ≤ b → (f : ℕ → ℕ) → ((x : ℕ) → a ≤ x → x < b → f x ≡ 0) → sum b f ≡ sum a f
sum_past a b l f h = rw (← add-sub_of_le l) (omega (arith, sum_run a (b - a) 0 f (λ x p q. h x p (omega arith))))
