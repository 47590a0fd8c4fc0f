-- Unions, parts and differences of sets of doses, and the laws of their weights.
use mathlib.Core.Bool.{Bool, ◌&&◌, ◌||◌, false, not, true, true≢false}
use mathlib.Core.Path.{◌∙◌, ◌≡◌, ap, refl, sym}
use Prim.Native.Nat.{◌*◌, ◌+◌, ◌<◌, ◌≤◌, suc, zero, ℕ}
use native.Mathlib.Nat.{le_antisymm}
use native.Mathlib.Omega.{arith}
use lib.Dec.{T}
use Rattle.model.specs.Sets.{Doses, Nonempty, Sub, on, sum, weight}
use Rattle.model.proofs.Sums.{le_sum, sum_add, sum_congr, sum_le, sum_lt, sum_pos, sum_scale, sum_swap, sum_tight, sum_zero}

infixl 35 ◌∩◌ ◌∖◌
infixl 30 ◌∪◌
-- the doses of A or B
abbrev pub ◌∪◌ : Doses → Doses → Doses
(A ∪ B) k = A k || B k

-- those of both
abbrev pub ◌∩◌ : Doses → Doses → Doses
(A ∩ B) k = A k && B k

-- those of A that are not in B
abbrev pub ◌∖◌ : Doses → Doses → Doses
(A ∖ B) k = A k && not (B k)

-- ---- one dose, by cases

on_le : (a b : Bool) (x y : ℕ) → (T a → 0 < x → T b) → (T a → x ≤ y) → on a x ≤ on b y
on_le true true x y h l = l tt
on_le true false zero y h l = omega arith
on_le true false (suc x) y h l = absurd (h tt (omega arith))
on_le false b x y h l = omega arith

on_modular : (a b : Bool) (x : ℕ) → on (a || b) x + on (a && b) x ≡ on a x + on b x
on_modular true true x = omega arith
on_modular true false x = omega arith
on_modular false true x = omega arith
on_modular false false x = omega arith

on_off : (a b : Bool) (x : ℕ) → (T a → T b → ⊥) → on (a && b) x ≡ 0
on_off true true x h = absurd (h tt tt)
on_off true false x h = refl
on_off false b x h = refl

on_add : (a : Bool) (x y : ℕ) → on a (x + y) ≡ on a x + on a y
on_add true x y = refl
on_add false x y = refl

on_scale : (a : Bool) (c x : ℕ) → on a (c * x) ≡ c * on a x
on_scale true c x = refl
on_scale false c x = omega arith

-- as a product
pub on_times : (a : Bool) (x : ℕ) → on a x ≡ x * on a 1
on_times true x = omega arith
on_times false x = omega arith

pub on_and : (a b : Bool) (x : ℕ) → on a (on b x) ≡ on (a && b) x
on_and true b x = refl
on_and false b x = refl

on_sum : (a : Bool) (m : ℕ) (f : ℕ → ℕ) → on a (sum m f) ≡ sum m (λ j. on a (f j))
on_sum true m f = refl
on_sum false m f = sym (sum_zero m)

on_part : (a b : Bool) (x : ℕ) → on b x ≡ on (b && a) x + on (b && not a) x
on_part true true x = omega arith
on_part false true x = omega arith
on_part a false x = omega arith

on_lt : (a b : Bool) (x : ℕ) → T (not a) → T b → 0 < x → on a x < on b x
on_lt false false x h t p = elim t [ ]
on_lt true b x h t p = elim h [ ]
on_lt false true x h t p = p

-- both tests hold: so does the left
pub and_left : (a b : Bool) → T (a && b) → T a
and_left false b t = elim t [ ]
and_left true b t = tt

-- and the right
pub and_right : (a b : Bool) → T (a && b) → T b
and_right false b t = elim t [ ]
and_right true b t = t

-- a conjunction that is true: so are both tests
pub both_true : (a b : Bool) → (a && b) ≡ true → (a ≡ true) × (b ≡ true)
both_true true b h = (refl, h)
both_true false b h = absurd (true≢false (sym h))

-- a member of B is not in A without B
pub and_not : (a b : Bool) → T b → T (not (a && not b))
and_not true false t = elim t [ ]
and_not true true t = tt
and_not false b t = tt

-- both hold: so does their conjunction
pub and_both : (a b : Bool) → T a → T b → T (a && b)
and_both false b s t = elim s [ ]
and_both true b s t = t

-- tests that give each other are the same
pub same_test : (a b : Bool) → (T a → T b) → (T b → T a) → a ≡ b
same_test true true f g = refl
same_test true false f g = absurd (f tt)
same_test false true f g = absurd (g tt)
same_test false false f g = refl

-- for `search`, at a goal `T (A k && B k)` with `t : T (C k && ..)` in scope
pub ruleset inter = (and_both, and_left, and_right)

-- what is in the right part is in either
pub or_right : (a b : Bool) → T b → T (a || b)
or_right true b t = tt
or_right false b t = t

-- what is in the left part is in either
pub or_left : (a b : Bool) → T a → T (a || b)
or_left false b t = elim t [ ]
or_left true b t = tt

-- what is in either is in the left or the right
pub or_elim : {X : Type 0} (a b : Bool) → T (a || b) → (T a → X) → (T b → X) → X
or_elim true b t f g = f tt
or_elim false b t f g = g t

-- a number above 0: the test holds
pub on_pos : (a : Bool) (x : ℕ) → 0 < on a x → T a
on_pos true x h = tt
on_pos false x h = omega arith

-- the test holds: the number
pub on_yes : (a : Bool) (x : ℕ) → T a → on a x ≡ x
on_yes false x h = elim h [ ]
on_yes true x h = refl

-- it does not: none
pub on_no : (a : Bool) (x : ℕ) → (T a → ⊥) → on a x ≡ 0
on_no true x h = absurd (h tt)
on_no false x h = refl

-- the number at most
pub on_below : (a : Bool) (x : ℕ) → on a x ≤ x
on_below true x = omega arith
on_below false x = omega arith

-- ---- the weight of a set of the doses below n

module _ (n : ℕ) where
  -- no dose is in both
  abbrev pub Apart : Doses → Doses → Type 0
  Apart A B = (k : ℕ) → k < n → T (A k) → T (B k) → ⊥

  -- at most: a larger set, and larger weights on the smaller set
  pub weight_le : (v w : ℕ → ℕ) (A B : Doses) → ((k : ℕ) → k < n → T (A k) → 0 < v k → T (B k)) → ((k : ℕ) → k < n → T (A k) → v k ≤ w k)
      → weight n v A ≤ weight n w B
  unfolding weight
  weight_le v w A B h m = sum_le n (λ k l. on_le (A k) (B k) (v k) (w k) (h k l) (m k l))

  -- more doses weigh no less
  pub weight_mono : (w : ℕ → ℕ) (A B : Doses) → Sub n A B → weight n w A ≤ weight n w B
  weight_mono w A B h = weight_le w w A B (λ k l t p. h k l t) (λ k l t. omega arith)

  -- a union and what is common weigh what the two sets weigh
  pub weight_modular : (w : ℕ → ℕ) (A B : Doses) → weight n w (A ∪ B) + weight n w (A ∩ B) ≡ weight n w A + weight n w B
  unfolding weight
  weight_modular w A B = sym (sum_add n _ _) ∙ sum_congr n (λ k l. on_modular (A k) (B k) (w k)) ∙ sum_add n _ _

  -- sets apart have nothing in common
  weight_none : (w : ℕ → ℕ) (A B : Doses) → Apart A B → weight n w (A ∩ B) ≡ 0
  unfolding weight
  weight_none w A B h = sum_congr n (λ k l. on_off (A k) (B k) (w k) (h k l)) ∙ sum_zero n

  -- sets apart weigh together what their union weighs
  pub weight_union : (w : ℕ → ℕ) (A B : Doses) → Apart A B → weight n w (A ∪ B) ≡ weight n w A + weight n w B
  weight_union w A B h = omega (arith, weight_modular w A B, weight_none w A B h)

  -- a set that weighs has a member
  pub weight_pos : (w : ℕ → ℕ) (A : Doses) → 0 < weight n w A → Nonempty n A
  unfolding weight
  weight_pos w A h = let r = sum_pos n (λ k. on (A k) (w k)) h in (r.0, r.1, on_pos (A r.0) (w r.0) r.2)

  -- one member weighs no more than the set
  pub le_weight : (w : ℕ → ℕ) (A : Doses) (k : ℕ) → k < n → T (A k) → w k ≤ weight n w A
  unfolding weight
  le_weight w A k l t = omega (arith, le_sum n (λ k. on (A k) (w k)) k l, on_yes (A k) (w k) t)

  -- weights of two kinds
  pub weight_add : (v w : ℕ → ℕ) (A : Doses) → weight n (λ k. v k + w k) A ≡ weight n v A + weight n w A
  unfolding weight
  weight_add v w A = sum_congr n (λ k l. on_add (A k) (v k) (w k)) ∙ sum_add n _ _

  -- a factor that all weights share
  pub weight_scale : (c : ℕ) (w : ℕ → ℕ) (A : Doses) → weight n (λ k. c * w k) A ≡ c * weight n w A
  unfolding weight
  weight_scale c w A = sum_congr n (λ k l. on_scale (A k) c (w k)) ∙ sum_scale n c _

  -- all doses together
  pub weight_all : (w : ℕ → ℕ) → weight n w (λ k. true) ≡ sum n w
  unfolding weight
  weight_all w = refl

  -- a set's rows, added up by columns
  pub weight_swap : (m : ℕ) (f : ℕ → ℕ → ℕ) (A : Doses) → weight n (λ k. sum m (λ j. f k j)) A ≡ sum m (λ j. weight n (λ k. f k j) A)
  unfolding weight
  weight_swap m f A = sum_congr n (λ k l. on_sum (A k) m (f k)) ∙ sum_swap n m (λ k j. on (A k) (f k j))

  weight_on : (f : ℕ → ℕ) (A : Doses) (b : Bool) → weight n (λ k. on b (f k)) A ≡ on b (weight n f A)
  weight_on f A true = refl
  weight_on f A false = omega (arith, weight_scale 0 (λ k. 0) A)

  -- and over a set of columns
  pub weight_swap₂ : (m : ℕ) (f : ℕ → ℕ → ℕ) (A B : Doses) → weight n (λ k. weight m (λ j. f k j) B) A ≡ weight m (λ j. weight n (λ k. f k j) A) B
  unfolding weight
  weight_swap₂ m f A B = weight_swap m (λ k j. on (B j) (f k j)) A ∙ sum_congr m (λ j l. weight_on (λ k. f k j) A (B j))

  -- members that pass a test are counted as the members of a part
  pub weight_and : (B A : Doses) → weight n (λ k. on (B k) 1) A ≡ weight n (λ k. 1) (λ k. A k && B k)
  unfolding weight
  weight_and B A = sum_congr n (λ k l. on_and (A k) (B k) 1)

  -- equal weights
  pub weight_congr : (v w : ℕ → ℕ) (A : Doses) → ((k : ℕ) → k < n → v k ≡ w k) → weight n v A ≡ weight n w A
  unfolding weight
  weight_congr v w A h = sum_congr n (λ k l. ap (on (A k)) (h k l))

  -- a dose of B that is not in A, and weighs: B is heavier than A
  pub weight_lt : (w : ℕ → ℕ) (A B : Doses) → Sub n A B → (k : ℕ) → k < n → T (B k) → T (not (A k)) → 0 < w k → weight n w A < weight n w B
  unfolding weight
  weight_lt w A B h k l b a p =
      sum_lt n (λ k l. on_le (A k) (B k) (w k) (w k) (λ t p. h k l t) (λ t. omega arith)) k l (on_lt (A k) (B k) (w k) a b p)

  -- the larger set weighs no more: it is no larger
  pub weight_same : (w : ℕ → ℕ) → ((k : ℕ) → k < n → 1 ≤ w k) → (A B : Doses) → Sub n A B → weight n w B ≤ weight n w A → Sub n B A
  weight_same w p A B h e k l t = go (A k) refl
    where
      go : (b : Bool) → A k ≡ b → T b
      go true q = tt
      go false q = omega (arith, weight_lt w A B h k l t (rw q tt) (p k l))

  -- the number of doses of A
  abbrev pub size : Doses → ℕ
  size A = weight n (λ k. 1) A

  -- two sets have the same doses below n
  abbrev pub Alike : Doses → Doses → Type 0
  Alike A B = (k : ℕ) → k < n → A k ≡ B k

  -- sets that hold each other agree
  pub alike : (A B : Doses) → Sub n A B → Sub n B A → Alike A B
  alike A B h g k l = same_test (A k) (B k) (h k l) (g k l)

  -- sets that agree hold each other
  pub alike_sub : (A B : Doses) → Alike A B → Sub n A B
  alike_sub A B e k l t = rw (e k l) at t

  -- and the other way round
  pub alike_back : (A B : Doses) → Alike A B → Sub n B A
  alike_back A B e k l t = rw (← e k l) at t

  -- sets that agree weigh the same
  pub weight_alike : (w : ℕ → ℕ) (A B : Doses) → Alike A B → weight n w A ≡ weight n w B
  weight_alike w A B e = le_antisymm (weight_mono w A B (alike_sub A B e)) (weight_mono w B A (alike_back A B e))

  -- weights that are equal on the set
  pub weight_on_set : (v w : ℕ → ℕ) (A : Doses) → ((k : ℕ) → k < n → T (A k) → v k ≡ w k) → weight n v A ≡ weight n w A
  weight_on_set v w A h =
      le_antisymm (weight_le v w A A (λ k l t p. t) (λ k l t. omega (arith, h k l t))) (weight_le w v A A (λ k l t p. t) (λ k l t. omega (arith, h k l t)))

  -- a set is its part in A and its part outside
  pub weight_part : (w : ℕ → ℕ) (A B : Doses) → weight n w B ≡ weight n w (B ∩ A) + weight n w (B ∖ A)
  unfolding weight
  weight_part w A B = sum_congr n (λ k l. on_part (A k) (B k) (w k)) ∙ sum_add n _ _

  -- the empty set weighs nothing
  pub weight_empty : (w : ℕ → ℕ) → weight n w (λ k. false) ≡ 0
  unfolding weight
  weight_empty w = sum_zero n

on_under : (a : Bool) (x y : ℕ) → (T a → x ≤ y) → on a x ≤ on a y
on_under true x y h = h tt
on_under false x y h = omega arith

-- weights at most, and the sums are equal: the weights are equal on the set
pub weight_tight : (n : ℕ) (v w : ℕ → ℕ) (A : Doses) → ((k : ℕ) → k < n → T (A k) → v k ≤ w k) → weight n w A ≤ weight n v A
    → (k : ℕ) → k < n → T (A k) → v k ≡ w k
unfolding weight
weight_tight n v w A h e k l t =
    sym (on_yes (A k) (v k) t) ∙ sum_tight n (λ k l. on_under (A k) (v k) (w k) (h k l)) e k l ∙ on_yes (A k) (w k) t

-- all of n doses are n
pub size_all : (n : ℕ) → size n (λ k. true) ≡ n
unfolding weight sum
size_all zero = refl
size_all (suc n) = omega (arith, size_all n)
