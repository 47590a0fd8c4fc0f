-- Laws of lists: gathered lists, totals, what holds of all members and of each two, and members by their place.
use mathlib.Core.Logic.{inl, inr}
use mathlib.Core.Path.{◌∙◌, ◌≡◌, ap, ap₂, refl, subst}
use mathlib.Core.List.{List, [], ◌∷◌, ◌++◌, map, map-append}
use Prim.Native.Nat.{ℕ, zero, suc, ◌+◌, ◌*◌, ◌-◌, ◌≤◌, ◌<◌}
use native.Mathlib.Nat.{add-zero}
use native.Mathlib.Omega.{arith}
use lib.ListN.{get_or-append, length, get_or, length-append}
use lib.Seq.{get_or-append-add}
use Rattle.model.specs.Sets.{sum}
use Rattle.model.specs.Lists.{gather, total, All, none, also, Pairs, lone, then, Along, ended, beside}
use Rattle.model.proofs.Sums.{last}

-- ---- sums

-- a term, and all before it, are in a later sum
pub sum_before : (n : ℕ) (f : ℕ → ℕ) (k : ℕ) → k < n → sum k f + f k ≤ sum n f
unfolding sum
sum_before zero f k h = omega arith
sum_before (suc n) f k h = elim (last h) [ inl e ↦ rw e (omega arith) | inr l ↦ omega (arith, sum_before n f k l) ]

-- n times the same
pub sum_const : (n b : ℕ) → sum n (λ k. b) ≡ n * b
unfolding sum
sum_const zero b = omega arith
sum_const (suc n) b = omega (arith, sum_const n b)

-- one less in each term: at least one less in all
pub sum_pred : (n : ℕ) (f : ℕ → ℕ) → sum n (λ k. f k - 1) ≤ sum n f - 1
unfolding sum
sum_pred zero f = omega arith
sum_pred (suc n) f = omega (arith, sum_pred n f)

-- the first term by itself
pub sum_first : (n : ℕ) (f : ℕ → ℕ) → sum (suc n) f ≡ f 0 + sum n (λ k. f (suc k))
unfolding sum
sum_first zero f = omega arith
sum_first (suc n) f = omega (arith, sum_first n f)

-- ---- members

module _ {A : Type 0} where
  -- of two lists, one behind the other
  pub All-append : {P : A → Type 0} {l m : List A} → All P l → All P m → All P (l ++ m)
  All-append none q = q
  All-append (also p h) q = also p (All-append h q)

  -- what follows for each member
  pub All-imp : {P Q : A → Type 0} {l : List A} → ((a : A) → P a → Q a) → All P l → All Q l
  All-imp f none = none
  All-imp f (also {a = a} p h) = also (f a p) (All-imp f h)

  -- of gathered lists
  pub All-gather : {P : A → Type 0} (n : ℕ) (f : ℕ → List A) → ((k : ℕ) → k < n → All P (f k)) → All P (gather n f)
  unfolding gather
  All-gather zero f h = none
  All-gather (suc n) f h = All-append (All-gather n f (λ k l. h k (omega arith))) (h n (omega arith))

  -- of two lists, one behind the other
  pub Pairs-append : {R : A → A → Type 0} {l m : List A} → Pairs R l → Pairs R m → All (λ a. All (R a) m) l → Pairs R (l ++ m)
  Pairs-append lone q c = q
  Pairs-append (then h p) q (also c d) = then (All-append h c) (Pairs-append p q d)

  -- what follows for each two
  pub Pairs-imp : {R S : A → A → Type 0} {l : List A} → ((a b : A) → R a b → S a b) → Pairs R l → Pairs S l
  Pairs-imp f lone = lone
  Pairs-imp f (then {a = a} h p) = then (All-imp (f a) h) (Pairs-imp f p)

  -- what is known of each member, beside what is known of each two
  pub Pairs-with : {P : A → Type 0} {R S : A → A → Type 0} {l : List A} → ((a b : A) → P a → P b → R a b → S a b) → All P l → Pairs R l → Pairs S l
  Pairs-with f none lone = lone
  Pairs-with {P} {R} {S} f (also {a = a} p q) (then h g) = then (both q h) (Pairs-with f q g)
    where
      both : {m : List A} → All P m → All (R a) m → All (S a) m
      both none none = none
      both (also {a = b} y z) (also u v) = also (f a b p y u) (both z v)

  -- of gathered lists: what tells their members apart, and what holds in each
  pub Pairs-gather : {R : A → A → Type 0} (Q : ℕ → A → Type 0) (n : ℕ) (f : ℕ → List A) → ((k : ℕ) → k < n → All (Q k) (f k))
      → ((i k : ℕ) → i < k → k < n → (a b : A) → Q i a → Q k b → R a b) → ((k : ℕ) → k < n → Pairs R (f k)) → Pairs R (gather n f)
  unfolding gather
  Pairs-gather Q zero f own cross each = lone
  Pairs-gather {R} Q (suc n) f own cross each =
      Pairs-append (Pairs-gather Q n f (λ k l. own k (omega arith)) (λ i k l q. cross i k l (omega arith)) (λ k l. each k (omega arith))) (each n (omega arith))
      (All-gather n f (λ i l. All-imp (λ a q. All-imp (λ b r. cross i n l (omega arith) a b q r) (own n (omega arith))) (own i (omega arith))))

  -- ---- totals and lengths

  -- the total of two lists, one behind the other
  pub total_append : (g : A → ℕ) (l m : List A) → total g (l ++ m) ≡ total g l + total g m
  unfolding total
  total_append g [] m = omega arith
  total_append g (a ∷ l) m = omega (arith, total_append g l m)

  -- of gathered lists
  pub total_gather : (g : A → ℕ) (n : ℕ) (f : ℕ → List A) → total g (gather n f) ≡ sum n (λ k. total g (f k))
  unfolding gather sum total
  total_gather g zero f = refl
  total_gather g (suc n) f = omega (arith, total_append g (gather n f) (f n), total_gather g n f)

  -- of members that come to the same
  pub total_congr : {P : A → Type 0} (g h : A → ℕ) {l : List A} → ((a : A) → P a → g a ≡ h a) → All P l → total g l ≡ total h l
  unfolding total
  total_congr g h e none = refl
  total_congr g h e (also {a = a} p q) = omega (arith, e a p, total_congr g h e q)

  -- the length of gathered lists
  pub length_gather : (n : ℕ) (f : ℕ → List A) → length (gather n f) ≡ sum n (λ k. length (f k))
  unfolding gather sum
  length_gather zero f = refl
  length_gather (suc n) f = omega (arith, length-append (gather n f) (f n), length_gather n f)

  -- a list of n, one gathered from each
  pub length_singles : (n : ℕ) (f : ℕ → A) → length (gather n (λ k. f k ∷ [])) ≡ n
  length_singles n f = length_gather n (λ k. f k ∷ []) ∙ sum_const n 1 ∙ omega arith

  -- ---- by place

  -- of a list gathered one by one
  pub gather_at : (n : ℕ) (f : ℕ → A) (d : A) (k : ℕ) → k < n → get_or (gather n (λ i. f i ∷ [])) k d ≡ f k
  unfolding gather
  gather_at zero f d k l = absurd (omega arith)
  gather_at (suc n) f d k l = elim (last l) [
    | inl e ↦ rw e (subst (λ (x : ℕ). get_or (gather n (λ i. f i ∷ []) ++ f n ∷ []) x d ≡ f n) (length_singles n f)
        (rw add-zero at (get_or-append-add (gather n (λ i. f i ∷ [])) (f n ∷ []) 0 d)))
    | inr q ↦ get_or-append (gather n (λ i. f i ∷ [])) (f n ∷ []) d k (omega (arith, length_singles n f)) ∙ gather_at n f d k q
  ]

  -- what holds of all holds at each place
  pub All-at : {P : A → Type 0} {l : List A} (d : A) → All P l → (i : ℕ) → i < length l → P (get_or l i d)
  All-at d none i h = absurd (omega arith)
  All-at d (also p q) zero h = p
  All-at d (also p q) (suc i) h = All-at d q i (omega arith)

  -- and the other way
  pub All-of : {P : A → Type 0} (l : List A) (d : A) → ((i : ℕ) → i < length l → P (get_or l i d)) → All P l
  All-of [] d h = none
  All-of (a ∷ l) d h = also (h 0 (omega arith)) (All-of l d (λ i q. h (suc i) (omega arith)))

  -- what holds of each two holds at each two places
  pub Pairs-at : {R : A → A → Type 0} {l : List A} (d : A) → Pairs R l → (i k : ℕ) → i < k → k < length l → R (get_or l i d) (get_or l k d)
  Pairs-at d lone i k h q = absurd (omega arith)
  Pairs-at d (then r p) zero zero h q = absurd (omega arith)
  Pairs-at d (then r p) zero (suc k) h q = All-at d r k (omega arith)
  Pairs-at d (then r p) (suc i) zero h q = absurd (omega arith)
  Pairs-at d (then r p) (suc i) (suc k) h q = Pairs-at d p i k (omega arith) (omega arith)

  -- and the other way
  pub Pairs-of : {R : A → A → Type 0} (l : List A) (d : A) → ((i k : ℕ) → i < k → k < length l → R (get_or l i d) (get_or l k d)) → Pairs R l
  Pairs-of [] d h = lone
  Pairs-of (a ∷ l) d h = then (All-of l d (λ k q. h 0 (suc k) (omega arith) (omega arith))) (Pairs-of l d (λ i k o q. h (suc i) (suc k) (omega arith) (omega arith)))

  -- a total is the sum over the places
  pub total_at : (g : A → ℕ) (l : List A) (d : A) → total g l ≡ sum (length l) (λ i. g (get_or l i d))
  unfolding total sum
  total_at g [] d = refl
  total_at g (a ∷ l) d = omega (arith, total_at g l d, sum_first (length l) (λ i. g (get_or (a ∷ l) i d)))

-- ---- lists of which each member is changed

module _ {A B : Type 0} (f : A → B) where
  -- what holds of all once changed
  pub All-map : {P : B → Type 0} {l : List A} → All (λ a. P (f a)) l → All P (map f l)
  All-map none = none
  All-map (also p q) = also p (All-map q)

  -- and of each two
  pub Pairs-map : {R : B → B → Type 0} {l : List A} → Pairs (λ a b. R (f a) (f b)) l → Pairs R (map f l)
  Pairs-map lone = lone
  Pairs-map (then h p) = then (All-map h) (Pairs-map p)

  -- what they come to
  pub total_map : (g : B → ℕ) (l : List A) → total g (map f l) ≡ total (λ a. g (f a)) l
  unfolding total
  total_map g [] = refl
  total_map g (a ∷ l) = omega (arith, total_map g l)

  -- gathered lists, changed
  pub map_gather : (n : ℕ) (g : ℕ → List A) → map f (gather n g) ≡ gather n (λ k. map f (g k))
  unfolding gather
  map_gather zero g = refl
  map_gather (suc n) g = map-append f (gather n g) (g n) ∙ ap (λ (l : List B). l ++ map f (g n)) (map_gather n g)

-- ---- lists beside each other

module _ {A B : Type 0} {R : A → B → Type 0} where
  -- of two lists, one behind the other
  pub Along-append : {l : List A} {m : List B} {l' : List A} {m' : List B} → Along R l m → Along R l' m' → Along R (l ++ l') (m ++ m')
  Along-append ended h = h
  Along-append (beside r g) h = beside r (Along-append g h)

  -- where each member has one, there is one list
  pub Along-one : ((a : A) (x y : B) → R a x → R a y → x ≡ y) → {l : List A} {m m' : List B} → Along R l m → Along R l m' → m ≡ m'
  Along-one one ended ended = refl
  Along-one one (beside {a = a} {b = x} r g) (beside {b = y} s h) = ap₂ (λ (x : B) (l : List B). x ∷ l) (one a x y r s) (Along-one one g h)
