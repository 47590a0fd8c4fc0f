-- Lists held in arrays. Assumes nothing.
use Prim.Native.Nat.{ℕ, zero, suc, ◌+◌, ◌<◌, ◌≤◌}
use mathlib.Core.Path.{◌≡◌, refl, sym, ap, ◌∙◌}
use mathlib.Core.List.{List, [], ◌∷◌, ◌++◌}
use native.Mathlib.Omega.{arith}
use native.Mathlib.Nat.{add-zero, zero-add}
use lib.ListN.{length, get_or, set, drop, drop_of_length-le}
use lib.Seq.{drop-cons}
use Rattle.model.specs.Limits.{most_doses}
use Rattle.order.specs.Held.{run, column}

-- ---- a list as a run of its members

pub run_drop : {A : Type 0} (f : ℕ → A) (l : List A) (z : A) → ((k : ℕ) → f k ≡ get_or l k z) → (k n : ℕ) → k + n ≡ length l → run f k n ≡ drop k l
unfolding run
run_drop f l z h k zero e = let q : length l ≤ k = omega arith in sym (drop_of_length-le l q)
run_drop {A} f l z h k (suc n) e =
    ap (λ (a : A). a ∷ run f (suc k) n) (h k)
    ∙ ap (λ (t : List A). get_or l k z ∷ t) (run_drop f l z h (suc k) n (omega arith))
    ∙ sym (drop-cons l k z (omega arith))

pub run_all : {A : Type 0} (f : ℕ → A) (l : List A) (z : A) → ((k : ℕ) → f k ≡ get_or l k z) → run f 0 (length l) ≡ l
run_all f l z h = run_drop f l z h 0 (length l) (zero-add _)

pub run_length : {A : Type 0} (f : ℕ → A) (k n : ℕ) → length (run f k n) ≡ n
unfolding run
run_length f k zero = refl
run_length f k (suc n) = ap suc (run_length f (suc k) n)

pub run_at : {A : Type 0} (f : ℕ → A) (k n i : ℕ) (z : A) → i < n → get_or (run f k n) i z ≡ f (k + i)
unfolding run
run_at f k zero i z h = absurd (let y : ⊥ = omega arith in y)
run_at f k (suc n) zero z h = ap f (sym (add-zero k))
run_at f k (suc n) (suc i) z h = run_at f (suc k) n i z (omega arith) ∙ ap f (let e : suc k + i ≡ k + suc i = omega arith in e)

-- ---- a column of an array

module _ {A B : Type 0} (z : B) (f : A → B) where
  pub column_more : (n : ℕ) (l : List A) (a : A) → length l < n → set (column z f n l) (length l) (f a) ≡ column z f n (l ++ a ∷ [])
  unfolding column
  column_more zero l a h = absurd (let y : ⊥ = omega arith in y)
  column_more (suc n) [] a h = refl
  column_more (suc n) (b ∷ l) a h = ap (λ (t : List B). f b ∷ t) (column_more n l a (omega arith))

  pub column_set : {a : List B} {n : ℕ} (l : List A) (d : A) → a ≡ column z f most_doses l → n ≡ length l → length l < most_doses
      → set a n (f d) ≡ column z f most_doses (l ++ d ∷ [])
  column_set l d p q h = rw (p, q) (column_more most_doses l d h)

  pub column_at : (none : A) → f none ≡ z → (n : ℕ) (l : List A) (k : ℕ) → length l ≤ n → get_or (column z f n l) k z ≡ f (get_or l k none)
  unfolding column
  column_at none e zero [] k h = sym e
  column_at none e zero (a ∷ l) k h = absurd (let y : ⊥ = omega arith in y)
  column_at none e (suc n) [] zero h = sym e
  column_at none e (suc n) [] (suc k) h = column_at none e n [] k (omega arith)
  column_at none e (suc n) (a ∷ l) zero h = refl
  column_at none e (suc n) (a ∷ l) (suc k) h = column_at none e n l k (omega arith)
