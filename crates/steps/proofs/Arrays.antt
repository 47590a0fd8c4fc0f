-- What stands in the places of an array, which settle it: the law through which two answers that are arrays are shown equal. Assumes nothing.
use mathlib.Core.List.{List}
use mathlib.Core.Path.{◌≡◌, refl, sym, ◌∙◌}
use Prim.Native.Nat.{ℕ, zero, suc, ◌<◌}
use native.Mathlib.Omega.{arith}
use lib.ListN.{length, get_or, replicate}
use lib.Seq.{ext_get_or}

module _ {A : Type 0} (d : A) (n : ℕ) {l m : List A} (p : length l ≡ n) (q : length m ≡ n) where
  -- two arrays of n places that hold the same in each
  pub places_one : ((i : ℕ) → i < n → get_or l i d ≡ get_or m i d) → l ≡ m
  places_one h = ext_get_or d l m (p ∙ sym q) (λ i b. h i (omega arith))

  -- in place i of both stands f i
  pub filled_one : {f : ℕ → A} → ((i : ℕ) → i < n → get_or l i d ≡ f i) → ((i : ℕ) → i < n → get_or m i d ≡ f i) → l ≡ m
  filled_one h g = places_one (λ i b. h i b ∙ sym (g i b))

-- the same in every place of an array, and past its end
pub all_same : {A : Type 0} (n i : ℕ) (a : A) → get_or (replicate n a) i a ≡ a
all_same zero i a = refl
all_same (suc n) zero a = refl
all_same (suc n) (suc i) a = all_same n i a
