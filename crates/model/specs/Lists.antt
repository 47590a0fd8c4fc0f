-- Lists of slots and records: lists made of lists, totals, and what holds of all members, of each two, or along two lists.
use Rattle.std.specs.Prelude.{List, [], ◌∷◌, ◌++◌, ℕ, zero, suc, ◌+◌}

-- f 0, then f 1, .. then f (n - 1)
unfoldable pub gather : {A : Type 0} → ℕ → (ℕ → List A) → List A
gather zero f = []
gather (suc n) f = gather n f ++ f n

-- what the members come to together
unfoldable pub total : {A : Type 0} → (A → ℕ) → List A → ℕ
total g [] = 0
total g (a ∷ l) = g a + total g l

-- P holds of every member
pub data All {A : Type 0} (P : A → Type 0) : List A → Type 0 where
  none : All P []
  also : {a : A} {l : List A} → P a → All P l → All P (a ∷ l)

-- R holds of every member and every later one
pub data Pairs {A : Type 0} (R : A → A → Type 0) : List A → Type 0 where
  lone : Pairs R []
  then : {a : A} {l : List A} → All (R a) l → Pairs R l → Pairs R (a ∷ l)

-- R holds of every member and the one in its place in the other list, which is as long
pub data Along {A B : Type 0} (R : A → B → Type 0) : List A → List B → Type 0 where
  ended : Along R [] []
  beside : {a : A} {b : B} {l : List A} {m : List B} → R a b → Along R l m → Along R (a ∷ l) (b ∷ m)
