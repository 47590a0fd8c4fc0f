-- The instants of an order are the only strictly sorted list of its releases and deadlines.
use mathlib.Core.Path.{◌≡◌, refl, ap₂}
use mathlib.Core.List.{List, [], ◌∷◌}
use Prim.Native.Nat.{ℕ, ◌<◌}
use native.Mathlib.Omega.{arith}
use Rattle.model.specs.Lists.{then}
use Rattle.model.specs.Orders.{Dose}
use Rattle.model.specs.Intervals.{instants}
use Rattle.model.proofs.Intervals.{Member, of_member, Rising, Bound, instants_sorted, instants_have, instants_only, place_of, head_least, here, there}

-- the empty list has no member
nobody : (v : ℕ) → Member v [] → ⊥
nobody v m = let r = place_of v m in omega (arith, r.1)

-- a member above the head is behind it
not_head : (v x : ℕ) (l : List ℕ) → x < v → Member v (x ∷ l) → Member v l
not_head v x l h (here e) = absurd (omega arith)
not_head v x l h (there m) = m

-- two strictly sorted lists with the same members are one
pub sorted_unique : (a b : List ℕ) → Rising a → Rising b → ((v : ℕ) → Member v a → Member v b) → ((v : ℕ) → Member v b → Member v a) → a ≡ b
sorted_unique [] [] r s f g = refl
sorted_unique [] (y ∷ b) r s f g = absurd (nobody y (g y (here refl)))
sorted_unique (x ∷ a) [] r s f g = absurd (nobody x (f x (here refl)))
sorted_unique (x ∷ a) (y ∷ b) (then p r) (then q s) f g =
    let same : x ≡ y = omega (arith, head_least y x a p (g y (here refl)), head_least x y b q (f x (here refl))) in
    let up : (v : ℕ) → Member v a → Member v b = λ v m. not_head v y b (omega (arith, of_member (λ z. x < z) p v m)) (f v (there m)) in
    let down : (v : ℕ) → Member v b → Member v a = λ v m. not_head v x a (omega (arith, of_member (λ z. y < z) q v m)) (g v (there m)) in
    ap₂ (λ (z : ℕ) (l : List ℕ). z ∷ l) same (sorted_unique a b r s up down)

-- the instants are the one strictly sorted list of the releases and deadlines
pub instants_unique : (ds : List Dose) (l : List ℕ) → Rising l → ((v : ℕ) → Bound v ds → Member v l) → ((v : ℕ) → Member v l → Bound v ds)
    → l ≡ instants ds
instants_unique ds l r has only =
    sorted_unique l (instants ds) r (instants_sorted ds) (λ v m. instants_have ds v (only v m)) (λ v m. has v (instants_only ds v m))
