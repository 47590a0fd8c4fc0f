-- Products of unknowns and fractions as pairs: the few lemmas that multiply facts.
use mathlib.Core.Logic.{◌⊎◌, inl, inr}
use Prim.Native.Nat.{◌*◌, ◌+◌, ◌-◌, ◌<◌, ◌≤◌, min, suc, ℕ}
use native.Mathlib.Decide.{dec_le}
use native.Mathlib.Nat.{add-sub_of_le, eq-zero-or-pos, le_of_lt, lt_of_mul-lt-mul_left, lt_of_not-le, min-eq_left, min-eq_right, mul-le-mul_left, mul-lt-mul_of_pos_left}
use native.Mathlib.Omega.{arith}

-- one of two numbers is the smaller
pub compare≤ : (a b : ℕ) → (a ≤ b) ⊎ (b < a)
compare≤ a b = elim (dec_le a b) [ yes h ↦ inl h | no h ↦ inr (lt_of_not-le h) ]

-- what is at most both multiples is at most the multiple of the smaller
pub le_mul_min : (c a b : ℕ) {y : ℕ} → y ≤ c * a → y ≤ c * b → y ≤ c * min a b
le_mul_min c a b p q = elim (compare≤ a b) [ inl h ↦ rw (min-eq_left h) p | inr h ↦ rw (min-eq_right (le_of_lt h)) q ]

apart_by : (a i c j : ℕ) → a * (suc c + j) + (suc a + i) * c < a * c + (suc a + i) * (suc c + j)
apart_by a i c j = omega arith

-- a < b and c < d: the products of like ends are more than those of unlike ends
rearrange : {a b c d : ℕ} → a < b → c < d → a * d + b * c < a * c + b * d
rearrange {a} {b} {c} {d} h l = rw (add-sub_of_le h, add-sub_of_le l) at (apart_by a (b - suc a) c (d - suc c))

-- a product above a number has no factor 0
pub pos_left : (a b c : ℕ) → a < b * c → 0 < b
pos_left a b c h = elim (eq-zero-or-pos b) [ inl e ↦ absurd (omega (arith, rw e at h)) | inr p ↦ p ]

-- fractions p/q, r/s, t/u as pairs: p/q ≥ r/s and r/s > t/u give p/q > t/u
pub denser : (p q r s t u : ℕ) → r * q ≤ p * s → t * s < r * u → 0 < p → t * q < p * u
denser p q r s t u h l pos =
    lt_of_mul-lt-mul_left r (omega (arith, mul-le-mul_left t h, mul-lt-mul_of_pos_left l pos))

-- fractions again, with the first step strict
pub denser' : (p q r s t u : ℕ) → r * q < p * s → t * s ≤ r * u → 0 < t → t * q < p * u
denser' p q r s t u h l pos =
    lt_of_mul-lt-mul_left r (omega (arith, mul-lt-mul_of_pos_left h pos, mul-le-mul_left p l))

-- a part with less weight that gains as much on w/p has the greater fraction
pub part_gains : (W P U Q w p : ℕ) → U < W → w * P < W * p → W * p + w * Q ≤ U * p + w * P → W * Q < U * P
part_gains W P U Q w p v l g = lt_of_mul-lt-mul_left w (omega (arith, mul-le-mul_left W g, rearrange v l))
