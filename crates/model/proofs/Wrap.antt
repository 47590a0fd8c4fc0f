-- Laws of the line of one class in one interval: a share by its cases, and how few are cut.
use mathlib.Core.Path.{◌≡◌, ap}
use mathlib.Core.Logic.{inl, inr}
use mathlib.Core.List.{List, [], ◌∷◌}
use Prim.Native.Nat.{ℕ, zero, suc, ◌+◌, ◌*◌, ◌-◌, ◌/◌, ◌%◌, ◌≤◌, ◌<◌, min}
use native.Mathlib.Nat.{div-add-mod', le-div_iff_mul-le, div-lt_iff_lt-mul, eq-zero-or-pos, div-mul-le_self, div-le_self, mul-pos}
use native.Mathlib.Omega.{arith}
use borrow.Author.Tests.{eq-eqb, ne_eqb, le-leb, lt-leb}
use lib.ListN.{length, length-append}
use Rattle.model.specs.Sets.{sum}
use Rattle.model.specs.Lists.{gather}
use Rattle.model.specs.Layout.{Piece, uncut, before, behind, cut, line}
use Rattle.model.proofs.Fractions.{compare≤}

div_mono : {y z C : ℕ} → 0 < C → y ≤ z → y / C ≤ z / C
div_mono {y} {z} {C} pos h = (le-div_iff_mul-le {k = C} {x = y / C} {y = z} pos).1 (omega (arith, div-mul-le_self y C))

-- ---- a share by its three cases

module _ (C k a x : ℕ) where
  -- no share, no piece
  pub cut_none : x ≡ 0 → cut C k a x ≡ []
  unfolding cut
  cut_none e = rw (eq-eqb x 0 e)

  -- a share on one stretch
  pub cut_uncut : 0 < x → a % C + x ≤ C → cut C k a x ≡ uncut C k a x ∷ []
  unfolding cut
  cut_uncut p h = rw (ne_eqb x 0 (λ e. omega arith), le-leb (a % C + x) C h)

  -- a share over a cut
  pub cut_two : 0 < x → C < a % C + x → cut C k a x ≡ before C k a x ∷ behind C k a x ∷ []
  unfolding cut
  cut_two p h = rw (ne_eqb x 0 (λ e. omega arith), lt-leb (a % C + x) C h)

  -- what holds in each of the three cases
  pub cut_cases : (G : List Piece → Type 0) → (x ≡ 0 → G []) → (0 < x → a % C + x ≤ C → G (uncut C k a x ∷ []))
      → (0 < x → C < a % C + x → G (before C k a x ∷ behind C k a x ∷ [])) → G (cut C k a x)
  cut_cases G f g h = elim (eq-zero-or-pos x) [
    | inl e ↦ rw (cut_none e) (f e)
    | inr p ↦ elim (compare≤ (a % C + x) C) [ inl l ↦ rw (cut_uncut p l) (g p l) | inr l ↦ rw (cut_two p l) (h p l) ]
  ]

-- one piece for a share above zero, and one more only where a multiple of C is passed
pub cut_length : (C : ℕ) → 0 < C → (k a x : ℕ) → length (cut C k a x) + (a - 1) / C ≤ min 1 x + (a + x - 1) / C
cut_length C pos k a x =
    let e : a / C * C + a % C ≡ a = div-add-mod' a C in
    let up : (a - 1) / C ≤ (a + x - 1) / C = div_mono pos (omega arith) in
    cut_cases C k a x (λ l. length l + (a - 1) / C ≤ min 1 x + (a + x - 1) / C) (λ z. omega arith) (λ p h. omega arith)
    (λ p h. omega (arith, div_mono {y = a - 1} {z = a} pos (omega arith), (le-div_iff_mul-le {k = C} {x = a / C + 1} {y = a + x - 1} pos).1 (omega arith)))

-- ---- the line of n shares

-- how many of the shares are above zero
abbrev pub above : ℕ → (ℕ → ℕ) → ℕ
above n x = sum n (λ k. min 1 (x k))

-- a piece for each share above zero, and one for each multiple of C that is passed
pub line_length : (C : ℕ) → 0 < C → (x : ℕ → ℕ) (n : ℕ) → length (line C x n) ≤ above n x + (sum n x - 1) / C
unfolding line gather sum
line_length C pos x zero = omega arith
line_length C pos x (suc n) =
    omega (
      arith,
      length-append (gather n (λ k. cut C k (sum k x) (x k))) (cut C n (sum n x) (x n)),
      line_length C pos x n,
      cut_length C pos n (sum n x) (x n),
    )

-- the shares fill m stretches: at most m - 1 cuts
pub line_few : (C : ℕ) → 0 < C → (x : ℕ → ℕ) (n m : ℕ) → sum n x ≡ m * C → length (line C x n) ≤ above n x + (m - 1)
line_few C pos x n m e =
    let u : length (line C x n) ≤ above n x + (m * C - 1) / C = rw e at (line_length C pos x n) in
    elim (eq-zero-or-pos m) [
      | inl z ↦ omega (arith, ap (λ (y : ℕ). y * C) z, div-le_self (m * C - 1) C)
      | inr p ↦ omega (arith, mul-pos p pos, (div-lt_iff_lt-mul {k = C} {x = m * C - 1} {y = m} pos).1 (omega (arith, mul-pos p pos)))
    ]
