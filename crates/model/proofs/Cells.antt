-- Stretches of time on a grid: a length is a count of cells, and stretches by cells are cells by stretches.
use mathlib.Core.Bool.{Bool, ◌&&◌, false, not, true}
use mathlib.Core.Logic.{inl, inr}
use mathlib.Core.Path.{◌∙◌, ◌≡◌, ap, refl, sym}
use Prim.Native.Nat.{◌+◌, ◌-◌, ◌<◌, ◌≤◌, max, min, suc, zero, ℕ}
use native.Mathlib.Nat.{le_of_lt, le_trans, min-eq_left, min-eq_right}
use native.Mathlib.Omega.{arith}
use lib.Dec.{T, eqb, eqb_refl, eqb→eq, leb, leb→le, le→leb, ltb, ltb→lt, lt→ltb, nleb→lt, nltb→le, not_T}
use Rattle.model.specs.Sets.{Doses, on, sum, weight}
use Rattle.model.proofs.Sums.{sum_congr}
use Rattle.model.proofs.Sets.{◌∖◌, and_both, and_left, and_not, and_right, same_test, size, weight_and, weight_congr, weight_lt, weight_mono, weight_swap₂}
use Rattle.model.proofs.Fractions.{compare≤}

-- a map from X to Y that takes no two to one: X has no more members than Y
pub inject : (m n : ℕ) (X Y : Doses) (f : ℕ → ℕ) → ((i : ℕ) → i < m → T (X i) → (f i < n) × T (Y (f i)))
    → ((i i' : ℕ) → i < i' → i' < m → T (X i) → T (X i') → f i ≡ f i' → ⊥) → size m X ≤ size n Y
unfolding weight sum
inject zero n X Y f into one = omega arith
inject (suc m) n X Y f into one = go (X m) refl (λ Z h. inject m n X Z f h (λ i i' l q. one i i' l (omega arith)))
  where
    go : (b : Bool) → X m ≡ b → ((Z : Doses) → ((i : ℕ) → i < m → T (X i) → (f i < n) × T (Z (f i))) → size m X ≤ size n Z) → size m X + on b 1 ≤ size n Y
    go false e ih = omega (arith, ih Y (λ i l. into i (omega arith)))
    go true e ih =
        let here = into m (omega arith) (rw e tt) in
        let there : (i : ℕ) → i < m → T (X i) → (f i < n) × T ((Y ∖ eqb (f m)) (f i)) = λ i l t. (
          (into i (omega arith) t).0,
          and_both (Y (f i)) (not (eqb (f m) (f i))) (into i (omega arith) t).1
              (not_T (eqb (f m) (f i)) (λ q. one i m l (omega arith) t (rw e tt) (sym (eqb→eq (f m) (f i) q)))),
        ) in
        omega (
          arith,
          ih (Y ∖ eqb (f m)) there,
          weight_lt n (λ k. 1) (Y ∖ eqb (f m)) Y (λ k l. and_left (Y k) (not (eqb (f m) k))) (f m) here.0 here.1
              (and_not (Y (f m)) (eqb (f m) (f m)) (eqb_refl (f m))) (omega arith),
        )

-- ---- cells

on_and₃ : (a b d : Bool) → on a (on (b && d) 1) ≡ on (a && b && d) 1
on_and₃ true b d = refl
on_and₃ false b d = refl

leb_max : (a b c : ℕ) → leb (max b a) c ≡ leb a c && leb b c
leb_max a b c =
    same_test _ _
    (λ t. and_both (leb a c) (leb b c) (le→leb a c (omega (arith, leb→le (max b a) c t))) (le→leb b c (omega (arith, leb→le (max b a) c t))))
    (λ t. le→leb (max b a) c (omega (arith, leb→le a c (and_left (leb a c) (leb b c) t), leb→le b c (and_right (leb a c) (leb b c) t))))

-- the cell c is one of those from s up to e
abbrev pub cover : ℕ → ℕ → ℕ → Bool
cover s e c = leb s c && ltb c e

step : (s e m : ℕ) (a b : Bool) → leb s m ≡ a → ltb m e ≡ b → min e (suc m) - s ≡ (min e m - s) + on (a && b) 1
step s e m true true p q = omega (arith, leb→le s m (rw p tt), ltb→lt m e (rw q tt))
step s e m true false p q = omega (arith, leb→le s m (rw p tt), nltb→le m e (rw q tt))
step s e m false b p q = omega (arith, nleb→lt s m (rw p tt))

-- there are e - s of them
cells : (m s e : ℕ) → size m (cover s e) ≡ min e m - s
unfolding weight sum
cells zero s e = omega arith
cells (suc m) s e = omega (arith, cells m s e, step s e m (leb s m) (ltb m e) refl refl)

-- a stretch in the cells from a up to b, and from b up to c
pub join : (s e a b c : ℕ) → a ≤ b → b ≤ c → (min e b - max s a) + (min e c - max s b) ≡ min e c - max s a
join s e a b c h l = elim (compare≤ e b) [
  | inl g ↦ rw (min-eq_left g, min-eq_left (le_trans g l)) (omega arith)
  | inr g ↦ rw (min-eq_right (le_of_lt g)) (omega arith)
]

-- the cells from lo up to hi
pub cells_from : (lo hi : ℕ) → size hi (λ c. leb lo c) ≡ hi - lo
cells_from lo hi =
    omega (
      arith,
      cells hi lo hi,
      weight_mono hi (λ c. 1) (cover lo hi) (λ c. leb lo c) (λ c l. and_left (leb lo c) (ltb c hi)),
      weight_mono hi (λ c. 1) (λ c. leb lo c) (cover lo hi) (λ c l t. and_both (leb lo c) (ltb c hi) t (lt→ltb c hi l)),
    )

-- ---- m stretches: stretch i has the cells from s i up to e i, of the dose `dose i`

module _ (m : ℕ) (s e dose : ℕ → ℕ) where
  -- the length of a stretch inside the cells from lo up to hi
  abbrev clip : ℕ → ℕ → ℕ → ℕ
  clip lo hi i = min (e i) hi - max (s i) lo

  abbrev at : ℕ → ℕ → Bool
  at c i = cover (s i) (e i) c

  -- how many stretches of doses in A cover the cell c
  abbrev covers : Doses → ℕ → ℕ
  covers A c = size m (λ i. A (dose i) && at c i)

  -- the cells of a stretch in the range
  clip_cells : (lo hi i : ℕ) → weight hi (λ c. on (at c i) 1) (λ c. leb lo c) ≡ clip lo hi i
  unfolding weight
  clip_cells lo hi i = sum_congr hi (λ c l. on_and₃ (leb lo c) (leb (s i) c) (ltb c (e i)) ∙ ap (λ (b : Bool). on (b && ltb c (e i)) 1) (sym (leb_max lo (s i) c))) ∙ cells hi (max (s i) lo) (e i)

  -- the lengths of A's stretches in the range, added up cell by cell
  pub lengths : (lo hi : ℕ) (A : Doses) → weight m (clip lo hi) (λ i. A (dose i)) ≡ weight hi (covers A) (λ c. leb lo c)
  lengths lo hi A =
      weight_congr m _ _ (λ i. A (dose i)) (λ i l. sym (clip_cells lo hi i))
      ∙ weight_swap₂ m hi (λ i c. on (at c i) 1) (λ i. A (dose i)) (λ c. leb lo c)
      ∙ weight_congr hi _ _ (λ c. leb lo c) (λ c l. weight_and m (at c) (λ i. A (dose i)))
