-- The amount of a dose over time: it never falls, rises no faster than one fan at the class's rate, and is drawn less than a gram behind.
use mathlib.Core.Bool.{◌&&◌, true}
use mathlib.Core.Path.{◌∙◌, ◌≡◌, ap, sym}
use Prim.Native.Nat.{◌*◌, ◌+◌, ◌-◌, ◌/◌, ◌<◌, ◌≤◌, max, min, suc, zero, ℕ}
use native.Mathlib.Nat.{add-suc, add-zero, div-add-mod', le_of_mul-le-mul_left, min-eq_left, mod-lt, mul-add}
use native.Mathlib.Omega.{arith}
use lib.Dec.{eqb, eqb→eq, leb, le→leb}
use Rattle.model.specs.Sets.{Doses, sum, weight}
use Rattle.model.specs.Classes.{Setting}
use Rattle.model.proofs.Sums.{sum_up}
use Rattle.model.proofs.Sets.{and_left, and_right, size_all, weight_all, weight_congr, weight_mono, weight_on_set, weight_scale}
use Rattle.model.proofs.Cells.{inject, lengths}
use Rattle.model.proofs.Moments.{House, Pieces, Runs, running, runs_at}

-- the cells before x that pieces of dose k have
abbrev pub ran : Pieces → ℕ → ℕ → ℕ
ran Z k x = weight Z.m (λ i. min (Z.e i) x - Z.s i) (λ i. eqb (Z.dose i) k)

module _ (S : Setting) (G : House S) (Z : Pieces) (h : Runs S G Z) (k : ℕ) where
  open Z use {Q, m, s, e, dose}

  abbrev it : Doses
  it d = eqb d k

  -- they are the cells before x at which the dose runs
  pub ran_cells : (x : ℕ) → ran Z k x ≡ sum x (running Z it)
  ran_cells x =
      omega (
        arith,
        weight_congr m (λ i. min (e i) x - s i) (λ i. min (e i) x - max (s i) 0) (λ i. eqb (dose i) k) (λ i l. omega arith),
        lengths m s e dose 0 x it,
        weight_mono x (running Z it) (λ c. leb 0 c) (λ c. true) (λ c l t. tt),
        weight_mono x (running Z it) (λ c. true) (λ c. leb 0 c) (λ c l t. le→leb 0 c (omega arith)),
        weight_all x (running Z it),
      )

  -- a dose runs on one fan at a time
  pub one_fan_lem : (x : ℕ) → running Z it x ≤ 1
  one_fan_lem x =
      omega (
        arith,
        size_all 1,
        inject m 1 (λ i. it (dose i) && runs_at Z x i) (λ d. true) (λ i. 0) (λ i l t. (omega arith, tt)) (λ i i' l l' t t' z.
            h.doses_apart x i i' l l' (and_right (it (dose i)) (runs_at Z x i) t) (and_right (it (dose i')) (runs_at Z x i') t')
            (eqb→eq (dose i) k (and_left (it (dose i)) (runs_at Z x i) t) ∙ sym (eqb→eq (dose i') k (and_left (it (dose i')) (runs_at Z x i') t')))),
      )

  -- the amount never falls
  pub ran_up : (a b : ℕ) → a ≤ b → ran Z k a ≤ ran Z k b
  ran_up a b l = omega (arith, ran_cells a, ran_cells b, sum_up (running Z it) a b l)

  running_slow : (a l : ℕ) → sum (a + l) (running Z it) ≤ sum a (running Z it) + l
  unfolding sum
  running_slow a zero = rw (add-zero a) (omega arith)
  running_slow a (suc l) = rw (add-suc a l) (omega (arith, running_slow a l, one_fan_lem (a + l)))

  -- in l cells it rises by at most l
  pub ran_slow : (a l : ℕ) → ran Z k (a + l) ≤ ran Z k a + l
  ran_slow a l = omega (arith, ran_cells a, ran_cells (a + l), running_slow a l)

  -- nothing before the first piece
  pub ran_before : (x : ℕ) → ((i : ℕ) → i < m → dose i ≡ k → x ≤ s i) → ran Z k x ≡ 0
  ran_before x g =
      weight_on_set m (λ i. min (e i) x - s i) (λ i. 0 * 1) (λ i. eqb (dose i) k) (λ i l t. omega (arith, g i l (eqb→eq (dose i) k t)))
      ∙ weight_scale m 0 (λ i. 1) (λ i. eqb (dose i) k) ∙ omega arith

  -- everything after the last
  pub ran_after : (x : ℕ) → ((i : ℕ) → i < m → dose i ≡ k → e i ≤ x) → ran Z k x ≡ weight m (λ i. e i - s i) (λ i. eqb (dose i) k)
  ran_after x g =
      weight_on_set m (λ i. min (e i) x - s i) (λ i. e i - s i) (λ i. eqb (dose i) k) (λ i l t. rw (min-eq_left (g i l (eqb→eq (dose i) k t))))

  -- in units of 1 / W tick, of which each has R cells: at most W in a tick
  pub units_slow : (W R : ℕ) → W * R ≡ Q → 0 < R → (u : ℕ → ℕ) → ((t : ℕ) → R * u t ≡ ran Z k (Q * t)) → (t d : ℕ) → u (t + d) ≤ u t + d * W
  units_slow W R grid pos u same t d =
      le_of_mul-le-mul_left {k = R} (omega (
        arith,
        same t,
        same (t + d),
        ran_slow (Q * t) (Q * d),
        ap (λ (x : ℕ). ran Z k x) (mul-add Q t d),
        ap (λ (x : ℕ). x * d) grid,
      )) pos

-- ---- whole grams

-- the drawn amount u / P is never ahead of the exact one, and is behind by less than 1
pub drawn_near : (u P : ℕ) → 0 < P → (u / P * P ≤ u) × (u < (u / P + 1) * P)
drawn_near u P p = (omega (arith, div-add-mod' u P), omega (arith, div-add-mod' u P, mod-lt u p))

-- the drawn line rises by less than d * W / P + 1 in d ticks
pub drawn_slow : (u v P b : ℕ) → 0 < P → v ≤ u + b → v / P * P < u / P * P + b + P
drawn_slow u v P b p h = omega (arith, drawn_near u P p, drawn_near v P p)
