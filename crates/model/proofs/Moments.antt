-- Pieces of fan time on a grid of Q cells to the tick: their time is at most the open fan time of their doses, and what follows where it is all of it.
use mathlib.Core.Bool.{Bool, ◌&&◌, false, true}
use mathlib.Core.Path.{◌∙◌, ◌≡◌, ap, refl, sym}
use Prim.Native.Nat.{◌*◌, ◌+◌, ◌-◌, ◌<◌, ◌≤◌, max, min, suc, zero, ℕ}
use native.Mathlib.Omega.{arith}
use borrow.Author.Tests.{eq-eqb, ne_eqb}
use lib.Dec.{T, eqb, leb, leb→le, le→leb}
use Rattle.model.specs.Sets.{Doses, Sub, on, sum, weight}
use Rattle.model.specs.Classes.{P, Row, Setting, open_fans}
use Rattle.model.proofs.Sums.{one_term, sum_congr, sum_le, sum_scale, sum_tight}
use Rattle.model.proofs.Sets.{Apart, ◌∪◌, and_both, and_left, and_right, size, weight_and, weight_congr, weight_le, weight_mono, weight_scale, weight_swap, weight_swap₂, weight_tight, weight_union}
use Rattle.model.proofs.Cells.{cells_from, cover, inject, join, lengths}

on_zero : (a : Bool) → on a 0 ≡ 0
on_zero true = refl
on_zero false = refl

-- a weight on one dose alone
single : (n d x : ℕ) (A : Doses) → d < n → weight n (λ k. on (eqb d k) x) A ≡ on (A d) x
unfolding weight
single n d x A l =
    one_term n d (λ k. on (A k) (on (eqb d k) x)) l (λ i q ne. rw (ne_eqb d i (λ e. ne (sym e))) (on_zero (A i))) ∙ rw (eq-eqb d d refl)

-- the pieces of each dose of A, added up, are the pieces of doses in A
pub gather : (n m : ℕ) (dose f : ℕ → ℕ) (A : Doses) → ((i : ℕ) → i < m → dose i < n)
    → weight n (λ k. weight m f (λ i. eqb (dose i) k)) A ≡ weight m f (λ i. A (dose i))
unfolding weight
gather n m dose f A h =
    weight_swap₂ n m (λ k i. on (eqb (dose i) k) (f i)) A (λ i. true)
    ∙ sum_congr m (λ i l. single n (dose i) (f i) A (h i l))

-- the house: interval j has the ticks from τ j up to τ (j + 1), and fan f is there in it or not
pub record House (S : Setting) : Type 0 where
  pub τ : ℕ → ℕ
  pub edges : (j : ℕ) → j < S.intervals → τ (suc j) ≡ τ j + S.len j
  pub fans : ℕ
  pub present : ℕ → ℕ → Bool

-- the fans that are there in interval j
abbrev pub crew : {S : Setting} → House S → Row
crew G j = size G.fans (λ f. G.present f j)

-- the cell x lies in interval j, at Q cells to the tick
pub record InInterval (Q : ℕ) (τ : ℕ → ℕ) (j x : ℕ) : Type 0 where
  pub low : Q * τ j ≤ x
  pub high : x < Q * τ (suc j)

-- m pieces, in cells of which a tick has Q: piece i has the cells from s i up to e i, on a fan, of a dose
pub record Pieces : Type 0 where
  pub Q : ℕ
  pub m : ℕ
  pub s : ℕ → ℕ
  pub e : ℕ → ℕ
  pub fan : ℕ → ℕ
  pub dose : ℕ → ℕ

-- piece i runs at the cell x
abbrev pub runs_at : Pieces → ℕ → ℕ → Bool
runs_at Z x i = cover (Z.s i) (Z.e i) x

-- how many pieces of doses in U run at the cell x
abbrev pub running : Pieces → Doses → ℕ → ℕ
running Z U x = size Z.m (λ i. U (Z.dose i) && cover (Z.s i) (Z.e i) x)

-- the cells that the pieces of doses in U have
abbrev pub time : Pieces → Doses → ℕ
time Z U = weight Z.m (λ i. Z.e i - Z.s i) (λ i. U (Z.dose i))

module _ (Z : Pieces) where
  open Z use {m, s, e, dose}

  runs_as : (U : Doses) (x : ℕ) → weight m (λ i. on (cover (s i) (e i) x) 1) (λ i. U (dose i)) ≡ running Z U x
  runs_as U x = weight_and m (λ i. cover (s i) (e i) x) (λ i. U (dose i))

  -- more doses have no fewer pieces at a cell
  pub running_mono : (A B : Doses) (x : ℕ) → Sub m (λ i. A (dose i)) (λ i. B (dose i)) → running Z A x ≤ running Z B x
  running_mono A B x h =
      omega (arith, runs_as A x, runs_as B x, weight_mono m (λ i. on (cover (s i) (e i) x) 1) (λ i. A (dose i)) (λ i. B (dose i)) h)

  -- two sets apart have their pieces together
  pub running_union : (A B : Doses) (x : ℕ) → Apart m (λ i. A (dose i)) (λ i. B (dose i)) → running Z (A ∪ B) x ≡ running Z A x + running Z B x
  running_union A B x h =
      omega (
        arith,
        runs_as A x,
        runs_as B x,
        runs_as (A ∪ B) x,
        weight_union m (λ i. on (cover (s i) (e i) x) 1) (λ i. A (dose i)) (λ i. B (dose i)) h,
      )

-- no two pieces of one dose or one fan share a cell, and a piece lies where its dose is active and its fan is there
pub record Runs (S : Setting) (G : House S) (Z : Pieces) : Type 0 where
  pub doses_apart : (x i i' : ℕ) → i < i' → i' < Z.m → T (runs_at Z x i) → T (runs_at Z x i') → Z.dose i ≡ Z.dose i' → ⊥
  pub fans_apart : (x i i' : ℕ) → i < i' → i' < Z.m → T (runs_at Z x i) → T (runs_at Z x i') → Z.fan i ≡ Z.fan i' → ⊥
  pub in_dose : (i : ℕ) → i < Z.m → Z.dose i < S.doses
  pub in_fan : (i : ℕ) → i < Z.m → Z.fan i < G.fans
  pub from : (i : ℕ) → i < Z.m → Z.Q * G.τ 0 ≤ Z.s i
  pub to : (i : ℕ) → i < Z.m → Z.e i ≤ Z.Q * G.τ S.intervals
  pub awake : (j x i : ℕ) → j < S.intervals → i < Z.m → InInterval Z.Q G.τ j x → T (runs_at Z x i) → T (S.active (Z.dose i) j)
  pub there : (j x i : ℕ) → j < S.intervals → i < Z.m → InInterval Z.Q G.τ j x → T (runs_at Z x i) → T (G.present (Z.fan i) j)

module _ (S : Setting) (G : House S) (Z : Pieces) (h : Runs S G Z) where
  open S use {doses as n, intervals as J, active, len}
  open G use {τ, edges, fans, present}
  open Z use {Q, m, s, e, fan, dose}

  -- the part of a piece in interval j
  abbrev part : ℕ → ℕ → ℕ
  part j i = min (e i) (Q * τ (suc j)) - max (s i) (Q * τ j)

  edge : (j : ℕ) → j < J → Q * τ (suc j) ≡ Q * τ j + Q * len j
  edge j l = rw (edges j l) (omega arith)

  -- the parts of a piece in the first intervals
  parts : (i : ℕ) (c : ℕ) → c ≤ J → (Q * τ 0 ≤ Q * τ c) × (sum c (λ j. part j i) ≡ min (e i) (Q * τ c) - max (s i) (Q * τ 0))
  unfolding sum
  parts i zero g = (omega arith, omega arith)
  parts i (suc c) g =
      let r = parts i c (omega arith) in
      let up : Q * τ c ≤ Q * τ (suc c) = omega (arith, edge c g) in
      (omega (arith, r.0), omega (arith, r.1, join (s i) (e i) (Q * τ 0) (Q * τ c) (Q * τ (suc c)) r.0 up))

  -- a piece is the sum of its parts
  whole : (i : ℕ) → i < m → e i - s i ≡ sum J (λ j. part j i)
  whole i l = omega (arith, (parts i J (omega arith)).1, h.from i l, h.to i l)

  -- all pieces of U, interval by interval
  by_interval : (U : Doses) → time Z U ≡ sum J (λ j. weight m (part j) (λ i. U (dose i)))
  by_interval U = weight_congr m _ _ (λ i. U (dose i)) whole ∙ weight_swap m J (λ i j. part j i) (λ i. U (dose i))

  -- ---- a bound on what runs in each interval bounds the time

  module _ (U : Doses) (g : ℕ → ℕ) (most : (j x : ℕ) → j < J → InInterval Q τ j x → running Z U x ≤ g j) where
    under : (j : ℕ) → j < J → (x : ℕ) → x < Q * τ (suc j) → T (leb (Q * τ j) x) → running Z U x ≤ g j
    under j l x q t = most j x l (record { low = leb→le (Q * τ j) x t; high = q })

    cells_of : (j : ℕ) → j < J → weight (Q * τ (suc j)) (λ x. g j) (λ x. leb (Q * τ j) x) ≡ Q * (len j * g j)
    cells_of j l =
        let each = weight_congr (Q * τ (suc j)) (λ x. g j) (λ x. g j * 1) (λ x. leb (Q * τ j) x) (λ x q. omega arith) in
        omega (
          arith,
          each,
          weight_scale (Q * τ (suc j)) (g j) (λ x. 1) (λ x. leb (Q * τ j) x),
          ap (λ (y : ℕ). g j * y) (cells_from (Q * τ j) (Q * τ (suc j)) ∙ ap (λ (y : ℕ). y - Q * τ j) (edge j l)),
          ap (λ (y : ℕ). g j * y) (span (Q * τ j) (Q * len j)),
        )
      where
        span : (a b : ℕ) → (a + b) - a ≡ b
        span a b = omega arith

    interval_most : (j : ℕ) → j < J → weight m (part j) (λ i. U (dose i)) ≤ Q * (len j * g j)
    interval_most j l =
        omega (
          arith,
          lengths m s e dose (Q * τ j) (Q * τ (suc j)) U,
          cells_of j l,
          weight_le (Q * τ (suc j)) (running Z U) (λ x. g j) (λ x. leb (Q * τ j) x) (λ x. leb (Q * τ j) x) (λ x q t p. t) (under j l),
        )

    -- the time is at most Q times the sum of length times bound
    pub time_bound : time Z U ≤ Q * sum J (λ j. len j * g j)
    time_bound = omega (arith, by_interval U, sum_le J interval_most, sum_scale J Q (λ j. len j * g j))

    -- where the time is the bound, so is what runs at every cell
    pub time_tight : Q * sum J (λ j. len j * g j) ≤ time Z U → (j x : ℕ) → j < J → InInterval Q τ j x → running Z U x ≡ g j
    time_tight f j x l q =
        let full = sum_tight J interval_most (omega (arith, by_interval U, sum_scale J Q (λ j. len j * g j))) j l in
        weight_tight (Q * τ (suc j)) (running Z U) (λ x. g j) (λ x. leb (Q * τ j) x) (under j l)
        (omega (arith, full, lengths m s e dose (Q * τ j) (Q * τ (suc j)) U, cells_of j l)) x q.high (le→leb (Q * τ j) x q.low)

  -- ---- no more run than doses or fans

  -- at a cell run at most as many pieces of U as there are doses of U active, or fans
  pub crowd : (U : Doses) (j x : ℕ) → j < J → InInterval Q τ j x → running Z U x ≤ open_fans S (crew G) U j
  unfolding open_fans
  crowd U j x l q =
      let on_it : (i : ℕ) → T (U (dose i) && cover (s i) (e i) x) → T (cover (s i) (e i) x) = λ i. and_right (U (dose i)) (cover (s i) (e i) x) in
      omega (
        arith,
        weight_and n (λ k. active k j) U,
        inject m n (λ i. U (dose i) && cover (s i) (e i) x) (λ k. U k && active k j) dose
            (λ i r t. (h.in_dose i r, and_both (U (dose i)) (active (dose i) j) (and_left (U (dose i)) (cover (s i) (e i) x) t) (h.awake j x i l r q (on_it i t))))
            (λ i i' r r' t t'. h.doses_apart x i i' r r' (on_it i t) (on_it i' t')),
        inject m fans (λ i. U (dose i) && cover (s i) (e i) x) (λ f. present f j) fan (λ i r t. (h.in_fan i r, h.there j x i l r q (on_it i t)))
            (λ i i' r r' t t'. h.fans_apart x i i' r r' (on_it i t) (on_it i' t')),
      )

  -- the time of the pieces of U is at most the open fan time of U
  pub time_within : (U : Doses) → time Z U ≤ Q * P S (crew G) U
  unfolding P
  time_within U = time_bound U (open_fans S (crew G) U) (crowd U)

  -- and where it is all of it, every cell has as many pieces of U as it can
  pub time_full : (U : Doses) → Q * P S (crew G) U ≤ time Z U
      → (j x : ℕ) → j < J → InInterval Q τ j x → running Z U x ≡ open_fans S (crew G) U j
  unfolding P
  time_full U = time_tight U (open_fans S (crew G) U) (crowd U)
