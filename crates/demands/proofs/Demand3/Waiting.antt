-- Where the classes' pieces take exactly the classes' fan time, a dose waits only while every fan runs a dose of its class or an earlier one.
use mathlib.Core.Bool.{Bool, ◌&&◌, not}
use mathlib.Core.Logic.{inl, inr}
use mathlib.Core.Path.{◌≡◌, sym}
use Prim.Native.Nat.{◌*◌, ◌<◌, ◌≤◌, suc, ℕ}
use native.Mathlib.Nat.{eq-zero-or-pos, le_of_suc-le-suc}
use native.Mathlib.Omega.{arith}
use lib.Dec.{T, eqb, eqb_refl, eqb→eq, not_T}
use Rattle.model.specs.Sets.{Doses}
use Rattle.model.specs.Classes.{Classes, P, Setting, W, active_in, class_p, open_fans}
use Rattle.model.proofs.Sets.{◌∖◌, and_both, and_left, and_not, and_right, le_weight, size, weight_and, weight_lt, weight_pos}
use Rattle.model.proofs.Sequence.{nested, no_slower, upto, upto_find, upto_has}
use Rattle.model.proofs.Cells.{cover, inject}
use Rattle.model.proofs.Moments.{House, InInterval, Pieces, Runs, crew, time, time_full}
use Rattle.model.proofs.Certificate.{Exact, takes_all}

-- no two to one, and as many as there are: every one is met
pub meets : (m n : ℕ) (X Y : Doses) (f : ℕ → ℕ) → ((i : ℕ) → i < m → T (X i) → (f i < n) × T (Y (f i)))
    → ((i i' : ℕ) → i < i' → i' < m → T (X i) → T (X i') → f i ≡ f i' → ⊥) → size n Y ≤ size m X
    → (y : ℕ) → y < n → T (Y y) → (i : ℕ) × (i < m) × T (X i) × (f i ≡ y)
meets m n X Y f into one all y l t = elim (eq-zero-or-pos (size m (λ i. X i && eqb (f i) y))) [
  | inl z ↦
      let missed : (i : ℕ) → i < m → T (X i) → T (not (eqb y (f i))) = λ i q u. not_T (eqb y (f i)) (λ g.
      omega (arith, le_weight m (λ i. 1) (λ i. X i && eqb (f i) y) i q (and_both (X i) (eqb (f i) y) u (rw (eqb→eq y (f i) g) (eqb_refl (f i)))))
      ) in
      absurd (omega (
        arith,
        inject m n X (Y ∖ eqb y) f (λ i q u. ((into i q u).0, and_both (Y (f i)) (not (eqb y (f i))) (into i q u).1 (missed i q u))) one,
        weight_lt n (λ k. 1) (Y ∖ eqb y) Y (λ k q. and_left (Y k) (not (eqb y k))) y l t (and_not (Y y) (eqb y y) (eqb_refl y)) (omega arith),
      ))
  | inr p ↦
      let r = weight_pos m (λ i. 1) (λ i. X i && eqb (f i) y) p in
      (r.0, r.1, and_left (X r.0) (eqb (f r.0) y) r.2, eqb→eq (f r.0) y (and_right (X r.0) (eqb (f r.0) y) r.2))
]

module _ (S : Setting) (G : House S) (Z : Pieces) (h : Runs S G Z) where
  open S use {doses as n, intervals as J, active}
  open G use {τ, fans, present}
  open Z use {Q, m, s, e, fan, dose}

  module _ (U : Doses) (full : Q * P S (crew G) U ≤ time Z U) (j x : ℕ) (jl : j < J) (q : InInterval Q τ j x) where
    abbrev runs : ℕ → Bool
    runs i = U (dose i) && cover (s i) (e i) x

    on_it : (i : ℕ) → T (runs i) → T (cover (s i) (e i) x)
    on_it i = and_right (U (dose i)) (cover (s i) (e i) x)

    -- a dose of U that waits: not all doses of U run
    fewer : (d : ℕ) → d < n → T (U d) → T (active d j) → ((i : ℕ) → i < m → T (cover (s i) (e i) x) → dose i ≡ d → ⊥) → size m runs < active_in S U j
    fewer d dl u a waits =
        omega (
          arith,
          weight_and n (λ k. active k j) U,
          inject m n runs ((λ k. U k && active k j) ∖ eqb d) dose
              (λ i r t. (
                h.in_dose i r,
                and_both (U (dose i) && active (dose i) j) (not (eqb d (dose i)))
                    (and_both (U (dose i)) (active (dose i) j) (and_left (U (dose i)) (cover (s i) (e i) x) t) (h.awake j x i jl r q (on_it i t)))
                    (not_T (eqb d (dose i)) (λ g. waits i r (on_it i t) (sym (eqb→eq d (dose i) g)))),
              ))
              (λ i i' r r' t t'. h.doses_apart x i i' r r' (on_it i t) (on_it i' t')),
          weight_lt n (λ k. 1) ((λ k. U k && active k j) ∖ eqb d) (λ k. U k && active k j) (λ k l. and_left (U k && active k j) (not (eqb d k))) d dl
              (and_both (U d) (active d j) u a) (and_not (U d && active d j) (eqb d d) (eqb_refl d)) (omega arith),
        )

    -- so all fans run, each a dose of U
    pub all_fans : (d : ℕ) → d < n → T (U d) → T (active d j) → ((i : ℕ) → i < m → T (cover (s i) (e i) x) → dose i ≡ d → ⊥)
        → (f : ℕ) → f < fans → T (present f j) → (i : ℕ) × (i < m) × T (runs i) × (fan i ≡ f)
    unfolding open_fans
    all_fans d dl u a waits =
        meets m fans runs (λ f. present f j) fan (λ i r t. (h.in_fan i r, h.there j x i jl r q (on_it i t)))
        (λ i i' r r' t t'. h.fans_apart x i i' r r' (on_it i t) (on_it i' t'))
        (omega (arith, fewer d dl u a waits, time_full S G Z h U full j x jl q))

  module _ (p : ℕ) (C : ℕ → Doses) (c : Classes S (crew G) p C) where
    -- the fan f runs, at the cell x, a dose of a class that is no later and no slower than class i
    pub record Served (i x f : ℕ) : Type 0 where
      pub piece : ℕ
      pub listed : piece < m
      pub by_fan : fan piece ≡ f
      pub covers : T (cover (s piece) (e piece) x)
      pub class : ℕ
      pub no_later : class ≤ i
      pub of_class : T (C class (dose piece))
      pub no_slower_than : W S (C i) * class_p S (crew G) C class ≤ W S (C class) * class_p S (crew G) C i

    served : (i x f : ℕ) → i < p → (q : ℕ) → q < m → T (upto C (suc i) (dose q) && cover (s q) (e q) x) → fan q ≡ f → Served i x f
    served i x f il q ql t by =
        let g = upto_find C (suc i) (dose q) (and_left (upto C (suc i) (dose q)) (cover (s q) (e q) x) t) in
        record {
          piece = q;
          listed = ql;
          by_fan = by;
          covers = and_right (upto C (suc i) (dose q)) (cover (s q) (e q) x) t;
          class = g.0;
          no_later = le_of_suc-le-suc g.1;
          of_class = g.2;
          no_slower_than = no_slower S (crew G) p C c g.0 i (le_of_suc-le-suc g.1) il;
        }

    -- a dose of class i that waits at a cell: every fan there runs a dose of its class or an earlier one
    pub waiting : Exact S G Z p C → (i d : ℕ) → i < p → d < n → T (C i d) → (j x : ℕ) → j < J → InInterval Q τ j x → T (active d j)
        → ((q : ℕ) → q < m → T (cover (s q) (e q) x) → dose q ≡ d → ⊥) → (f : ℕ) → f < fans → T (present f j) → Served i x f
    waiting exact i d il dl cd j x jl at act waits f fl fp =
        let r = all_fans (upto C (suc i)) (omega (arith, takes_all S G Z h p C exact (nested S (crew G) p C c p (omega arith)) (suc i) il)) j x jl at d dl (upto_has C (suc i) i d (omega arith) cd) act waits f fl fp in
        served i x f il r.0 r.1 r.2 r.3
