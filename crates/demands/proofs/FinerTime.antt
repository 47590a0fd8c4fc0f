-- Open fan time is the same over any finer division of time.
use mathlib.Core.Bool.{Bool, false}
use mathlib.Core.Path.{◌∙◌, ◌≡◌, sym}
use Prim.Native.Nat.{◌*◌, ◌+◌, ◌<◌, ◌≤◌, min, suc, zero, ℕ}
use native.Mathlib.Omega.{arith}
use Rattle.model.specs.Sets.{Doses, on, sum, weight}
use Rattle.model.specs.Classes.{P, Row, Setting, open_fans}
use Rattle.model.proofs.Sums.{sum_past, sum_run}
use Rattle.model.proofs.Sets.{weight_congr, weight_le, weight_scale}

-- with Q cells to the tick and edges τ in cells, the intervals tell which doses are open and how many fans are there at each cell
pub record View (S : Setting) (row : Row) (Q : ℕ) (τ : ℕ → ℕ) (open_at : ℕ → ℕ → Bool) (fans-at : ℕ → ℕ) : Type 0 where
  pub edges : (j : ℕ) → j < S.intervals → τ (suc j) ≡ τ j + Q * S.len j
  pub like : (j x : ℕ) → j < S.intervals → τ j ≤ x → x < τ (suc j) → (k : ℕ) → k < S.doses → S.active k j ≡ open_at k x
  pub crewed : (j x : ℕ) → j < S.intervals → τ j ≤ x → x < τ (suc j) → row j ≡ fans-at x
  pub before : (k x : ℕ) → k < S.doses → x < τ 0 → open_at k x ≡ false
  pub after : (k x : ℕ) → k < S.doses → τ S.intervals ≤ x → open_at k x ≡ false

-- the fans that A can use at the cell x
abbrev pub at_cell : ℕ → (ℕ → ℕ → Bool) → (ℕ → ℕ) → Doses → ℕ → ℕ
at_cell n open_at fans-at A x = min (weight n (λ k. on (open_at k x) 1) A) (fans-at x)

module _ (S : Setting) (row : Row) (Q : ℕ) (τ : ℕ → ℕ) (open_at : ℕ → ℕ → Bool) (fans-at : ℕ → ℕ) (v : View S row Q τ open_at fans-at) (A : Doses) where
  open S use {doses as n, intervals as J, active, len}

  abbrev use_of : ℕ → ℕ
  use_of x = at_cell n open_at fans-at A x

  idle : (x : ℕ) → ((k : ℕ) → k < n → open_at k x ≡ false) → use_of x ≡ 0
  idle x h =
      omega (
        arith,
        weight_le n (λ k. on (open_at k x) 1) (λ k. 0 * 1) A A (λ k l t p. t) (λ k l t. rw (h k l) (omega arith)),
        weight_scale n 0 (λ k. 1) A,
      )

  busy : (j x : ℕ) → j < J → τ j ≤ x → x < τ (suc j) → use_of x ≡ open_fans S row A j
  unfolding open_fans
  busy j x l p q =
      rw (← v.crewed j x l p q)
      (omega (arith, weight_congr n (λ k. on (open_at k x) 1) (λ k. on (active k j) 1) A (λ k r. rw (v.like j x l p q k r))))

  by_interval : (c : ℕ) → c ≤ J → sum (τ c) use_of ≡ Q * sum c (λ j. len j * open_fans S row A j)
  unfolding sum
  by_interval zero h = sum_past 0 (τ 0) (omega arith) use_of (λ x p q. idle x (λ k r. v.before k x r q)) ∙ omega arith
  by_interval (suc c) h =
      rw (v.edges c h)
      (omega (arith, by_interval c (omega arith), sum_run (τ c) (Q * len c) (open_fans S row A c) use_of (λ x p q. busy c x h p (omega (arith, v.edges c h)))))

  -- the fan time of A is what A can use, cell by cell, in Q-ths of a tick; by ticks where Q is 1
  pub P-cells : (H : ℕ) → τ J ≤ H → Q * P S row A ≡ sum H use_of
  unfolding P
  P-cells H l = sym (by_interval J (omega arith)) ∙ sym (sum_past (τ J) H l use_of (λ x p q. idle x (λ k r. v.after k x r p)))
