-- One share is changed: what that does to the totals of doses and intervals, and when the shares stay within their bounds. Assumes nothing.
use mathlib.Core.Path.{◌≡◌, refl, sym}
use mathlib.Core.Bool.{Bool, true, false}
use mathlib.Core.Logic.{◌≢◌}
use Prim.Native.Nat.{ℕ, ◌+◌, ◌≤◌, ◌<◌}
use native.Mathlib.Decide.{ℕ_discrete}
use native.Mathlib.Omega.{arith}
use lib.Dec.{eqb}
use borrow.Author.Tests.{eq-eqb, ne_eqb}
use Rattle.model.specs.Sets.{Doses}
use Rattle.model.specs.Classes.{Setting, Row}
use Rattle.model.specs.Shares.{need, room, holds, got, given, Within, shares_total}
use Rattle.model.proofs.Sums.{sum_congr, sum_change}

-- u where the test passes, and v where not
abbrev pick : Bool → ℕ → ℕ → ℕ
pick true u v = u
pick false u v = v

pick_same : (t : Bool) (v : ℕ) → pick t v v ≡ v
pick_same true v = refl
pick_same false v = refl

module _ (x : ℕ → ℕ → ℕ) (k j v : ℕ) where
  -- the shares x, but dose k has v in interval j
  unfoldable pub put : ℕ → ℕ → ℕ
  put a b = pick (eqb a k) (pick (eqb b j) v (x a b)) (x a b)

  -- the changed share, and those of other doses and in other intervals
  pub put_here : put k j ≡ v
  unfolding put
  put_here = rw (eq-eqb k k refl, eq-eqb j j refl)

  pub put_other_dose : (a b : ℕ) → a ≢ k → put a b ≡ x a b
  unfolding put
  put_other_dose a b d = rw (ne_eqb a k d)

  pub put_other_interval : (a b : ℕ) → b ≢ j → put a b ≡ x a b
  unfolding put
  put_other_interval a b d = rw (ne_eqb b j d) (pick_same (eqb a k) (x a b))

module _ (S : Setting) (row : Row) (A : Doses) where
  open S use {doses, intervals}

  module _ (x : ℕ → ℕ → ℕ) (k j v : ℕ) (kn : k < doses) (j_j : j < intervals) where
    -- the changed shares
    abbrev y : ℕ → ℕ → ℕ
    y = put x k j v

    -- the totals of the dose and of the interval change as the share does, the others not at all
    pub got_put : got S row A y k + x k j ≡ got S row A x k + v
    got_put = omega (arith, put_here x k j v, sum_change intervals (λ b. x k b) (λ b. y k b) j j_j (λ b l d. sym (put_other_interval x k j v k b d)))

    pub given_put : given S row A y j + x k j ≡ given S row A x j + v
    given_put = omega (arith, put_here x k j v, sum_change doses (λ a. x a j) (λ a. y a j) k kn (λ a l d. sym (put_other_dose x k j v a j d)))

    pub got_other : (a : ℕ) → a ≢ k → got S row A y a ≡ got S row A x a
    got_other a d = sum_congr intervals (λ b l. put_other_dose x k j v a b d)

    pub given_other : (b : ℕ) → b ≢ j → given S row A y b ≡ given S row A x b
    given_other b d = sum_congr doses (λ a l. put_other_interval x k j v a b d)

    -- all that is given out changes as the share does
    pub total_put : shares_total S row A y + x k j ≡ shares_total S row A x + v
    total_put = omega (arith, got_put, sum_change doses (λ a. got S row A x a) (λ a. got S row A y a) k kn (λ a l d. sym (got_other a d)))

    -- the new share is within its room, and the dose's need and the reserved time bear the change
    pub put_within : Within S row A x → v ≤ room S row A k j → given S row A x j + v ≤ holds S row A j + x k j
        → got S row A x k + v ≤ need S row A k + x k j → Within S row A y
    put_within w r h g = record {
      roomy = λ a b l m. elim (ℕ_discrete a k) [
        | yes e ↦ elim (ℕ_discrete b j) [ yes f ↦ rw (e, f, put_here x k j v) r | no d ↦ rw (put_other_interval x k j v a b d) (w.roomy a b l m) ]
        | no d ↦ rw (put_other_dose x k j v a b d) (w.roomy a b l m)
      ];
      held = λ b m. elim (ℕ_discrete b j) [ yes e ↦ rw e (omega (arith, given_put)) | no d ↦ rw (given_other b d) (w.held b m) ];
      needed = λ a l. elim (ℕ_discrete a k) [ yes e ↦ rw e (omega (arith, got_put)) | no d ↦ rw (got_other a d) (w.needed a l) ];
    }
