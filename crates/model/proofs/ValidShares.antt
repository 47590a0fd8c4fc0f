-- Shares with nothing missing are valid, and every class has weight and open fan time.
use mathlib.Core.Path.{◌∙◌, ◌≡◌}
use Prim.Native.Nat.{ℕ, ◌*◌, ◌≤◌, ◌<◌}
use native.Mathlib.Omega.{arith}
use lib.Dec.{T}
use Rattle.model.specs.Sets.{Doses, sum}
use Rattle.model.specs.Orders.{Order}
use Rattle.model.specs.Classes.{Classes, P, Row, Setting, W, class_p, open_fans}
use Rattle.model.specs.Intervals.{fans_present, setting_of}
use Rattle.model.specs.Shares.{Valid, Within, given, got, holds, missing, need, short}
use Rattle.model.proofs.Sums.{sum_congr, sum_scale, sum_swap, sum_tight}
use Rattle.model.proofs.Sets.{le_weight}
use Rattle.model.proofs.FanTime.{weighs}
use Rattle.model.proofs.Chains.{given_out}
use Rattle.model.proofs.Sequence.{remaining_open}
use Rattle.model.proofs.Orders.{Fit}
use Rattle.model.proofs.Windows.{heavy, starts_open}

module _ (S : Setting) (row : Row) (A : Doses) where
  open S use {doses as n, intervals as J, grams, len}

  -- what the intervals hold together is what the doses need together
  holds_all : sum J (holds S row A) ≡ W S A * P S row A
  unfolding P
  holds_all = sum_congr J (λ j l. omega arith) ∙ sum_scale J (W S A) (λ j. len j * open_fans S row A j)

  module _ (x : ℕ → ℕ → ℕ) (w : Within S row A x) (z : missing S row A x ≡ 0) where
    meets : (k : ℕ) → k < n → T (A k) → got S row A x k ≡ need S row A k
    meets k l t = omega (arith, le_weight n (short S row A x) A k l t, w.needed k l)

    given_all : sum J (holds S row A) ≤ sum J (given S row A x)
    given_all = omega (arith, holds_all, given_out S row A x w, sum_swap n J x)

    -- shares within the bounds, with nothing missing, are valid
    pub valid_if_met : Valid S row A x
    valid_if_met = record { roomy = w.roomy; full = λ j l. sum_tight J w.held given_all j l; met = meets }

module _ (o : Order) (p : ℕ) (C : ℕ → Doses) (c : Classes (setting_of o) (fans_present o) p C) where
  -- every class has weight
  pub class_weighs : Fit o → (i : ℕ) → i < p → 0 < W (setting_of o) (C i)
  class_weighs fit i l = weighs (setting_of o) (heavy o fit) (C i) (c.next i l).some

  -- "P is above zero": every class has open fan time
  pub class_open : Fit o → (i : ℕ) → i < p → 0 < class_p (setting_of o) (fans_present o) C i
  class_open fit i l =
      remaining_open (setting_of o) (fans_present o) p C c (starts_open o fit) i (omega arith) (C i) (c.next i l).within (c.next i l).some
