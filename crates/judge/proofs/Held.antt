-- The arrays in which an order is held have its W, its open fan time and its instants.
use mathlib.Core.Path.{◌≡◌, refl}
use mathlib.Core.Logic.{inl, inr}
use Prim.Native.Nat.{ℕ, ◌+◌, ◌≤◌}
use native.Mathlib.Nat.{eq-or-lt_of_le}
use native.Mathlib.Omega.{arith}
use lib.ListN.{get_or}
use Rattle.model.specs.Sets.{Doses, weight}
use Rattle.model.specs.Orders.{Order}
use Rattle.model.specs.Classes.{W, class_p}
use Rattle.model.specs.Intervals.{fans_present, setting_of}
use Rattle.model.proofs.Same.{Agree, weight_same, W-same, class_time_same}
use Rattle.model.proofs.Lists.{Pairs-at}
use Rattle.model.proofs.Intervals.{instants_sorted}
use Rattle.judge_clauses.specs.Tests.{OrderHeld, HeldFrom, fans_held, setting_in}

module _ (o : Order) (h : OrderHeld) (sh : HeldFrom o h) where
  -- their setting is the order's
  agree : Agree (setting_in h) (setting_of o)
  agree = record {
    doses = sh.doses;
    intervals = sh.intervals;
    active = λ k j l q. rw (sh.release k l, sh.deadline k l, sh.instants j (omega arith), sh.instants (j + 1) (omega arith));
    len = λ j q. omega (arith, sh.instants j (omega arith), sh.instants (j + 1) (omega arith));
    grams = sh.grams;
  }

  -- as many doses in a set
  pub same_size : (A : Doses) → weight h.doses (λ k. 1) A ≡ weight (setting_of o).doses (λ k. 1) A
  same_size A = weight_same (setting_in h) (setting_of o) agree (λ k. 1) (λ k. 1) A A (λ k l. refl) (λ k l. refl)

  -- the same W
  pub same_weight : (A : Doses) → W (setting_in h) A ≡ W (setting_of o) A
  same_weight A = W-same (setting_in h) (setting_of o) agree A A (λ k l. refl)

  -- the same P
  pub same_time : (C : ℕ → Doses) (i : ℕ) → class_p (setting_in h) (fans_held h) C i ≡ class_p (setting_of o) (fans_present o) C i
  same_time = class_time_same (setting_in h) (setting_of o) agree (fans_held h) (fans_present o) (λ j q. sh.fans)

  -- instants rise
  pub instants_up : (i j : ℕ) → i ≤ j → j ≤ h.intervals → get_or h.instants i 0 ≤ get_or h.instants j 0
  instants_up i j l q = elim (eq-or-lt_of_le l) [
    | inl e ↦ rw e (omega arith)
    | inr m ↦ omega (arith, sh.instants i (omega arith), sh.instants j q, sh.intervals, Pairs-at 0 (instants_sorted o.doses) i j m (omega (arith, sh.intervals)))
  ]
