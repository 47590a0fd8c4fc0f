-- Where the shares are forced, no other slots are possible: two valid shares of a class that passes the computed test agree, and an order
-- whose classes pass has one plan. Assumes nothing.
use mathlib.Core.Path.{◌≡◌, refl, sym, ap, ap₂, ◌∙◌}
use mathlib.Core.Bool.{Bool, true, false}
use mathlib.Core.List.{List}
use Prim.Native.Nat.{ℕ, ◌-◌, ◌≤◌, ◌<◌, min}
use native.Mathlib.Omega.{arith}
use lib.Dec.{T, leb→le}
use lib.ListN.{length}
use Rattle.model.specs.Limits.{last_open_bay, plan_room}
use Rattle.model.specs.Sets.{Doses, sum}
use Rattle.model.specs.Orders.{Order}
use Rattle.model.specs.Classes.{Setting, Row, Classes, free}
use Rattle.model.specs.Intervals.{setting_of, fans_present}
use Rattle.model.specs.Shares.{need, room, Valid}
use Rattle.model.specs.Layout.{slots_of}
use Rattle.model.specs.Answers.{done, Accepts, Planned, ValidShares, plan_bytes, overwritten, Plans}
use Rattle.model.specs.CaseTests.{all_below, most, forced_test}
use Rattle.model.proofs.Sums.{le_sum, sum_le_without}
use Rattle.model.proofs.Sets.{Alike}
use Rattle.model.proofs.Same.{agree_refl, valid_same}
use Rattle.model.proofs.Sequence.{classes_unique, count_unique, free_alike}
use Rattle.model.proofs.Orders.{read_fits}
use Rattle.model.proofs.Planner.{plan_length}
use Rattle.model.proofs.Answers.{one_order, plan_settled, refused_not_accepted}
use Rattle.demands.proofs.Cases.Laws.{all_below_lem}

module _ (S : Setting) (row : Row) (A : Doses) where
  open S use {doses as n, intervals as J}

  -- ---- a share of a dose of A lies between two bounds

  module _ (x : ℕ → ℕ → ℕ) (v : Valid S row A x) (k : ℕ) (l : k < n) where
    at_most : (j : ℕ) → j < J → x k j ≤ most S row A k j
    unfolding most
    at_most j q = omega (arith, v.roomy k j l q, le_sum n (λ k. x k j) k l, v.full j q)

    module _ (a : T (A k)) (j : ℕ) (q : j < J) where
      upper : x k j ≤ min (most S row A k j) (need S row A k)
      upper = omega (arith, at_most j q, le_sum J (x k) j q, v.met k l a)

      lower : need S row A k - (sum J (most S row A k) - most S row A k j) ≤ x k j
      lower = omega (arith, sum_le_without J at_most j q, v.met k l a)

  -- the bounds meet where the test passes, and a dose outside A has no share
  pub forced_shares : T (all_below n (forced_test S row A)) → (x y : ℕ → ℕ → ℕ) → Valid S row A x → Valid S row A y
      → (k j : ℕ) → k < n → j < J → x k j ≡ y k j
  unfolding forced_test
  forced_shares t x y v w k j l q = go (A k) refl
    where
      meet : min (most S row A k j) (need S row A k) ≤ need S row A k - (sum J (most S row A k) - most S row A k j)
      meet = leb→le _ _ (all_below_lem J _ (all_below_lem n (forced_test S row A) t k l) j q)

      go : (b : Bool) → A k ≡ b → x k j ≡ y k j
      go true e =
          let a : T (A k) = rw e tt in
          omega (arith, meet, upper x v k l a j q, lower x v k l a j q, upper y w k l a j q, lower y w k l a j q)
      go false e =
          let none : room S row A k j ≡ 0 = rw e in
          omega (arith, none, v.roomy k j l q, w.roomy k j l q)

-- ---- one plan

module _ (order : List ℕ) (o : Order) (a : Accepts last_open_bay order o) (p : ℕ) (C : ℕ → Doses) (c : Classes (setting_of o) (fans_present o) p C)
    (x : ℕ → ℕ → ℕ → ℕ) (v : ValidShares o p C x)
    (forced : (i : ℕ) → i < p → T (all_below (setting_of o).doses (forced_test (setting_of o) (free (setting_of o) (fans_present o) C i) (C i)))) where
  abbrev S : Setting
  S = setting_of o

  -- what is planned, and what other classes and shares would give
  abbrev this : Planned
  this = record { answer = done; classes = p; slots = length (slots_of o p C x) }

  module _ (C' : ℕ → Doses) (c' : Classes S (fans_present o) p C') (x' : ℕ → ℕ → ℕ → ℕ) (v' : ValidShares o p C' x') where
    same_set : (i : ℕ) → i < p → Alike S.doses (C' i) (C i)
    same_set i l = classes_unique S (fans_present o) p p C' C c' c i l l

    same_share : (i k j : ℕ) → i < p → k < S.doses → j < S.intervals → x i k j ≡ x' i k j
    same_share i k j l =
        let v'' = valid_same S S (agree_refl S) (free S (fans_present o) C' i) (free S (fans_present o) C i)
        (λ j q. free_alike S (fans_present o) C' C i (λ h r. same_set h (omega arith)) j) (C' i) (C i) (same_set i l) (x' i) (x' i) (λ k j l q. refl) (v' i l) in
        forced_shares S _ (C i) (forced i l) (x i) (x' i) (v i l) v'' k j

    same_bytes : plan_bytes o p C' x' ≡ plan_bytes o p C x
    same_bytes = sym (plan_settled o p C C' c c' x x' same_share)

    -- bytes of one length have as many slots
    same_count : length (slots_of o p C' x') ≡ length (slots_of o p C x)
    same_count =
        let fit = read_fits last_open_bay order o a.reads in
        omega (arith, plan_length o fit p C c x v, plan_length o fit p C' c' x' v', ap (λ (b : List ℕ). length b) same_bytes)

  -- planning with room answers and leaves this alone
  pub one_plan : (before : List ℕ) → plan_room ≤ length before → (r : Planned) (after : List ℕ) → Plans order before r after
      → (r ≡ this) × (after ≡ overwritten before (plan_bytes o p C x))
  one_plan before room r after (Plans.no_room s) = absurd (omega arith)
  one_plan before room r after (Plans.refuses w b q) = absurd (refused_not_accepted q a)
  one_plan before room r after (Plans.plans w o' a' p' C' c' x' v') =
      let same_o : o' ≡ o = one_order a' a in
      let c'' : Classes S (fans_present o) p' C' = rw same_o at c' in
      let same_p : p' ≡ p = count_unique S (fans_present o) p' p C' C c'' c in
      let c''' : Classes S (fans_present o) p C' = rw same_p at c'' in
      let v''' : ValidShares o p C' x' = rw (same_o, same_p) at v' in
      let slots : length (slots_of o' p' C' x') ≡ length (slots_of o p C x) =
      ap₂ (λ (o : Order) (p : ℕ). length (slots_of o p C' x')) same_o same_p ∙ same_count C' c''' x' v''' in
      let bytes : plan_bytes o' p' C' x' ≡ plan_bytes o p C x = ap₂ (λ (o : Order) (p : ℕ). plan_bytes o p C' x') same_o same_p ∙ same_bytes C' c''' x' v''' in
      (λ t. record { answer = done; classes = same_p t; slots = slots t }, ap (overwritten before) bytes)
