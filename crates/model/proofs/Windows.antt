-- Windows and intervals of an order: a moment inside a dose's window lies in an interval where the dose is active, so every set of doses has open fan time.
use mathlib.Core.Logic.{inl, inr}
use mathlib.Core.Path.{◌≡◌, ap}
use Prim.Native.Nat.{ℕ, zero, suc, ◌+◌, ◌*◌, ◌≤◌, ◌<◌}
use native.Mathlib.Nat.{eq-or-lt_of_le, mul-le-mul_left, mul-pos}
use native.Mathlib.Numerals.{add-one}
use native.Mathlib.Omega.{arith}
use lib.Dec.{T, leb, le→leb}
use lib.ListN.{length}
use Rattle.model.specs.Sets.{Doses, Nonempty, on}
use Rattle.model.specs.Orders.{Order, dose_at}
use Rattle.model.specs.Classes.{P, open_fans}
use Rattle.model.specs.Intervals.{active_at, fans_present, instant_at, instants, interval_count, setting_of}
use Rattle.model.proofs.Sums.{le_sum}
use Rattle.model.proofs.Sets.{and_both, le_weight, on_yes}
use Rattle.model.proofs.FanTime.{Heavy}
use Rattle.model.proofs.Fractions.{compare≤}
use Rattle.model.proofs.Orders.{Fit}
use Rattle.model.proofs.Intervals.{beside_deadline, beside_release, deadline_instant, instants_rise, instants_sorted, release_instant}
use Rattle.model.proofs.Lists.{Pairs-at}

-- a number from f a up to f b lies between two neighbours
locate : (f : ℕ → ℕ) (x a b : ℕ) → a ≤ b → f a ≤ x → x < f b → (j : ℕ) × (j < b) × (f j ≤ x) × (x < f (suc j))
locate f x a zero l h g = let e : a ≡ 0 = omega arith in absurd (omega (arith, ap f e))
locate f x a (suc b) l h g =
    let ih = locate f x a b in
    elim (compare≤ (f b) x) [
      | inl q ↦ (b, omega arith, q, g)
      | inr q ↦ elim (eq-or-lt_of_le l) [
        | inl e ↦ absurd (omega (arith, ap f e))
        | inr m ↦ let r = ih (omega arith) h q in (r.0, omega (arith, r.1), r.2, r.3)
      ]
    ]

module _ (o : Order) where
  -- later instants are no earlier
  instants_up : (i j : ℕ) → i ≤ j → j < length (instants o.doses) → instant_at o i ≤ instant_at o j
  instants_up i j l q = elim (eq-or-lt_of_le l) [
    | inl e ↦ rw e (omega arith)
    | inr m ↦ omega (arith, Pairs-at 0 (instants_sorted o.doses) i j m q)
  ]

  -- no window opens before the first instant
  pub first_instant : (k : ℕ) → k < length o.doses → instant_at o 0 ≤ (dose_at o k).release
  first_instant k l = let r = release_instant o k l in omega (arith, r.2, instants_up 0 r.0 (omega arith) r.1)

  -- and none closes after the last
  pub last_instant : (k : ℕ) → k < length o.doses → (dose_at o k).deadline ≤ instant_at o (interval_count o)
  last_instant k l =
      let r = deadline_instant o k l in
      omega (arith, r.2, instants_up r.0 (interval_count o) (omega (arith, r.1)) (omega (arith, r.1)))

  module _ (k : ℕ) (kl : k < length o.doses) (q x : ℕ) (opened : q * (dose_at o k).release ≤ x) (closes : x < q * (dose_at o k).deadline) where
    -- a dose is active in the interval of a moment x/q inside its window
    pub active_there : (j : ℕ) → j < interval_count o → q * instant_at o j ≤ x → x < q * instant_at o (j + 1) → T (active_at o k j)
    active_there j l low high =
        and_both (leb (dose_at o k).release (instant_at o j)) (leb (instant_at o (j + 1)) (dose_at o k).deadline)
        (le→leb (dose_at o k).release (instant_at o j) (elim (beside_release o k j kl l) [
          | inl h ↦ h
          | inr h ↦ absurd (omega (arith, mul-le-mul_left q h))
        ]))
        (le→leb (instant_at o (j + 1)) (dose_at o k).deadline (elim (beside_deadline o k j kl l) [
          | inl h ↦ absurd (omega (arith, mul-le-mul_left q h))
          | inr h ↦ h
        ]))

    -- and there is such an interval
    pub moment_interval : (j : ℕ) × (j < interval_count o) × (q * instant_at o j ≤ x) × (x < q * instant_at o (j + 1))
    moment_interval =
        let a = release_instant o k kl in
        let b = deadline_instant o k kl in
        let r = locate (λ j. q * instant_at o j) x 0 b.0 (omega arith) (omega (arith, mul-le-mul_left q (first_instant k kl))) (rw b.2 closes) in
        (r.0, omega (arith, r.1, b.1), r.2, rw (add-one r.0) r.3)

  module _ (fit : Fit o) where
    -- every dose weighs
    pub heavy : Heavy (setting_of o)
    heavy = fit.some_grams

    -- "windows and fans are at least 1": every set of doses has open fan time at the start
    pub starts_open : (B : Doses) → Nonempty (setting_of o).doses B → 0 < P (setting_of o) (fans_present o) B
    unfolding P open_fans
    starts_open B (k, l, t) =
        let r = moment_interval k l 1 (dose_at o k).release (omega arith) (omega (arith, fit.window k l)) in
        let j = r.0 in
        let act = active_there k l 1 (dose_at o k).release (omega arith) (omega (arith, fit.window k l)) j r.1 r.2 r.3 in
        let one : 1 ≤ open_fans (setting_of o) (fans_present o) B j =
        omega (arith, le_weight (setting_of o).doses (λ k. on (active_at o k j) 1) B k l t, on_yes (active_at o k j) 1 act, fit.fans_least) in
        omega (
          arith,
          le_sum (interval_count o) (λ j. (setting_of o).len j * open_fans (setting_of o) (fans_present o) B j) j r.1,
          mul-pos {m = (setting_of o).len j} {n = open_fans (setting_of o) (fans_present o) B j} (omega (arith, instants_rise o j r.1)) one,
        )
