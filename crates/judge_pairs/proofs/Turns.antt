-- Slots in turn, and the slots of one interval, as the loops over them see it.
use mathlib.Core.Path.{◌≡◌, ◌∙◌, ap, refl}
use mathlib.Core.Logic.{inl, inr}
use mathlib.Core.List.{List}
use Prim.Native.Nat.{ℕ, zero, suc, ◌+◌, ◌-◌, ◌/◌, ◌<◌, ◌≤◌}
use native.Mathlib.Nat.{eq-or-lt_of_le}
use native.Mathlib.Omega.{arith}
use lib.ListN.{get_or, length}
use Rattle.model.specs.Records.{record_size}
use Rattle.model.specs.Plans.{Slot}
use Rattle.model.proofs.Fractions.{compare≤}
use Rattle.steps.proofs.Tests.{below_or}
use Rattle.records.specs.Plan.{slot_in}
use Rattle.judge_clauses.specs.Tests.{Apart, ApartAfter, InTurn, SlotsReady, by_fan, by_interval, by_time, place_in, scan}
use Rattle.judge_slots.proofs.Places.{scan_none, scan_on, scan_stop}

module _ {instants : List ℕ} {intervals : ℕ} {s u : Slot} where
  -- intervals never go back
  pub turn_place : InTurn instants intervals s u → place_in instants intervals s ≤ place_in instants intervals u
  turn_place (by_interval a) = omega arith
  turn_place (by_fan e a) = omega arith
  turn_place (by_time e f a) = omega arith

-- ---- the interval of a tick

module _ (instants : List ℕ) (t : ℕ) where
  scan_ends : (n j : ℕ) → scan instants t j n < j + n → t < get_or instants (scan instants t j n + 1) 0
  scan_ends zero j l = absurd (omega (arith, none j))
    where
      none : (j : ℕ) → scan instants t j zero ≡ j
      none j = scan_none instants t j zero refl
  scan_ends (suc n) j l = elim (compare≤ (get_or instants (j + 1) 0) t) [
    | inl g ↦
        let e : suc n - 1 ≡ n = omega arith in
        let q : scan instants t j (suc n) ≡ scan instants t (j + 1) n = rw e at (scan_on instants t j (suc n) (omega arith) g) in
        rw q (scan_ends n (j + 1) (omega (arith, q)))
    | inr g ↦ rw (scan_stop instants t j (suc n) (omega arith) g) g
  ]

  scan_below : (n j i : ℕ) → j ≤ i → i < j + n → t < get_or instants (i + 1) 0 → scan instants t j n ≤ i
  scan_below zero j i a b l = absurd (omega arith)
  scan_below (suc n) j i a b l = elim (compare≤ (get_or instants (j + 1) 0) t) [
    | inl g ↦ elim (eq-or-lt_of_le a) [
      | inl x ↦ absurd (omega (arith, ap (λ (y : ℕ). get_or instants (y + 1) 0) x))
      | inr x ↦
          let e : suc n - 1 ≡ n = omega arith in
          let q : scan instants t j (suc n) ≡ scan instants t (j + 1) n = rw e at (scan_on instants t j (suc n) (omega arith) g) in
          omega (arith, q, scan_below n (j + 1) i (omega arith) (omega arith) l)
    ]
    | inr g ↦ omega (arith, scan_stop instants t j (suc n) (omega arith) g)
  ]

-- ---- the slots behind slot i

-- s is slot i of a plan whose slots are in turn, and j its interval; u is a later slot, l
pub record Behind (instants : List ℕ) (intervals : ℕ) (plan : List ℕ) (p i l : ℕ) (s u : Slot) (j : ℕ) : Type 0 where
  pub ready : SlotsReady instants intervals plan p
  pub from : p ≤ i
  pub later : i < l
  pub within : l < length plan / record_size
  pub slot : s ≡ slot_in plan i
  pub place : j ≡ place_in instants intervals s
  pub next : u ≡ slot_in plan l

module _ {instants : List ℕ} {intervals : ℕ} {plan : List ℕ} {p i l : ℕ} {s u : Slot} {j : ℕ} (b : Behind instants intervals plan p i l s u j) where
  abbrev at : ℕ → ℕ
  at k = place_in instants intervals (slot_in plan k)

  at_own : j ≡ at i
  at_own = b.place ∙ ap (place_in instants intervals) b.slot

  sorted : at i ≤ at l
  sorted = b.ready.sorted i l b.from b.later b.within

  -- u starts at or after the end of the interval: it and all behind it lie in later intervals
  past_interval : get_or instants (j + 1) 0 ≤ u.start_tick → (k : ℕ) → l ≤ k → k < length plan / record_size → at i ≡ at k → ⊥
  past_interval h k lk km e =
      let up : at l ≤ at k = elim (eq-or-lt_of_le lk) [ inl q ↦ rw q (omega arith) | inr q ↦ b.ready.sorted l k (omega (arith, b.from, b.later)) q km ] in
      let same : at l ≡ j = omega (arith, sorted, at_own) in
      let in_place : at l < intervals = b.ready.place l b.within (omega (arith, b.from, b.later)) in
      let before = scan_ends instants (slot_in plan l).start_tick intervals 0 (omega arith) in
      omega (arith, ap (λ (y : ℕ). get_or instants (y + 1) 0) same, ap (λ (x : Slot). x.start_tick) b.next)

  pub apart_past : get_or instants (j + 1) 0 ≤ u.start_tick → ApartAfter instants intervals plan i l → ApartAfter instants intervals plan i (length plan / record_size)
  apart_past h a = record { apart = λ k km ik q. below_or k l (λ g. a.apart k g ik q) (λ g. absurd (past_interval h k g km q)) }

  -- u starts before: it lies in the interval, and is apart where s is apart from all behind it
  pub apart_within : u.start_tick < get_or instants (j + 1) 0 → ApartAfter instants intervals plan i (length plan / record_size) → Apart s u
  apart_within h a =
      let own : at i < intervals = b.ready.place i (omega (arith, b.later, b.within)) b.from in
      let ends : (slot_in plan l).start_tick < get_or instants (at i + 1) 0 = rw (b.next, at_own) at h in
      let up = scan_below instants (slot_in plan l).start_tick intervals 0 (at i) (omega arith) (omega arith) ends in
      rw (b.slot, b.next) (a.apart l b.within b.later (omega (arith, sorted)))
