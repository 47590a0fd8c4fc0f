-- The class numbers of the doses, slot by slot. Assumes nothing.
use mathlib.Core.Path.{◌≡◌, ◌∙◌, ap, sym}
use mathlib.Core.Logic.{◌≢◌}
use mathlib.Core.List.{List}
use Prim.Native.Nat.{ℕ, zero, suc, ◌+◌, ◌-◌, ◌<◌, ◌≤◌}
use native.Mathlib.Omega.{arith}
use borrow.Author.Tests.{eq-eqb, ne_eqb}
use lib.Dec.{eqb}
use lib.ListN.{length, get_or, get_or-replicate, replicate}
use Rattle.model.specs.Limits.{most_doses}
use Rattle.model.specs.Records.{pick}
use Rattle.model.specs.Plans as plans
use Rattle.steps.proofs.Tests.{alike}
use Rattle.steps.proofs.Arrays.{filled_one}
use Rattle.records.specs.declared.plan_records.Slot.{Slot}
use Rattle.records.specs.Held.{as_slot}
use Rattle.records.specs.Plan.{slot_in}
use Rattle.judge_clauses.specs.Tests.{ClassNumbers, number_of}

-- ---- the number of one dose

module _ (b : List ℕ) (p k : ℕ) where
  number_none : number_of b p k (p - p) ≡ 0
  unfolding number_of
  number_none = ap (number_of b p k) (let e : p - p ≡ 0 = omega arith in e)

  -- slot i is the next behind those from record p on
  number_next : (i : ℕ) → p ≤ i → number_of b p k (i + 1 - p) ≡ pick (eqb (slot_in b i).dose k) (slot_in b i).class (number_of b p k (i - p))
  unfolding number_of
  number_next i g =
      ap (number_of b p k) (let e : i + 1 - p ≡ suc (i - p) = omega arith in e)
      ∙ ap (λ (l : ℕ). pick (eqb (slot_in b l).dose k) (slot_in b l).class (number_of b p k (i - p))) (let e : p + (i - p) ≡ i = omega arith in e)

  -- a dose with a slot has the number of one of its slots
  number_named : (n i : ℕ) → i < n → (slot_in b (p + i)).dose ≡ k
      → (l : ℕ) × (l < n) × ((slot_in b (p + l)).dose ≡ k) × ((slot_in b (p + l)).class ≡ number_of b p k n)
  unfolding number_of
  number_named zero i h e = absurd (omega arith)
  number_named (suc n) i h e = alike (slot_in b (p + n)).dose k
      (λ same. (n, omega arith, same, rw (eq-eqb (slot_in b (p + n)).dose k same)))
      (λ other.
      let w = number_named n i (alike i n (λ z. absurd (other (ap (λ (l : ℕ). (slot_in b (p + l)).dose) (sym z) ∙ e))) (λ z. omega arith)) e in
      (w.0, omega (arith, w.1), w.2, rw (ne_eqb (slot_in b (p + n)).dose k other) w.3))

-- ---- the numbers of all

pub numbers_none : (b : List ℕ) (p : ℕ) → ClassNumbers b p p (replicate most_doses 0)
numbers_none b p = record { each = λ k h. get_or-replicate most_doses k 0 0 h ∙ sym (number_none b p k) }

-- one slot more
pub numbers_more : (b : List ℕ) (p i : ℕ) (N N' : List ℕ) (s : Slot) → as_slot s ≡ slot_in b i → ClassNumbers b p i N
    → (s.dose < most_doses → get_or N' s.dose 0 ≡ s.class) → ((k : ℕ) → k ≢ s.dose → get_or N' k 0 ≡ get_or N k 0) → p ≤ i → ClassNumbers b p (i + 1) N'
numbers_more b p i N N' s e n own others g = record { each = λ k h. each k h ∙ sym (number_next b p k i g) }
  where
    dose : (slot_in b i).dose ≡ s.dose
    dose = ap (λ (x : plans.Slot). x.dose) (sym e)

    class : (slot_in b i).class ≡ s.class
    class = ap (λ (x : plans.Slot). x.class) (sym e)

    each : (k : ℕ) → k < most_doses → get_or N' k 0 ≡ pick (eqb (slot_in b i).dose k) (slot_in b i).class (number_of b p k (i - p))
    each k h = alike k s.dose
        (λ same. rw (eq-eqb (slot_in b i).dose k (dose ∙ sym same)) (ap (λ (d : ℕ). get_or N' d 0) same ∙ own (omega arith) ∙ sym class))
        (λ other. rw (ne_eqb (slot_in b i).dose k (λ z. other (sym z ∙ dose))) (others k other ∙ n.each k h))

-- every dose that has a slot has the class number of one of its slots
pub numbers_named : {b : List ℕ} {p e : ℕ} {N : List ℕ} → ClassNumbers b p e N → (i : ℕ) → i < e → p ≤ i → (slot_in b i).dose < most_doses
    → (l : ℕ) × (l < e) × (p ≤ l) × ((slot_in b l).dose ≡ (slot_in b i).dose) × ((slot_in b l).class ≡ get_or N (slot_in b i).dose 0)
numbers_named {b} {p} {e} n i h g d =
    let w = number_named b p (slot_in b i).dose (e - p) (i - p) (omega arith) (ap (λ (l : ℕ). (slot_in b l).dose) (let z : p + (i - p) ≡ i = omega arith in z)) in
    (p + w.0, omega (arith, w.1), omega arith, w.2, w.3 ∙ sym (n.each (slot_in b i).dose d))

-- two answers of `class_numbers` are one array
pub numbers_one : {b : List ℕ} {p e : ℕ} {N N' : List ℕ} → length N ≡ most_doses → length N' ≡ most_doses → ClassNumbers b p e N → ClassNumbers b p e N' → N ≡ N'
numbers_one l l' n m = filled_one 0 most_doses l l' n.each m.each
