-- What the slots of each dose come to, slot by slot.
use mathlib.Core.Path.{◌∙◌, ◌≡◌, ap, refl, sym}
use mathlib.Core.Bool.{Bool}
use mathlib.Core.List.{List}
use Prim.Native.Nat.{ℕ, suc, ◌+◌, ◌-◌, ◌*◌, ◌<◌, ◌≤◌}
use native.Mathlib.Omega.{arith}
use borrow.Author.Tests.{eq-eqb, ne_eqb}
use lib.ListN.{get_or, get_or-replicate, length, length-set, replicate, set}
use lib.Seq.{get_or-set_other, get_or-set_same}
use Rattle.model.specs.Limits.{most_doses}
use Rattle.model.specs.Sets.{sum}
use Rattle.model.specs.Plans.{Slot}
use Rattle.model.specs.Stands.{ends, starts, units_of}
use Rattle.model.proofs.Sums.{sum_up}
use Rattle.steps.proofs.Tests.{alike}
use Rattle.records.specs.Plan.{slot_in}
use Rattle.judge_clauses.specs.Tests.{Counts, Tells, need_in, units_up_to}
use Rattle.judge_clauses.proofs.Tell.{tells_by}

module _ (plan : List ℕ) (p : ℕ) where
  units_none : (k : ℕ) → units_up_to plan p p k ≡ 0
  unfolding sum
  units_none k = let e : p - p ≡ 0 = omega arith in rw e

  units_more : (i k : ℕ) → p ≤ i → units_up_to plan p (i + 1) k ≡ units_up_to plan p i k + units_of k (slot_in plan i)
  unfolding sum
  units_more i k l =
      let e : i + 1 - p ≡ suc (i - p) = omega arith in
      let z : p + (i - p) ≡ i = omega arith in
      rw e (rw z)

  -- they only grow
  units_up : (i e k : ℕ) → i ≤ e → units_up_to plan p i k ≤ units_up_to plan p e k
  units_up i e k l = sum_up (λ x. units_of k (slot_in plan (p + x))) (i - p) (e - p) (omega arith)

own_units : (k : ℕ) (s : Slot) → k ≡ s.dose → units_of k s ≡ ends s - starts s
own_units k s e = rw (eq-eqb k s.dose e)

no_units : (k : ℕ) (s : Slot) → (k ≡ s.dose → ⊥) → units_of k s ≡ 0
no_units k s e = rw (ne_eqb k s.dose e)

-- the sums of the slots up to record i, none above its need
pub record Summed (grams : ℕ → ℕ) (plan numbers : List ℕ) (doses p i : ℕ) (sums : List ℕ) : Type 0 where
  pub size : length sums ≡ most_doses
  pub from : p ≤ i
  pub total : (k : ℕ) → k < doses → get_or sums k 0 ≡ units_up_to plan p i k
  pub below : (k : ℕ) → k < doses → get_or sums k 0 ≤ need_in grams plan numbers k

pub summed_none : (grams : ℕ → ℕ) (plan numbers : List ℕ) (doses p : ℕ) → doses ≤ most_doses → Summed grams plan numbers doses p p (replicate most_doses 0)
summed_none grams plan numbers doses p few = record {
  size = refl;
  from = omega arith;
  total = λ k l. none k l ∙ sym (units_none plan p k);
  below = λ k l. omega (arith, none k l);
}
  where
    none : (k : ℕ) → k < doses → get_or {A = ℕ} (replicate most_doses 0) k 0 ≡ 0
    none k l = get_or-replicate most_doses k 0 0 (omega arith)

-- where all slots are counted, the sums tell what the slots come to
pub tells_summed : {grams : ℕ → ℕ} {plan numbers : List ℕ} {doses p i : ℕ} {sums : List ℕ} {m : ℕ} {r : Bool} → Summed grams plan numbers doses p i sums → i ≡ m
    → Tells r ((k : ℕ) → k < doses → get_or sums k 0 ≡ need_in grams plan numbers k)
    → Tells r ((k : ℕ) → k < doses → units_up_to plan p m k ≡ need_in grams plan numbers k)
tells_summed h e t =
    tells_by t (λ met k l. sym (rw e at (h.total k l)) ∙ met k l) (λ all k l. (rw e at (h.total k l)) ∙ all k l)

-- the slots up to record i are summed, slot s is record i, and its dose needs `need`
pub record SlotRead (grams : ℕ → ℕ) (plan numbers : List ℕ) (doses p i : ℕ) (sums : List ℕ) (s : Slot) (need : ℕ) : Type 0 where
  pub so_far : Summed grams plan numbers doses p i sums
  pub slot : s ≡ slot_in plan i
  pub counts : Counts doses plan numbers s
  pub needs : need ≡ grams s.dose * s.time

module _ {grams : ℕ → ℕ} {plan numbers : List ℕ} {doses p i : ℕ} {sums : List ℕ} {s : Slot} {need : ℕ} (r : SlotRead grams plan numbers doses p i sums s need) where
  need_is : need ≡ need_in grams plan numbers s.dose
  need_is = r.needs ∙ ap (λ (x : ℕ). grams s.dose * x) r.counts.time

  grown : units_up_to plan p (i + 1) s.dose ≡ get_or sums s.dose 0 + (ends s - starts s)
  grown =
      let own : units_of s.dose (slot_in plan i) ≡ ends s - starts s = ap (units_of s.dose) (sym r.slot) ∙ own_units s.dose s refl in
      omega (arith, units_more plan p i s.dose r.so_far.from, r.so_far.total s.dose r.counts.dose)

  not_grown : (k : ℕ) → (k ≡ s.dose → ⊥) → units_up_to plan p (i + 1) k ≡ units_up_to plan p i k
  not_grown k other =
      let none : units_of k (slot_in plan i) ≡ 0 = ap (units_of k) (sym r.slot) ∙ no_units k s other in
      omega (arith, units_more plan p i k r.so_far.from)

  -- a sum above its need stays above it
  pub over_need : need < get_or sums s.dose 0 + (ends s - starts s) → (m : ℕ) → i < m → ((k : ℕ) → k < doses → units_up_to plan p m k ≡ need_in grams plan numbers k) → ⊥
  over_need l m im all = omega (arith, all s.dose r.counts.dose, need_is, grown, units_up plan p (i + 1) m s.dose (omega arith))

  -- one slot more: the sum of its dose alone is another
  pub summed_more : doses ≤ most_doses → get_or sums s.dose 0 + (ends s - starts s) ≤ need
      → Summed grams plan numbers doses p (i + 1) (set sums s.dose (get_or sums s.dose 0 + (ends s - starts s)))
  summed_more few l = record {
    size = simp length-set r.so_far.size;
    from = omega (arith, r.so_far.from);
    total = λ k kd. alike k s.dose (λ q. rw q (own ∙ sym grown)) (λ q. others k q ∙ r.so_far.total k kd ∙ sym (not_grown k q));
    below = λ k kd. alike k s.dose (λ q. rw q (omega (arith, own, need_is))) (λ q. omega (arith, others k q, r.so_far.below k kd));
  }
    where
      new : ℕ
      new = get_or sums s.dose 0 + (ends s - starts s)

      own : get_or (set sums s.dose new) s.dose 0 ≡ new
      own = get_or-set_same sums s.dose new 0 (omega (arith, r.so_far.size, r.counts.dose))

      others : (k : ℕ) → (k ≡ s.dose → ⊥) → get_or (set sums s.dose new) k 0 ≡ get_or sums k 0
      others k q = get_or-set_other sums s.dose k new 0 q
