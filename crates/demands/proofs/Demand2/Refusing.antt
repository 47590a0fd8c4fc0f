-- Refusal 9 and free plans: an order that is read has a plan within the top rate, or a first class above it.
use mathlib.Core.Logic.{◌⊎◌, inl, inr}
use mathlib.Core.Path.{◌≡◌, refl, subst}
use mathlib.Core.List.{List}
use Prim.Native.Nat.{ℕ, ◌*◌, ◌<◌}
use native.Mathlib.Nat.{eq-zero-or-pos}
use native.Mathlib.Omega.{arith}
use lib.Dec.{T, lt→ltb, ltb→lt}
use Rattle.model.specs.Sets.{Doses}
use Rattle.model.specs.Records.{read}
use Rattle.model.specs.Orders.{Order, read_order}
use Rattle.model.specs.Classes.{Classes, P, W, free, remaining}
use Rattle.model.specs.Intervals.{fans_present, setting_of}
use Rattle.model.specs.Layout.{slots_of}
use Rattle.model.specs.FreePlans.{FreePlan}
use Rattle.model.specs.Answers.{Answer, FirstClass, Refuses, above, above_top, too_fast, unread}
use Rattle.model.proofs.Fractions.{compare≤}
use Rattle.model.proofs.Orders.{Fit}
use Rattle.model.proofs.Laid.{laid_stand}
use Rattle.demands.proofs.Existence.{classes_of_lem, shares_of}
use Rattle.demands.proofs.Demand2.FreePieces.{free_plan, none_above}

-- the first of the classes is the first class
pub first_class : (o : Order) (p : ℕ) (C : ℕ → Doses) → Classes (setting_of o) (fans_present o) p C → 0 < p → FirstClass o (C 0)
unfolding free remaining
first_class o p C c l = c.next 0 l

-- the first class is above the top: no plan is within it
pub above_none : (o : Order) (A : Doses) → T (above_top o A) → FreePlan o → ⊥
above_none o A t = none_above o A (ltb→lt (P (setting_of o) (fans_present o) A * o.top_grams) (W (setting_of o) A * o.top_seconds) t)

-- a first class that is above the top
pub record TooFast (o : Order) : Type 0 where
  pub set : Doses
  pub first : FirstClass o set
  pub too_fast : T (above_top o set)

-- an order that is read and refused has one, and it is what the refusal names
pub refused_names : {last : ℕ} (order : List ℕ) (o : Order) → read_order last order ≡ read o → (a : Answer) → Refuses last order a → (f : TooFast o) × (a ≡ too_fast o f.set)
refused_names order o e a (unread number place g) = let z : ◌≡◌ {A = ℕ} 0 1 = cc in absurd (omega arith)
refused_names order o e a (above o' A g first t) =
    let same : o' ≡ o = cc in
    subst (λ (x : Order). (f : TooFast x) × (too_fast o' A ≡ too_fast x f.set)) same (record { set = A; first = first; too_fast = t }, refl)

-- an order that fits has a plan within the top rate, or a first class above it
pub free_or_above : (o : Order) → Fit o → FreePlan o ⊎ TooFast o
free_or_above o fit =
    let r = classes_of_lem o fit in
    let p = r.0 in
    let C = r.1 in
    let c = r.2 in
    let v = shares_of o p C c in
    let plan = free_plan o fit p C c (slots_of o p C v.0) (laid_stand o fit p C c v.0 v.1) in
    elim (eq-zero-or-pos p) [
      | inl z ↦ inl (plan (λ l. absurd (omega arith)))
      | inr l ↦ elim (compare≤ (W (setting_of o) (C 0) * o.top_seconds) (P (setting_of o) (fans_present o) (C 0) * o.top_grams)) [
        | inl h ↦ inl (plan (λ q. h))
        | inr h ↦ inr (record {
          set = C 0;
          first = first_class o p C c l;
          too_fast = lt→ltb (P (setting_of o) (fans_present o) (C 0) * o.top_grams) (W (setting_of o) (C 0) * o.top_seconds) h;
        })
      ]
    ]
