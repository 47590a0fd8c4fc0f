-- The slots of a plan that stands: what each names, and that two at one moment have two fans and two doses.
use mathlib.Core.Logic.{inl, inr}
use mathlib.Core.Path.{◌∙◌, ◌≡◌, subst}
use mathlib.Core.List.{List}
use Prim.Native.Nat.{ℕ, ◌+◌, ◌<◌}
use native.Mathlib.Nat.{mul-le-mul_left, mul-lt-mul_of_pos_left}
use native.Mathlib.Omega.{arith}
use lib.Dec.{T}
use lib.ListN.{length, get_or}
use Rattle.model.specs.Sets.{Doses}
use Rattle.model.specs.Orders.{Order}
use Rattle.model.specs.Classes.{Classes, Setting, W, class_p}
use Rattle.model.specs.Intervals.{fans_present, setting_of}
use Rattle.model.specs.Plans.{Slot, plan_records, slots_read}
use Rattle.model.specs.Stands.{EndsBy, Named, NoOverlap, SlotsStand, Stands}
use Rattle.model.specs.Line.{Covers, OneOf}
use Rattle.model.proofs.Lists.{All-at, Pairs-at}
use Rattle.model.proofs.Planner.{stand_read}
use Rattle.model.proofs.PlanPieces.{no_slot}
use Rattle.model.proofs.Standing.{same_member, same_rate}

ends_before : (q x : ℕ) (s u : Slot) → EndsBy s u → 0 < u.weight → Covers q x s → Covers q x u → ⊥
ends_before q x s u e w c d =
    omega (arith, mul-le-mul_left q e.by, mul-lt-mul_of_pos_left c.after w, mul-le-mul_left s.weight d.from)

module _ (o : Order) (plan : List ℕ) (st : Stands o plan) where
  abbrev S : Setting
  S = setting_of o

  abbrev slots : List Slot
  slots = slots_read (plan_records plan)

  stand : SlotsStand o st.count st.sets slots
  stand = stand_read st

  -- each slot is named
  pub slot_named : (s : Slot) → OneOf slots s → Named o st.count st.sets s
  slot_named s one = subst (λ (s : Slot). Named o st.count st.sets s) (one.there no_slot) (All-at no_slot stand.named one.index one.listed)

  -- with the number, the W and the P of its dose's class
  pub slot_rate : (p : ℕ) (C : ℕ → Doses) → Classes S (fans_present o) p C → (s : Slot) → OneOf slots s
      → (i : ℕ) × (i < p) × T (C i s.dose) × (s.class ≡ i + 1) × (s.weight ≡ W S (C i)) × (s.time ≡ class_p S (fans_present o) C i)
  slot_rate p C c s one =
      let n = slot_named s one in
      let m = same_member S (fans_present o) st.count p st.sets C st.classes c n.class s.dose n.known n.dose n.member in
      let r = same_rate S (fans_present o) st.count p st.sets C st.classes c n.class n.class s.dose n.known m.0 n.dose n.member m.1 in
      (n.class, m.0, m.1, n.number, n.weight ∙ r.0, n.time ∙ r.1)

  -- two slots at one moment have two fans and two doses
  pub slots_apart : (q x i i' : ℕ) (u : Slot) → i < i' → i' < length slots → Covers q x (get_or slots i u) → Covers q x (get_or slots i' u)
      → ((get_or slots i u).fan ≡ (get_or slots i' u).fan → ⊥) × ((get_or slots i u).dose ≡ (get_or slots i' u).dose → ⊥)
  slots_apart q x i i' u l l' c c' =
      (λ e. never (Pairs-at u stand.fans_apart i i' l l' e), λ e. never (Pairs-at u stand.doses_apart i i' l l' e))
    where
      some_weight : (k : ℕ) → k < length slots → 0 < (get_or slots k u).weight
      some_weight k h = omega (arith, (All-at u stand.named k h).start_part)

      never : NoOverlap (get_or slots i u) (get_or slots i' u) → ⊥
      never (inl e) = ends_before q x _ _ e (some_weight i' l') c c'
      never (inr e) = ends_before q x _ _ e (some_weight i (omega arith)) c' c
