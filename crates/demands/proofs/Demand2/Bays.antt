-- In a plan that stands no bay is fed by two fans at one moment, and its inlet rests between doses; the rest is kept by any plan at all.
use mathlib.Core.Logic.{◌≢◌, ◌⊎◌, inl, inr}
use mathlib.Core.Path.{◌≡◌}
use mathlib.Core.List.{List}
use Prim.Native.Nat.{ℕ, ◌+◌, ◌*◌, ◌≤◌, ◌<◌}
use native.Mathlib.Nat.{le_of_mul-le-mul_right, lt_of_mul-lt-mul_right, mul-le-mul_right}
use native.Mathlib.Omega.{arith}
use lib.ListN.{length, get_or}
use Rattle.model.specs.Orders.{Order, dose_at}
use Rattle.model.specs.Plans.{Slot, plan_records, slots_read}
use Rattle.model.specs.Stands.{Between, Named, Stands}
use Rattle.model.specs.Line.{Covers}
use Rattle.model.specs.FreePlans.{FreeNamed, FreePlan, FreeSlot}
use Rattle.model.proofs.Lists.{All-at}
use Rattle.model.proofs.Orders.{Fit, windows_rest}
use Rattle.model.proofs.Planner.{stand_read}
use Rattle.demands.proofs.Demand2.Standing.{slots_apart}

-- a slot between two ticks covers a moment between them
covered : (from to q x : ℕ) (s : Slot) → 0 < s.weight → Between from to s → Covers q x s → (from * q ≤ x) × (x < to * q)
covered from to q x s some b c = (
  le_of_mul-le-mul_right {k = s.weight} (omega (arith, mul-le-mul_right q b.low, c.from)) some,
  lt_of_mul-lt-mul_right s.weight (omega (arith, mul-le-mul_right q b.high, c.after)),
)

module _ (o : Order) (plan : List ℕ) (st : Stands o plan) (fit : Fit o) where
  abbrev slots : List Slot
  slots = slots_read (plan_records plan)

  named : (u : Slot) (i : ℕ) → i < length slots → Named o st.count st.sets (get_or slots i u)
  named u i l = All-at u (stand_read st).named i l

  -- a slot covers only moments inside its dose's window
  inside : (q x : ℕ) (s : Slot) → Named o st.count st.sets s → Covers q x s
      → ((dose_at o s.dose).release * q ≤ x) × (x < (dose_at o s.dose).deadline * q)
  inside q x s n = covered (dose_at o s.dose).release (dose_at o s.dose).deadline q x s (omega (arith, n.start_part)) n.window

  -- moments in slots of two doses of one bay have the order's rest between them
  pub slots_rest : (q x y i k : ℕ) (u : Slot) → i < length slots → k < length slots → Covers q x (get_or slots i u) → Covers q y (get_or slots k u)
      → (get_or slots i u).dose ≢ (get_or slots k u).dose → (dose_at o (get_or slots i u).dose).bay ≡ (dose_at o (get_or slots k u).dose).bay
      → (x + o.rest * q < y) ⊎ (y + o.rest * q < x)
  slots_rest q x y i k u l m c b n e =
      let s = get_or slots i u in
      let t = get_or slots k u in
      let first = inside q x s (named u i l) c in
      let second = inside q y t (named u k m) b in
      elim (windows_rest fit s.dose t.dose n (named u i l).dose (named u k m).dose e) [
        | inl h ↦ inl (omega (arith, mul-le-mul_right q h, first.1, second.0))
        | inr h ↦ inr (omega (arith, mul-le-mul_right q h, first.0, second.1))
      ]

  -- so that two slots of one bay do not cover one moment, whatever the rest
  pub bays_apart : (q x i i' : ℕ) (u : Slot) → i < i' → i' < length slots → Covers q x (get_or slots i u) → Covers q x (get_or slots i' u)
      → (dose_at o (get_or slots i u).dose).bay ≡ (dose_at o (get_or slots i' u).dose).bay → ⊥
  bays_apart q x i i' u l l' c c' e =
      let other = (slots_apart o plan st q x i i' u l l' c c').1 in
      elim (slots_rest q x x i i' u (omega arith) l' c c' other e) [ inl h ↦ omega arith | inr h ↦ omega arith ]

-- in any plan at all a slot of one dose ends the rest before one of another dose of its bay starts, or the other way round: the inlet rule need not
-- name the rest
pub free_slots_rest : (o : Order) → Fit o → (f : FreePlan o) (i k : ℕ) (u : FreeSlot) → i < length f.slots → k < length f.slots
    → (get_or f.slots i u).dose ≢ (get_or f.slots k u).dose → (dose_at o (get_or f.slots i u).dose).bay ≡ (dose_at o (get_or f.slots k u).dose).bay
    → ((get_or f.slots i u).end + f.q * o.rest ≤ (get_or f.slots k u).start) ⊎ ((get_or f.slots k u).end + f.q * o.rest ≤ (get_or f.slots i u).start)
free_slots_rest o fit f i k u l m n e =
    let s = get_or f.slots i u in
    let t = get_or f.slots k u in
    let first : FreeNamed o f.q f.r s = All-at u f.named i l in
    let second : FreeNamed o f.q f.r t = All-at u f.named k m in
    elim (windows_rest fit s.dose t.dose n first.dose second.dose e) [
      | inl h ↦ inl (omega (arith, mul-le-mul_right f.q h, first.closed, second.opened))
      | inr h ↦ inr (omega (arith, mul-le-mul_right f.q h, first.opened, second.closed))
    ]
