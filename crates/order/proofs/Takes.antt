-- A record's faults, and what is read where there is none. Assumes nothing.
use Prim.Native.Nat.{ℕ}
use mathlib.Core.Path.{◌≡◌, refl, ◌∙◌}
use mathlib.Core.Bool.{Bool, true, false}
use Rattle.std.specs.Prelude.{Result, Ok, Err}
use Rattle.model.specs.Records.{read}
use Rattle.model.specs.Orders.{checked}
use Rattle.model.specs.Orders as orders
use Rattle.order.specs.Held.{held_entry}
use Rattle.order.specs.declared.refusal.Refusal.{Refusal}
use Rattle.order.specs.Gathered.{fault_of}

pub fault_of_lem : {A : Type 0} (fits is_open : A → Bool) (k : ℕ) {n : Result (Unit {0}) Refusal} {p q s b : Bool} {x y : A} → n ≡ fault_of p q s k → p ≡ b → q ≡ fits x
    → s ≡ is_open x → x ≡ y → n ≡ fault_of b (fits y) (is_open y) k
fault_of_lem fits is_open k h e g o r = h ∙ rw (e, g, o, r)

-- a record of known kind that is at fault
pub faulty : {x : Refusal} (b f o : Bool) (e : orders.Entry) (k : ℕ) → Err x ≡ fault_of b f o k → Err x ≡ held_entry (checked b f o e k)
unfolding fault_of held_entry
faulty true true true e k h = absurd (let z : ⊥ = cc in z)
faulty true true false e k h = cc
faulty true false o e k h = cc
faulty false f o e k h = cc

-- and one that is not
pub faultless : (b f o : Bool) (e : orders.Entry) (k : ℕ) → Ok tt ≡ fault_of b f o k → held_entry (read e) ≡ held_entry (checked b f o e k)
unfolding fault_of
faultless true true true e k h = refl
faultless true true false e k h = absurd (let z : ⊥ = cc in z)
faultless true false o e k h = absurd (let z : ⊥ = cc in z)
faultless false f o e k h = absurd (let z : ⊥ = cc in z)
