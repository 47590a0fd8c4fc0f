-- What a test of a record's kind says of its first byte. Assumes nothing.
use Prim.Native.Nat.{ℕ}
use mathlib.Core.Bool.{Bool, true, false}
use mathlib.Core.Path.{◌≡◌, refl, sym, ap, ◌∙◌}
use lib.Dec.{eqb}
use borrow.Author.Tests.{eq-eqb, ne_eqb}
use Rattle.model.specs.Records.{fans_kind, dose_kind, class_kind, slot_kind, meter_kind}
use Rattle.records.specs.declared.kind.Kind.{Kind}
use Rattle.records.specs.declared.kind.Kind.TheVariants.{Fans, Dose, Class, Slot, Meter}
use Rattle.records.specs.Kinds.{kind_of_byte, byte_of_kind, Told}

pub fans_told : kind_of_byte fans_kind ≡ Fans
unfolding kind_of_byte
fans_told = refl

pub dose_told : kind_of_byte dose_kind ≡ Dose
unfolding kind_of_byte
dose_told = refl

pub class_told : kind_of_byte class_kind ≡ Class
unfolding kind_of_byte
class_told = refl

pub slot_told : kind_of_byte slot_kind ≡ Slot
unfolding kind_of_byte
slot_told = refl

pub meter_told : kind_of_byte meter_kind ≡ Meter
unfolding kind_of_byte
meter_told = refl

-- of that kind
pub of_kind : (named : Kind) {kind : Kind} {byte : ℕ} → Told kind byte → kind ≡ named → eqb byte (byte_of_kind named) ≡ true
of_kind named told e = eq-eqb _ _ (sym told.byte_is ∙ ap byte_of_kind e)

-- and of another
pub of_other : (named : Kind) {kind : Kind} {byte : ℕ} → kind_of_byte (byte_of_kind named) ≡ named → Told kind byte → (kind ≡ named → ⊥)
    → eqb byte (byte_of_kind named) ≡ false
of_other named it told n = ne_eqb _ _ (λ e. n (told.kind_is ∙ ap kind_of_byte e ∙ it))

-- a test that holds just where it is of that kind
pub tells_kind : (named : Kind) {kind : Kind} {byte : ℕ} (t : Bool) → kind_of_byte (byte_of_kind named) ≡ named → Told kind byte → (t ≡ true → kind ≡ named)
    → (t ≡ false → kind ≡ named → ⊥) → t ≡ eqb byte (byte_of_kind named)
tells_kind named {kind} {byte} true it told y n = sym (of_kind named told (y refl))
tells_kind named {kind} {byte} false it told y n = sym (of_other named it told (n refl))
