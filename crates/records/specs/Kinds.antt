-- The kind that byte 0 of a record names.
use Rattle.std.specs.Prelude.{◌≡◌, ℕ, eqb, if◌then◌else◌}
use Rattle.model.specs.Records.{fans_kind, dose_kind, class_kind, slot_kind, meter_kind}
use Rattle.records.specs.declared.kind.Kind.{Kind}
use Rattle.records.specs.declared.kind.Kind.TheVariants.{Fans, Dose, Class, Slot, Meter, Other}

-- the kind that a byte names
unfoldable pub kind_of_byte : ℕ → Kind
kind_of_byte b =
    if eqb b fans_kind then Fans
    else (if eqb b dose_kind then Dose
    else (if eqb b class_kind then Class
    else (if eqb b slot_kind then Slot
    else (if eqb b meter_kind then Meter else Other b))))

-- and the byte of a kind
abbrev pub byte_of_kind : Kind → ℕ
byte_of_kind Fans = fans_kind
byte_of_kind Dose = dose_kind
byte_of_kind Class = class_kind
byte_of_kind Slot = slot_kind
byte_of_kind Meter = meter_kind
byte_of_kind (Other b) = b

-- a kind read from a byte: it is the one that the byte names, and the byte is its own
pub record Told (kind : Kind) (byte : ℕ) : Type 0 where
  pub kind_is : kind ≡ kind_of_byte byte
  pub byte_is : byte_of_kind kind ≡ byte
