-- The length of a number and of a record.
use mathlib.Core.Path.{◌≡◌, ap, refl}
use mathlib.Core.List.{List, [], ◌∷◌}
use Prim.Native.Nat.{ℕ, zero, suc, ◌+◌, ◌/◌}
use native.Mathlib.Omega.{arith}
use lib.ListN.{length, length-append, length-replicate, replicate}
use Rattle.model.specs.Records.{Part, blank, field, number_bytes, record_bytes}

-- a number has its width
pub length_number : (width v : ℕ) → length (number_bytes width v) ≡ width
unfolding number_bytes
length_number zero v = refl
length_number (suc width) v = ap suc (length_number width (v / 256))

-- and so have zeros
pub length_zeros : (width : ℕ) → length (replicate {A = ℕ} width 0) ≡ width
length_zeros width = length-replicate {A = ℕ} width 0

-- how many bytes the parts have
unfoldable pub size_of : List Part → ℕ
size_of [] = 0
size_of (field width ∷ parts) = width + size_of parts
size_of (blank width ∷ parts) = width + size_of parts

-- a record has the size of its parts
pub length_record : (parts : List Part) (values : List ℕ) → length (record_bytes parts values) ≡ size_of parts
unfolding record_bytes size_of
length_record [] values = refl
length_record (field width ∷ parts) [] =
    omega (arith, length-append (replicate width 0) (record_bytes parts []), length_zeros width, length_record parts [])
length_record (field width ∷ parts) (v ∷ values) =
    omega (arith, length-append (number_bytes width v) (record_bytes parts values), length_number width v, length_record parts values)
length_record (blank width ∷ parts) values =
    omega (arith, length-append (replicate width 0) (record_bytes parts values), length_zeros width, length_record parts values)
