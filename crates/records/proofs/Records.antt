-- Record k of some bytes, as code hands it on: the part of them from 32 × k on. Assumes nothing.
use mathlib.Core.Path.{◌≡◌}
use mathlib.Core.List.{List}
use Prim.Native.Nat.{ℕ, ◌+◌, ◌*◌, ◌-◌, ◌≤◌}
use native.Mathlib.Omega.{arith}
use lib.ListN.{length, take, drop, length-take, length-drop}
use Rattle.model.specs.Records.{record_size, record_at}

abbrev pub part_at : List ℕ → ℕ → List ℕ
part_at bytes k = take (record_size * k + record_size - record_size * k) (drop (record_size * k) bytes)

pub record_part : (bytes : List ℕ) (k : ℕ) → part_at bytes k ≡ record_at bytes k
record_part bytes k = let e : record_size * k + record_size - record_size * k ≡ record_size = omega arith in rw e

pub part_length : (bytes : List ℕ) (k : ℕ) → record_size * k + record_size ≤ length bytes → length (part_at bytes k) ≡ record_size
part_length bytes k h = simp (length-take, length-drop) (omega arith)
