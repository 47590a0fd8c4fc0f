-- Bytes with a run of other bytes written over them at a place.
use Rattle.std.specs.Prelude.{ℕ, List}
use Rattle.std.proofs.lemmas.List.Edits.{sets}

-- the bytes l with the bytes vs from the place `at` on, and every other byte as it was
unfoldable pub written : List ℕ → ℕ → List ℕ → List ℕ
written l at vs = sets l at vs
