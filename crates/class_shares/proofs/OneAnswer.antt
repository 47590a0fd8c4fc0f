-- Two answers of `needs_met` are equal. Which shares `find_shares` raises is left open (docs/PROMISES.md, "The one exception"). Assumes nothing.
use mathlib.Core.Bool.{Bool, true, false}
use mathlib.Core.List.{List}
use mathlib.Core.Path.{◌≡◌, refl, sym, ◌∙◌}
use Prim.Native.Nat.{ℕ}
use native.Mathlib.Omega.{arith}
use Rattle.class_shares.specs.Share.{Met}

pub met_one : {needs x : List ℕ} {r r' : Bool} → Met needs x r → Met needs x r' → r ≡ r'
met_one {r = r} {r' = r'} a b = go r r' refl refl
  where
    go : (s t : Bool) → r ≡ s → r' ≡ t → r ≡ r'
    go true true e f = e ∙ sym f
    go true false e f = let k = b.some f in absurd (omega (arith, k.2, a.all e k.0 k.1))
    go false true e f = let k = a.some e in absurd (omega (arith, k.2, b.all f k.0 k.1))
    go false false e f = e ∙ sym f
