-- Laws of decimal digits: they say the number, and no zero stands in front. Assumes nothing.
use mathlib.Core.Path.{◌≡◌, refl, sym, ◌∙◌}
use mathlib.Core.Bool.{Bool, true, false}
use mathlib.Core.List.{List, [], ◌∷◌, ◌++◌, append-nil, append_assoc}
use Prim.Native.Nat.{ℕ, zero, suc, ◌+◌, ◌*◌, ◌-◌, ◌/◌, ◌%◌, ◌^◌, ◌≤◌, ◌<◌}
use native.Mathlib.Nat.{pow-succ'}
use native.Mathlib.Omega.{arith}
use borrow.Author.Tests.{lt-ltb, ltb-true, ltb-false, ne_eqb}
use lib.Dec.{ltb}
use lib.ListN.{get_or}
use Rattle.model.specs.Lists.{All, none, also}
use Rattle.model.proofs.Lists.{All-append}
use Rattle.std.specs.Fmt as fmt
use Rattle.std.specs.Fmt.{digit_glyph, digits, digits_onto}
use Rattle.lines.specs.Text.{decimal, digit_zero, read_on}

read_append : (a : ℕ) (xs ys : List ℕ) → read_on a (xs ++ ys) ≡ read_on (read_on a xs) ys
unfolding read_on
read_append a [] ys = refl
read_append a (x ∷ xs) ys = read_append (a * 10 + (x - digit_zero)) xs ys

-- "numbers": the digits of every number below 10 to the places, read again, are the number
pub reads_back : (places v : ℕ) → v < 10 ^ places → read_on 0 (decimal places v) ≡ v
unfolding read_on decimal
reads_back zero v h = omega arith
reads_back (suc places) v h = go (ltb v 10) refl (reads_back places (v / 10) (omega (arith, pow-succ' 10 places)))
  where
    go : (t : Bool) → ltb v 10 ≡ t → read_on 0 (decimal places (v / 10)) ≡ v / 10 → read_on 0 (decimal (suc places) v) ≡ v
    go true e ih = rw e (omega arith)
    go false e ih = rw (e, read_append 0 (decimal places (v / 10)) ((digit_zero + v % 10) ∷ []), ih) (omega arith)

front : (xs ys : List ℕ) → digit_zero < get_or xs 0 0 → digit_zero < get_or (xs ++ ys) 0 0
front [] ys h = absurd (let z : ⊥ = omega arith in z)
front (x ∷ xs) ys h = h

-- the first digit of a number above 0 is above 0
pub no_zero_in_front : (places v : ℕ) → 0 < v → v < 10 ^ places → digit_zero < get_or (decimal places v) 0 0
unfolding decimal
no_zero_in_front zero v p h = absurd (let z : ⊥ = omega arith in z)
no_zero_in_front (suc places) v p h =
    go (ltb v 10) refl (λ q. no_zero_in_front places (v / 10) q (omega (arith, pow-succ' 10 places)))
  where
    go : (t : Bool) → ltb v 10 ≡ t → (0 < v / 10 → digit_zero < get_or (decimal places (v / 10)) 0 0) → digit_zero < get_or (decimal (suc places) v) 0 0
    go true e ih = rw e (omega arith)
    go false e ih = rw e (front (decimal places (v / 10)) ((digit_zero + v % 10) ∷ []) (ih (omega (arith, ltb-false v 10 e))))

-- every byte of a number is a digit
pub all_digits : (places v : ℕ) → All (λ d. (digit_zero ≤ d) × (d < 58)) (decimal places v)
unfolding decimal
all_digits zero v = none
all_digits (suc places) v = go (ltb v 10) refl (all_digits places (v / 10))
  where
    go : (t : Bool) → ltb v 10 ≡ t → All (λ d. (digit_zero ≤ d) × (d < 58)) (decimal places (v / 10)) → All (λ d. (digit_zero ≤ d) × (d < 58)) (decimal (suc places) v)
    go true e ih = rw e (also {a = digit_zero + v} (omega arith, omega (arith, ltb-true v 10 e)) none)
    go false e ih = rw e (All-append ih (also {a = digit_zero + v % 10} (omega arith, omega arith) none))

-- ---- the library's digits

glyph_is : (d : ℕ) → d < 10 → digit_glyph false d ≡ digit_zero + d
glyph_is d h = rw (lt-ltb d 10 h)

-- in front of a list, digit by digit
onto_is : (places v : ℕ) (behind : List ℕ) → digits_onto places 10 false v behind ≡ decimal places v ++ behind
unfolding decimal
onto_is zero v behind = refl
onto_is (suc places) v behind = go (ltb v 10) refl (onto_is places (v / 10) ((digit_zero + v % 10) ∷ behind))
  where
    go : (t : Bool) → ltb v 10 ≡ t → digits_onto places 10 false (v / 10) ((digit_zero + v % 10) ∷ behind) ≡ decimal places (v / 10) ++ ((digit_zero + v % 10) ∷ behind)
        → digits_onto (suc places) 10 false v behind ≡ decimal (suc places) v ++ behind
    go true e ih =
        let h = ltb-true v 10 e in
        let tens : v / 10 ≡ 0 = omega (arith, h) in
        let ones : v % 10 ≡ v = omega (arith, h) in
        rw (tens, ones, glyph_is v h, e)
    go false e ih =
        let more : v / 10 ≡ 0 → ⊥ = λ z. absurd (omega (arith, ltb-false v 10 e, z)) in
        rw (ne_eqb (v / 10) 0 more, glyph_is (v % 10) (omega arith), e, ih) (sym (append_assoc (decimal places (v / 10)) ((digit_zero + v % 10) ∷ []) behind))

-- places behind those that hold the number stay empty
places_enough : (places more v : ℕ) → v < 10 ^ suc places → decimal (suc (places + more)) v ≡ decimal (suc places) v
unfolding decimal
places_enough zero more v h = rw (lt-ltb v 10 (omega arith))
places_enough (suc places) more v h =
    go (ltb v 10) refl (places_enough places more (v / 10) (omega (arith, pow-succ' 10 (suc places))))
  where
    go : (t : Bool) → ltb v 10 ≡ t → decimal (suc (places + more)) (v / 10) ≡ decimal (suc places) (v / 10) → decimal (suc (suc places + more)) v ≡ decimal (suc (suc places)) v
    go true e ih = rw e
    go false e ih =
        let behind : suc places + more ≡ suc (places + more) = omega arith in
        rw (e, behind, ih)

-- a number of 64 bits is written as the library writes it
pub as_written : (v : ℕ) → v < 18446744073709551616 → fmt.decimal v ≡ decimal 20 v
unfolding digits
as_written v h = onto_is 64 v [] ∙ append-nil (decimal 64 v) ∙ places_enough 19 44 v (omega arith)
