-- What a flow is: the accepted floats are exactly the n/1024 with n up to 1,024,000, each with a plus sign. Assumes nothing.
use Prim.Native.Nat.{ℕ, ◌*◌, ◌/◌, ◌%◌, ◌^◌, ◌≤◌, ◌<◌}
use mathlib.Core.Bool.{Bool, true, false, ◌&&◌, true≢false}
use mathlib.Core.List.{List, [], ◌∷◌, map}
use mathlib.Core.Logic.{◌↔◌}
use mathlib.Core.Path.{◌≡◌, refl, sym, ap, ◌∙◌}
use native.Mathlib.Nat.{div-one, lt_of_le_of_lt, lt_of_lt_of_le, mul_assoc, mul-le-mul_right, mul-one}
use native.Mathlib.Omega.{arith}
use borrow.Author.Tests.{eq-eqb, eqb-true, le-leb}
use lib.Dec.{eqb, leb, lit<, lit≤}
use lib.Ieee.{Float, binary32, down, fin, inf, nan, of_bits, round, to_bits, up}
use lib.Ieee.Bits.{of_bits-to_bits, to_bits-lt}
use lib.Ieee.Exact.{HasValue, round_exact}
use lib.Ieee.Fits.{down_pos, round-fits}
use lib.Ieee.Nearest.{div_same}
use Rattle.model.specs.Limits.{gram_parts, most_flow}
use Rattle.model.specs.Records.{pick}
use Rattle.model.specs.Log.{flow_fits, flow_in, flow_parts}
use Rattle.model.proofs.Flows.{by_parts, whole_parts}

-- "A flow is a multiple of 1/1024 from 0 to 1,000": accepted are exactly the floats that are n/1024, n up to 1,024,000
pub flow_exactly : (x : Float) → (flow_fits x ≡ true) ↔ ((n : ℕ) × HasValue x false n gram_parts × (n ≤ most_flow))
flow_exactly x = (λ t. let w = whole_parts x t in (flow_parts x, w.0, w.1), λ v. fits_so v.0 v.1 v.2)
  where
    whole_one : (n : ℕ) → n % 1 ≡ 0
    whole_one n = omega arith

    fits_so : (n : ℕ) → HasValue x false n gram_parts → n ≤ most_flow → flow_fits x ≡ true
    fits_so n h l =
        by_parts x n 1 (lit< tt) h ∙ ap (λ (t : Bool). t && leb (n / 1) most_flow) (eq-eqb (n % 1) 0 (whole_one n))
        ∙ ap (λ (y : ℕ). leb y most_flow) (div-one n) ∙ le-leb n most_flow l

-- and that n is how many 1/1024 gram a second it counts for
pub parts_exactly : (x : Float) (n : ℕ) → HasValue x false n gram_parts → flow_parts x ≡ n
unfolding flow_parts
parts_exactly nan n h = absurd h
parts_exactly (inf s) n h = absurd h
parts_exactly (fin s m e) n h =
    div_same (m * up e * gram_parts) (down e) n 1 (down_pos e) (lit< tt) (mul-one (m * up e * gram_parts) ∙ h.1) ∙ div-one n

-- "minus zero read as zero"
pub minus_zero : flow_in 0x8000_0000 ≡ flow_in 0
minus_zero = refl

-- n/1024 as a 32-bit float
abbrev flow_of : ℕ → Float
flow_of n = round binary32 false n gram_parts

flow_is : (n : ℕ) → n ≤ most_flow → HasValue (flow_of n) false n gram_parts
flow_is n l =
    let e : n * 2 ^ 149 ≡ n * 2 ^ 139 * gram_parts = sym (mul_assoc n (2 ^ 139) gram_parts) in
    round_exact binary32 false n gram_parts n 139 (lit< tt) (omega arith) (lt_of_lt_of_le (small n l) (lit≤ tt)) e
  where
    small : (n : ℕ) → n ≤ most_flow → n * 2 ^ 139 < 2 ^ 160
    small n h = lt_of_le_of_lt (mul-le-mul_right (2 ^ 139) h) (lit< tt)

-- bits of an accepted float are read as it
read_as_it : (bits : ℕ) → flow_fits (of_bits binary32 bits) ≡ true → flow_in bits ≡ of_bits binary32 bits
unfolding flow_fits of_bits
read_as_it bits t = go (eqb bits 0x8000_0000) refl
  where
    go : (b : Bool) → eqb bits 0x8000_0000 ≡ b → of_bits binary32 (pick b 0 bits) ≡ of_bits binary32 bits
    go true e = let f : false ≡ true = rw (eqb-true bits 0x8000_0000 e) at t in absurd (true≢false (sym f))
    go false e = refl

-- each such number has 32 bits that are read as it
pub each_flow : (n : ℕ) → n ≤ most_flow → (bits : ℕ) × (bits < 2 ^ 32) × (flow_fits (flow_in bits) ≡ true) × (flow_parts (flow_in bits) ≡ n)
each_flow n l =
    let bits = to_bits binary32 (flow_of n) in
    let is : of_bits binary32 bits ≡ flow_of n = of_bits-to_bits binary32 (flow_of n) (round-fits binary32 false n gram_parts) in
    let t = (flow_exactly (flow_of n)).1 (n, flow_is n l, l) in
    let same : flow_in bits ≡ flow_of n = read_as_it bits (rw is t) ∙ is in
    (bits, to_bits-lt binary32 (flow_of n) (round-fits binary32 false n gram_parts), rw same t, rw same (parts_exactly (flow_of n) n (flow_is n l)))

-- ---- bit patterns, by one computed claim

-- 32 bits, whether they are a flow, and of how many 1/1024, 0 where they are none
pub record Pattern : Type 0 where
  pub bits : ℕ
  pub fits : Bool
  pub parts : ℕ

-- as the definitions read them
abbrev pub pattern_of : ℕ → Pattern
pattern_of bits = record { bits = bits; fits = flow_fits (flow_in bits); parts = pick (flow_fits (flow_in bits)) (flow_parts (flow_in bits)) 0 }

abbrev fits_as : ℕ → ℕ → Pattern
fits_as bits parts = record { bits = bits; fits = true; parts = parts }

abbrev fits_not : ℕ → Pattern
fits_not bits = record { bits = bits; fits = false; parts = 0 }

abbrev pub patterns : List Pattern
patterns =
    -- zero, minus zero, 1/1024, 1.5, 1,000 less 1/1024, 1,000
    fits_as 0x0000_0000 0 ∷ fits_as 0x8000_0000 0 ∷ fits_as 0x3a80_0000 1 ∷ fits_as 0x3fc0_0000 1536 ∷ fits_as 0x4479_fff0 1023999 ∷ fits_as 0x447a_0000 1024000
    -- 1/2048, 1/1024 and one bit, 0.1
    ∷ fits_not 0x3a00_0000 ∷ fits_not 0x3a80_0001 ∷ fits_not 0x3dcc_cccd
    -- 1,000 and one bit, 1,000 and 1/1024, 1,024
    ∷ fits_not 0x447a_0001 ∷ fits_not 0x447a_0010 ∷ fits_not 0x4480_0000
    -- the least float above zero, its negative, -1/1024, -1
    ∷ fits_not 0x0000_0001 ∷ fits_not 0x8000_0001 ∷ fits_not 0xba80_0000 ∷ fits_not 0xbf80_0000
    -- both infinities, quiet and signalling NaNs
    ∷ fits_not 0x7f80_0000 ∷ fits_not 0xff80_0000 ∷ fits_not 0x7fc0_0000 ∷ fits_not 0x7f80_0001 ∷ fits_not 0xffc0_0000 ∷ fits_not 0xffff_ffff ∷ []

pub patterns_right : map (λ p. pattern_of p.bits) patterns ≡ patterns
unfolding flow_fits flow_parts of_bits
patterns_right = refl
