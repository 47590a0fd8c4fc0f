-- Products of fields fit 64 bits. Assumes nothing.
use Prim.Native.Nat.{ℕ, ◌+◌, ◌*◌, ◌<◌, ◌≤◌}
use native.Mathlib.Nat.{mul-le-mul_left, mul-le-mul_right}
use native.Mathlib.Omega.{arith}
use Rattle.model.specs.Limits.{most_doses}

pub product_fits : (a b c : ℕ) → a < 4294967296 → b < 4294967296 → c < 4294967296 → a * b + c < 18446744073709551616
product_fits a b c ha hb hc =
    let x : a ≤ 4294967295 = omega arith in
    let y : b ≤ 4294967295 = omega arith in
    omega (arith, mul-le-mul_left a y, mul-le-mul_right 4294967295 x)

-- a length of 32 bits and 24 fans at most
pub fan_seconds : (l r : ℕ) → l < 4294967296 → r ≤ most_doses → l * r ≤ 103079215080
fan_seconds l r a b = let x : l ≤ 4294967295 = omega arith in omega (arith, mul-le-mul_left l b, mul-le-mul_right most_doses x)
