-- Laws of numbers in bytes and of runs of bytes written. Assumes nothing.
use Prim.Native.Nat.{ℕ, zero, suc, ◌+◌, ◌*◌, ◌-◌, ◌/◌, ◌<◌, ◌≤◌, ◌^◌}
use mathlib.Core.Path.{◌≡◌, refl, ap, ◌∙◌}
use mathlib.Core.Bool.{◌&&◌}
use mathlib.Core.List.{List, [], ◌∷◌, ◌++◌}
use native.Mathlib.Omega.{arith}
use native.Mathlib.Numerals.{add-one}
use native.Mathlib.Nat.{add-zero, add-suc, suc-add, pow-succ'}
use borrow.Rule.Slice.PartMut.{put_mid}
use lib.Dec.{eqb}
use lib.ListN.{length, get_or, set, length-set, take, drop}
use lib.Seq.{sets, length-sets, get_or-set_same, get_or-set_other, drop-cons}
use Rattle.std.specs.Int.{w32, to_le_bytes}
use Rattle.std.specs.List.{list_all}
use Rattle.std.proofs.lemmas.Bool.Decides.{nat_tests}
use Rattle.std.proofs.Common.{append_assoc, drop-drop}
use Rattle.std.proofs.lemmas.List.Edits.{sets-eq}
use Rattle.model.specs.Records.{number_at, number_bytes}
use Rattle.records.specs.Written.{written}

-- ---- a number by its bytes

pub number_none : (s : List ℕ) (at n : ℕ) → n ≡ 0 → number_at s at n ≡ 0
unfolding number_at
number_none s at n e = rw e

-- the first byte, and 256 times the number in the others
pub number_on : (s : List ℕ) (at n : ℕ) → number_at s at (n + 1) ≡ get_or s at 0 + 256 * number_at s (at + 1) n
unfolding number_at
number_on s at n = rw (add-one n, add-one at)

second : (v : ℕ) → v / 65536 ≡ v / 256 / 256
second v = omega arith

third : (v : ℕ) → v / 16777216 ≡ v / 256 / 256 / 256
third v = omega arith

-- the first bytes of a number of 32 bits are those in which it is written
pub low_bytes : (n v : ℕ) → n ≤ 4 → take n (to_le_bytes w32 v) ≡ number_bytes n v
unfolding number_bytes
low_bytes zero v h = refl
low_bytes (suc zero) v h = refl
low_bytes (suc (suc zero)) v h = refl
low_bytes (suc (suc (suc zero))) v h = rw (second v)
low_bytes (suc (suc (suc (suc zero)))) v h = rw (third v, second v)
low_bytes (suc (suc (suc (suc (suc n))))) v h = absurd (let z : ⊥ = omega arith in z)

pub length_number : (n v : ℕ) → length (number_bytes n v) ≡ n
unfolding number_bytes
length_number zero v = refl
length_number (suc n) v = ap suc (length_number n (v / 256))

-- one byte more before a number of less than four fits 32 bits
pub short_enough : (n k : ℕ) → k < 4 → n < 256 ^ k → n < 16777216
short_enough n zero h p = omega (arith, p)
short_enough n (suc zero) h p = omega (arith, p)
short_enough n (suc (suc zero)) h p = omega (arith, p)
short_enough n (suc (suc (suc zero))) h p = p
short_enough n (suc (suc (suc (suc k)))) h p = absurd (let z : ⊥ = omega arith in z)

-- and is the number in all of them
pub byte_more : (s : List ℕ) (n b at i k : ℕ) → 0 < i → i ≤ k → b < 256 → b ≡ get_or s (at + (i - 1)) 0 → n ≡ number_at s (at + i) (k - i) → n < 256 ^ (k - i)
    → (256 * n + b ≡ number_at s (at + (i - 1)) (k - (i - 1))) × (256 * n + b < 256 ^ (k - (i - 1)))
byte_more s n b at i k p q small e h l =
    let w : k - (i - 1) ≡ suc (k - i) = omega arith in
    let v : at + (i - 1) + 1 ≡ at + i = omega arith in
    let whole : number_at s (at + (i - 1)) (suc (k - i)) ≡ get_or s (at + (i - 1)) 0 + 256 * number_at s (at + i) (k - i) =
    rw (← add-one (k - i), number_on s (at + (i - 1)) (k - i), v) in
    (rw w (omega arith), rw (w, pow-succ') (omega arith))

-- ---- a number is 0 exactly where all its bytes are

both_zero : (a x : ℕ) → (eqb a 0 && eqb x 0) ≡ eqb (a + 256 * x) 0
both_zero a x = grind (arith, nat_tests)

pub all_zero : (s : List ℕ) (at n : ℕ) → at + n ≤ length s → list_all (λ x. eqb x 0) (take n (drop at s)) ≡ eqb (number_at s at n) 0
unfolding number_at
all_zero s at zero h = refl
all_zero s at (suc n) h = let q : at < length s = omega arith in rw (drop-cons s at 0, all_zero s (suc at) n (omega arith)) (both_zero _ _)

-- ---- runs of bytes

-- a part lent for writing, and what stands in it then
pub part_written : (l new vs : List ℕ) (at k : ℕ) → new ≡ vs → k ≡ length vs → at + k ≤ length l → put_mid at k l new ≡ written l at vs
unfolding written
part_written l new vs at k p e h = rw (sets-eq vs l at (omega arith), p, e, drop-drop, append_assoc)

-- two runs, one behind the other, are one
sets_append : (xs ys l : List ℕ) (i : ℕ) → sets (sets l i xs) (i + length xs) ys ≡ sets l i (xs ++ ys)
sets_append [] ys l i = rw (add-zero)
sets_append (x ∷ xs) ys l i = rw (add-suc, ← suc-add) (sets_append xs ys (set l i x) (suc i))

pub written_none : (l : List ℕ) (i : ℕ) → l ≡ written l i []
unfolding written
written_none l i = refl

pub written_one : (l : List ℕ) (i v : ℕ) → set l i v ≡ written l i (v ∷ [])
unfolding written
written_one l i v = refl

pub written_on : (xs ys l : List ℕ) (i k : ℕ) → k ≡ i + length xs → written (written l i xs) k ys ≡ written l i (xs ++ ys)
unfolding written
written_on xs ys l i k e = rw e (sets_append xs ys l i)

pub length_written : (l : List ℕ) (i : ℕ) (vs : List ℕ) → length (written l i vs) ≡ length l
unfolding written
length_written l i vs = length-sets l i vs

-- two calls that write, one behind the other
pub join : {b₁ b₂ : List ℕ} {k : ℕ} (b xs ys : List ℕ) (at : ℕ) → b₁ ≡ written b at xs → b₂ ≡ written b₁ k ys
    → k ≡ at + length xs → b₂ ≡ written b at (xs ++ ys)
join {b₁} {b₂} {k} b xs ys at e f h = f ∙ ap (λ (l : List ℕ). written l k ys) e ∙ written_on xs ys b at k h

-- a byte before the run is as it was
pub written_before : (vs l : List ℕ) (i k : ℕ) → k < i → get_or (written l i vs) k 0 ≡ get_or l k 0
unfolding written
written_before [] l i k h = refl
written_before (v ∷ vs) l i k h =
    written_before vs (set l i v) (suc i) k (omega arith) ∙ get_or-set_other l i k v 0 (λ e. omega arith)

-- and one behind it
pub written_after : (vs l : List ℕ) (i k : ℕ) → i + length vs ≤ k → get_or (written l i vs) k 0 ≡ get_or l k 0
unfolding written
written_after [] l i k h = refl
written_after (v ∷ vs) l i k h =
    written_after vs (set l i v) (suc i) k (omega arith) ∙ get_or-set_other l i k v 0 (λ e. omega arith)

-- one in it is the run's
pub written_in : (vs l : List ℕ) (i j : ℕ) → i + length vs ≤ length l → j < length vs → get_or (written l i vs) (i + j) 0 ≡ get_or vs j 0
unfolding written
written_in [] l i j h q = absurd (let z : ⊥ = omega arith in z)
written_in (v ∷ vs) l i zero h q =
    rw add-zero (written_before vs (set l i v) (suc i) i (omega arith) ∙ get_or-set_same l i v 0 (omega arith))
written_in (v ∷ vs) l i (suc j) h q =
    rw (add-suc, ← suc-add) (written_in vs (set l i v) (suc i) j (rw length-set (omega arith)) (omega arith))
