-- Round trips of numbers and records: what is written is read again, and bytes that are read are written back.
use mathlib.Core.Bool.{true}
use mathlib.Core.Logic.{inl, inr}
use mathlib.Core.Path.{◌∙◌, ◌≡◌, ap, refl, sym}
use mathlib.Core.List.{List, [], ◌∷◌, ◌++◌, append_assoc}
use Prim.Native.Nat.{ℕ, zero, suc, ◌+◌, ◌*◌, ◌/◌, ◌%◌, ◌^◌, ◌≤◌, ◌<◌}
use native.Mathlib.Nat.{add_assoc, add-suc, add-zero, one-le-pow, pow-succ', suc-add, zero-add}
use native.Mathlib.Omega.{arith}
use borrow.Author.Tests.{eqb-true}
use lib.Dec.{eqb}
use lib.ListN.{get_or-eq_default, drop, get_or, length, length-take, replicate, take}
use lib.Seq.{drop-cons, drop-drop, get_or-append-add, get_or-drop, get_or-take, take-add}
use Rattle.model.specs.Records.{Part, blank, blank_at, field, fields_at, number_at, number_bytes, record_bytes}
use Rattle.model.proofs.Fractions.{compare≤}
use Rattle.model.proofs.Records.{length_number, length_zeros, size_of}
use Rattle.model.proofs.Sets.{both_true}

-- ---- bytes

-- every number of the list is a byte; past its end 0 is read
pub record Bytes (b : List ℕ) : Type 0 where
  pub below : (i : ℕ) → get_or b i 0 < 256

-- the first n of them are bytes
pub bytes_take : (n : ℕ) (b : List ℕ) → Bytes b → Bytes (take n b)
bytes_take n b h = record {
  below = λ i. elim (compare≤ n i) [
    | inl l ↦ let e : get_or (take n b) i 0 ≡ 0 = get_or-eq_default (take n b) 0 (omega (arith, length-take n b)) in omega arith
    | inr l ↦ rw (get_or-take n b i 0 l) (h.below i)
  ];
}

-- and the others
pub bytes_drop : (n : ℕ) (b : List ℕ) → Bytes b → Bytes (drop n b)
bytes_drop n b h = record { below = λ i. rw (get_or-drop n b i 0) (h.below (n + i)) }

-- the n bytes of b from `at` on are those of c from `to` on
abbrev pub Same : List ℕ → ℕ → List ℕ → ℕ → ℕ → Type 0
Same b at c to n = (i : ℕ) → i < n → get_or b (at + i) 0 ≡ get_or c (to + i) 0

-- behind others that are as many as n
pub same_behind : (pre b : List ℕ) (n : ℕ) → length pre ≡ n → (m : ℕ) → Same (pre ++ b) n b 0 m
same_behind pre b n e m i l = rw (← e, zero-add) (get_or-append-add pre b i 0)

same_later : (b : List ℕ) (at : ℕ) (c : List ℕ) (to w n : ℕ) → Same b at c to (w + n) → Same b (at + w) c (to + w) n
same_later b at c to w n h i l = rw (add_assoc at w i, add_assoc to w i) (h (w + i) (omega arith))

-- ---- a number

-- the same bytes say the same number
pub number_same : (b : List ℕ) (at : ℕ) (c : List ℕ) (to width : ℕ) → Same b at c to width → number_at b at width ≡ number_at c to width
unfolding number_at
number_same b at c to zero h = refl
number_same b at c to (suc width) h =
    let later : Same b (suc at) c (suc to) width = λ i l. rw (suc-add at i, suc-add to i) (rw (add-suc at i, add-suc to i) at (h (suc i) (omega arith))) in
    omega (arith, number_same b (suc at) c (suc to) width later, rw (add-zero at, add-zero to) at (h 0 (omega arith)))

-- bytes say a number of their width
pub number_small : (b : List ℕ) → Bytes b → (at width : ℕ) → number_at b at width < 256 ^ width
unfolding number_at
number_small b h at zero = omega arith
number_small b h at (suc width) = omega (arith, pow-succ' 256 width, h.below at, number_small b h (suc at) width)

-- a number that is written is read again
pub number_back : (width v : ℕ) (rest : List ℕ) → v < 256 ^ width → number_at (number_bytes width v ++ rest) 0 width ≡ v
unfolding number_at number_bytes
number_back zero v rest h = omega arith
number_back (suc width) v rest h =
    let small : v / 256 < 256 ^ width = omega (arith, pow-succ' 256 width) in
    let b : List ℕ = number_bytes width (v / 256) ++ rest in
    omega (
      arith,
      number_same (v % 256 ∷ b) 1 b 0 width (same_behind (v % 256 ∷ []) b 1 refl width),
      number_back width (v / 256) rest small,
    )

-- bytes that are read are written again
pub number_taken : (b : List ℕ) → Bytes b → (at width : ℕ) → at + width ≤ length b → number_bytes width (number_at b at width) ≡ take width (drop at b)
unfolding number_at number_bytes
number_taken b h at zero l = refl
number_taken b h at (suc width) l =
    let n : ℕ = get_or b at 0 + 256 * number_at b (suc at) width in
    let low : n % 256 ≡ get_or b at 0 = omega (arith, h.below at) in
    let high : n / 256 ≡ number_at b (suc at) width = omega (arith, h.below at) in
    rw (drop-cons b at 0 (omega arith), low, high, number_taken b h (suc at) width (omega arith))

-- 0 is written as zeros
pub number_zero : (width : ℕ) → number_bytes width 0 ≡ replicate width 0
unfolding number_bytes
number_zero zero = refl
number_zero (suc width) = ap (λ (l : List ℕ). 0 ∷ l) (number_zero width)

-- ---- a record

-- the values are as many as the fields, and fit their widths
pub data Fits : List Part → List ℕ → Type 0 where
  no_part : Fits [] []
  in_field : {width v : ℕ} {parts : List Part} {values : List ℕ} → v < 256 ^ width → Fits parts values → Fits (field width ∷ parts) (v ∷ values)
  past_blank : {width : ℕ} {parts : List Part} {values : List ℕ} → Fits parts values → Fits (blank width ∷ parts) values

-- the same bytes say the same fields
pub fields_same : (parts : List Part) (b : List ℕ) (at : ℕ) (c : List ℕ) (to : ℕ) → Same b at c to (size_of parts) → fields_at parts b at ≡ fields_at parts c to
unfolding fields_at size_of
fields_same [] b at c to h = refl
fields_same (field width ∷ parts) b at c to h =
    rw (number_same b at c to width (λ i l. h i (omega arith)), fields_same parts b (at + width) c (to + width) (same_later b at c to width (size_of parts) h))
fields_same (blank width ∷ parts) b at c to h = fields_same parts b (at + width) c (to + width) (same_later b at c to width (size_of parts) h)

-- and have the same zeros
pub blank_same : (parts : List Part) (b : List ℕ) (at : ℕ) (c : List ℕ) (to : ℕ) → Same b at c to (size_of parts) → blank_at parts b at ≡ blank_at parts c to
unfolding blank_at size_of
blank_same [] b at c to h = refl
blank_same (field width ∷ parts) b at c to h = blank_same parts b (at + width) c (to + width) (same_later b at c to width (size_of parts) h)
blank_same (blank width ∷ parts) b at c to h =
    rw (number_same b at c to width (λ i l. h i (omega arith)), blank_same parts b (at + width) c (to + width) (same_later b at c to width (size_of parts) h))

-- bytes say fields that fit
pub fields_fit : (parts : List Part) (b : List ℕ) → Bytes b → (at : ℕ) → Fits parts (fields_at parts b at)
unfolding fields_at
fields_fit [] b h at = no_part
fields_fit (field width ∷ parts) b h at = in_field (number_small b h at width) (fields_fit parts b h (at + width))
fields_fit (blank width ∷ parts) b h at = past_blank (fields_fit parts b h (at + width))

-- fields that are written are read again
pub fields_back : {parts : List Part} {values : List ℕ} → Fits parts values → (rest : List ℕ) → fields_at parts (record_bytes parts values ++ rest) 0 ≡ values
unfolding fields_at record_bytes
fields_back no_part rest = refl
fields_back (in_field {width} {v} {parts} {values} l f) rest =
    let b : List ℕ = record_bytes parts values ++ rest in
    rw (append_assoc (number_bytes width v) (record_bytes parts values) rest, zero-add, number_back width v b l)
    (ap (λ (l : List ℕ). v ∷ l) (fields_same parts (number_bytes width v ++ b) width b 0 (same_behind (number_bytes width v) b width (length_number width v) (size_of parts)) ∙ fields_back f rest))
fields_back (past_blank {width} {parts} {values} f) rest =
    let b : List ℕ = record_bytes parts values ++ rest in
    rw (append_assoc (replicate width 0) (record_bytes parts values) rest, zero-add)
    (fields_same parts (replicate width 0 ++ b) width b 0 (same_behind (replicate width 0) b width (length_zeros width) (size_of parts)) ∙ fields_back f rest)

-- and the bytes that must be zero are
pub blank_back : {parts : List Part} {values : List ℕ} → Fits parts values → (rest : List ℕ) → blank_at parts (record_bytes parts values ++ rest) 0 ≡ true
unfolding blank_at record_bytes
blank_back no_part rest = refl
blank_back (in_field {width} {v} {parts} {values} l f) rest =
    let b : List ℕ = record_bytes parts values ++ rest in
    rw (append_assoc (number_bytes width v) (record_bytes parts values) rest, zero-add)
    (blank_same parts (number_bytes width v ++ b) width b 0 (same_behind (number_bytes width v) b width (length_number width v) (size_of parts)) ∙ blank_back f rest)
blank_back (past_blank {width} {parts} {values} f) rest =
    let b : List ℕ = record_bytes parts values ++ rest in
    let zeros : number_at (replicate width 0 ++ b) 0 width ≡ 0 = rw (number_zero width) at (number_back width 0 b (one-le-pow width 256 (omega arith))) in
    rw (append_assoc (replicate width 0) (record_bytes parts values) rest, zero-add, zeros)
    (blank_same parts (replicate width 0 ++ b) width b 0 (same_behind (replicate width 0) b width (length_zeros width) (size_of parts)) ∙ blank_back f rest)

-- fields that are read are written again, where the bytes that must be zero are
pub fields_taken : (parts : List Part) (b : List ℕ) → Bytes b → (at : ℕ) → blank_at parts b at ≡ true → at + size_of parts ≤ length b
    → record_bytes parts (fields_at parts b at) ≡ take (size_of parts) (drop at b)
unfolding fields_at blank_at record_bytes size_of
fields_taken [] b h at z l = refl
fields_taken (field width ∷ parts) b h at z l =
    rw (take-add width (size_of parts) (drop at b), drop-drop width at b, number_taken b h at width (omega arith), fields_taken parts b h (at + width) z (omega arith))
fields_taken (blank width ∷ parts) b h at z l =
    let p = both_true (eqb (number_at b at width) 0) (blank_at parts b (at + width)) z in
    let zero_here : number_at b at width ≡ 0 = eqb-true (number_at b at width) 0 p.0 in
    let zeros : replicate width 0 ≡ take width (drop at b) = sym (number_zero width) ∙ rw zero_here at (number_taken b h at width (omega arith)) in
    rw (take-add width (size_of parts) (drop at b), drop-drop width at b, zeros, fields_taken parts b h (at + width) p.1 (omega arith))
