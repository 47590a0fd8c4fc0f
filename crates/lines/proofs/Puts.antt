-- Laws of texts put into a buffer one behind the other, and of their lengths. Assumes nothing.
use mathlib.Core.Path.{◌≡◌, refl, sym, ap, ◌∙◌}
use mathlib.Core.Bool.{Bool, true, false}
use mathlib.Core.List.{List, [], ◌∷◌, ◌++◌, append-nil, append_assoc}
use Prim.Native.Nat.{ℕ, zero, suc, ◌+◌, ◌*◌, ◌/◌, ◌%◌, ◌≤◌}
use native.Mathlib.Omega.{arith}
use lib.Dec.{ltb}
use lib.ListN.{length, set, take, drop, length-append}
use lib.Seq.{sets-eq, take-append_seam}
use Rattle.model.specs.Lists.{gather}
use Rattle.records.proofs.Laws.{join, length_written, written_none, written_one}
use Rattle.records.specs.Written.{written}
use Rattle.lines.specs.Text.{Put, bare_text, decimal, digit_zero, number_text, numbers_text, rest_text}

-- the promise leaves no choice
pub put_same : {text b b₁ b₂ : List ℕ} {at e₁ e₂ : ℕ} → Put text b at b₁ e₁ → Put text b at b₂ e₂ → (b₁ ≡ b₂) × (e₁ ≡ e₂)
put_same h g = (h.now ∙ sym g.now, h.next ∙ sym g.next)

-- the buffer is as long as before
pub put_length : {text b b' : List ℕ} {at e : ℕ} → Put text b at b' e → length b' ≡ length b
put_length {text} {b} {at = at} h = ap length h.now ∙ length_written b at text

-- a text from the first byte on is the buffer's front
pub put_front : {text b b' : List ℕ} {e : ℕ} → Put text b 0 b' e → e ≤ length b' → take e b' ≡ text
unfolding written
put_front {text} {b} {b'} {e} h fits =
    let size : 0 + length text ≤ length b = omega (arith, h.next, put_length h) in
    let next : e ≡ length text = omega (arith, h.next) in
    ap (take e) (h.now ∙ sets-eq text b 0 size) ∙ ap (λ n. take n (text ++ drop (0 + length text) b)) next ∙ take-append_seam text (drop (0 + length text) b)

-- nothing
pub put_none : (b : List ℕ) (at : ℕ) → Put [] b at b at
put_none b at = record { next = omega arith; now = written_none b at }

-- one byte
pub put_one : (b : List ℕ) (at v : ℕ) → Put (v ∷ []) b at (set b at v) (at + 1)
put_one b at v = record { next = refl; now = written_one b at v }

-- a text, then another behind it
pub put_more : {p q b b₁ b₂ : List ℕ} {at e₁ e₂ : ℕ} → Put p b at b₁ e₁ → Put q b₁ e₁ b₂ e₂ → Put (p ++ q) b at b₂ e₂
put_more {p} {q} {b} {at = at} h g = record {
  next = omega (arith, h.next, g.next, length-append p q);
  now = join b p q at h.now g.now h.next;
}

-- ---- digits

-- no more digits than places
pub decimal_length : (places v : ℕ) → length (decimal places v) ≤ places
unfolding decimal
decimal_length zero v = omega arith
decimal_length (suc places) v = go (ltb v 10) refl (decimal_length places (v / 10))
  where
    go : (t : Bool) → ltb v 10 ≡ t → length (decimal places (v / 10)) ≤ places → length (decimal (suc places) v) ≤ suc places
    go true e h = rw e (omega arith)
    go false e h = rw e (omega (arith, length-append (decimal places (v / 10)) ((digit_zero + v % 10) ∷ [])))

-- ---- numbers

pub numbers_append : (xs : List ℕ) (y : ℕ) → numbers_text (xs ++ (y ∷ [])) ≡ numbers_text xs ++ number_text y
unfolding numbers_text
numbers_append [] y = append-nil (number_text y)
numbers_append (x ∷ xs) y = rw (numbers_append xs y) (sym (append_assoc (number_text x) (numbers_text xs) (number_text y)))

-- a space and at most 20 digits for each number
pub numbers_length : (vs : List ℕ) → length (numbers_text vs) ≤ 21 * length vs
unfolding numbers_text
numbers_length [] = omega arith
numbers_length (v ∷ vs) =
    omega (arith, length-append (number_text v) (numbers_text vs), decimal_length 20 v, numbers_length vs)

-- a line of bare numbers: at most 20 digits and, for each other number, 21 bytes
pub bare_length : (v : ℕ) (vs : List ℕ) → length (bare_text v vs) ≤ 20 + 21 * length vs + 1
bare_length v vs =
    omega (arith, length-append (decimal 20 v) (rest_text vs), length-append (numbers_text vs) (10 ∷ []), decimal_length 20 v, numbers_length vs)

-- lines in a row, of at most m bytes each
pub lines_length : (line : ℕ → List ℕ) (m : ℕ) → ((k : ℕ) → length (line k) ≤ m) → (i : ℕ) → length (gather i line) ≤ m * i
unfolding gather
lines_length line m short zero = omega arith
lines_length line m short (suc i) = omega (arith, length-append (gather i line) (line i), short i, lines_length line m short i)
