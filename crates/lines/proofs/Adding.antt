-- Laws of a text that grows in a lent buffer: texts added one behind the other, and the room that is left. Assumes nothing.
use mathlib.Core.Path.{◌≡◌, refl, sym, ap, ◌∙◌}
use mathlib.Core.List.{List, [], ◌++◌, append_assoc}
use Prim.Native.Nat.{ℕ, ◌+◌, ◌*◌, ◌≤◌, ◌<◌}
use native.Mathlib.Omega.{arith}
use native.Mathlib.Nat.{mul-le-mul_left}
use native.Mathlib.Numerals.{add-one}
use borrow.Rule.Slice.PartMut.{put_mid}
use lib.ListN.{length, get_or, take, drop}
use lib.Seq.{length-take-le, take_all, take-suc, sets-eq, drop-drop}
use Rattle.model.specs.Lists.{gather}
use Rattle.records.specs.Written.{written}
use Rattle.lines.specs.declared.text.Text.{Text}
use Rattle.lines.specs.Text.{Put, number_text, numbers_text}
use Rattle.lines.specs.Adding.{Adds, Fits}
use Rattle.lines.proofs.Puts.{lines_length, numbers_append, numbers_length, put_length, put_more, put_none}

-- ---- texts one behind the other

-- nothing
pub adds_none : {t : Text} → Adds [] t t
adds_none = record { same_reference = refl; put = put_none _ _ }

-- a text, then another behind it
pub adds_more : {p q : List ℕ} {t u v : Text} → Adds p t u → Adds q u v → Adds (p ++ q) t v
adds_more h g = record { same_reference = g.same_reference ∙ h.same_reference; put = put_more h.put g.put }

-- what is left of the room
pub fits_behind : {p : List ℕ} {t u : Text} (m n : ℕ) → Fits m t → Adds p t u → length p + n ≤ m → Fits n u
fits_behind m n f h l = omega (arith, f, h.put.next, put_length h.put, l)

-- i of n rooms of m each, and one more
mul_room : (m i n : ℕ) → i < n → m * i + m ≤ m * n
mul_room m i n l = omega (arith, mul-le-mul_left {m = i + 1} {n = n} m (omega arith))

-- bytes that a part of the buffer was made to hold
pub put_part : (b : List ℕ) (at k : ℕ) {ys : List ℕ} (ws : List ℕ) → ys ≡ ws → k ≡ length ws → at + length ws ≤ length b → put_mid at k b ys ≡ written b at ws
unfolding written
put_part b at k ws e f fits =
    rw e (ap (λ l. take at b ++ (ws ++ l)) (drop-drop k at b ∙ ap (λ m. drop (at + m) b) f) ∙ sym (append_assoc (take at b) ws (drop (at + length ws) b)) ∙ sym (sets-eq ws b at fits))

-- ---- from the buffer's first byte on

pub fits_new : (t : Text) {b : List ℕ} (n : ℕ) → t.bytes.now ≡ b → t.end ≡ 0 → n ≤ length b → Fits n t
fits_new t n held empty h = omega (arith, ap length held, empty)

-- the buffer is given back as the text leaves it
pub put_new : {t u : Text} {text b b' : List ℕ} → t.bytes.now ≡ b → t.end ≡ 0 → Adds text t u → b' ≡ u.bytes.now → Put text b 0 b' u.end
put_new held empty h back = rw (held, empty, ← back) at h.put

-- ---- numbers

module _ (vs : List ℕ) {t : Text} where
  pub numbers_none : Adds (numbers_text (take 0 vs)) t t
  unfolding numbers_text
  numbers_none = adds_none

  pub numbers_more : {u v : Text} (i : ℕ) → i < length vs → Adds (numbers_text (take i vs)) t u → Adds (number_text (get_or vs i 0)) u v → Adds (numbers_text (take (i + 1) vs)) t v
  numbers_more i h p q = rw (add-one, take-suc vs i 0 h, numbers_append) (adds_more p q)

  pub numbers_all : {u : Text} (i : ℕ) → length vs ≤ i → Adds (numbers_text (take i vs)) t u → Adds (numbers_text vs) t u
  numbers_all i h p = rw (take_all i vs h) at p

  -- there is room for one more, and then for the newline
  pub numbers_room : {u : Text} (i n : ℕ) → i ≤ length vs → 21 * i + n ≤ 21 * length vs + 1 → Fits (21 * length vs + 1) t → Adds (numbers_text (take i vs)) t u → Fits n u
  numbers_room i n h l f p = fits_behind (21 * length vs + 1) n f p (omega (arith, l, numbers_length (take i vs), length-take-le i vs h))

-- ---- lines in a row

module _ (line : ℕ → List ℕ) {t : Text} where
  pub lines_none : Adds (gather 0 line) t t
  unfolding gather
  lines_none = adds_none

  pub lines_more : {u v : Text} (i : ℕ) → Adds (gather i line) t u → Adds (line i) u v → Adds (gather (i + 1) line) t v
  unfolding gather
  lines_more i h g = rw add-one (adds_more h g)

  -- of at most m bytes each: room for the next of n
  pub lines_room : (m n : ℕ) → ((k : ℕ) → length (line k) ≤ m) → {u : Text} (i : ℕ) → i < n → Fits (m * n) t → Adds (gather i line) t u → Fits m u
  lines_room m n short i l f h = fits_behind (m * n) m f h (omega (arith, lines_length line m short i, mul_room m i n l))
