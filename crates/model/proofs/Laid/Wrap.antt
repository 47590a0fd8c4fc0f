-- The line of one class in one interval: its pieces follow each other, no dose meets itself, each share is whole.
use mathlib.Core.Path.{◌≡◌, refl, sym, ◌∙◌}
use mathlib.Core.Bool.{Bool, true, false}
use Prim.Native.Nat.{ℕ, ◌+◌, ◌*◌, ◌-◌, ◌/◌, ◌%◌, ◌≤◌, ◌<◌}
use native.Mathlib.Nat.{div-add-mod', mod-lt, lt_of_mul-lt-mul_right}
use native.Mathlib.Omega.{arith}
use borrow.Author.Tests.{eq-eqb, ne_eqb}
use lib.Dec.{eqb}
use Rattle.model.specs.Sets.{sum, on}
use Rattle.model.specs.Lists.{total, All, none, also, Pairs, lone, then}
use Rattle.model.specs.Layout.{Piece, cut, line}
use Rattle.model.proofs.Sums.{one_term, sum_congr}
use Rattle.model.proofs.Lists.{All-gather, All-imp, Pairs-gather, sum_before, total_gather}
use Rattle.model.proofs.Wrap.{cut_cases}

-- the units of dose d in a piece
abbrev pub units : ℕ → Piece → ℕ
units d t = on (eqb d t.dose) (t.high - t.low)

on_none : (b : Bool) (x : ℕ) → x ≡ 0 → 0 ≡ on b x
on_none true x e = sym e
on_none false x e = refl

on_one : (b : Bool) (u x : ℕ) → u ≡ x → on b u + 0 ≡ on b x
on_one true u x e = omega arith
on_one false u x e = omega arith

on_two : (b : Bool) (u v x : ℕ) → u + v ≡ x → on b u + (on b v + 0) ≡ on b x
on_two true u v x e = omega arith
on_two false u v x e = omega arith

-- ---- pieces of stretches of C units

module _ (C : ℕ) where
  -- a piece of the share x of dose k at a
  pub record PieceOf (k a x : ℕ) (t : Piece) : Type 0 where
    pub own : t.dose ≡ k
    pub long : t.low < t.high
    pub fits : t.high ≤ C
    pub after : a ≤ t.fan * C + t.low
    pub until : t.fan * C + t.high ≤ a + x

  -- t, then u: u starts on the line where t ends or later; if they are of one dose, u ends in its stretch before t starts in its own
  pub record Follow (t u : Piece) : Type 0 where
    pub next : t.fan * C + t.high ≤ u.fan * C + u.low
    pub once : t.dose ≡ u.dose → u.high ≤ t.low

  module _ (pos : 0 < C) (k a x : ℕ) (lim : x ≤ C) where
    -- each piece of a share lies in the share
    pub cut_pieces : All (PieceOf k a x) (cut C k a x)
    cut_pieces =
        let e : a / C * C + a % C ≡ a = div-add-mod' a C in
        let m : a % C < C = mod-lt a pos in
        cut_cases C k a x (All (PieceOf k a x)) (λ z. none)
        (λ p h. also (record { own = refl; long = omega arith; fits = omega arith; after = omega arith; until = omega arith }) none)
        (λ p h. also (record { own = refl; long = omega arith; fits = omega arith; after = omega arith; until = omega arith })
        (also (record { own = refl; long = omega arith; fits = omega arith; after = omega arith; until = omega arith }) none))

    -- the second follows the first
    pub cut_follow : Pairs Follow (cut C k a x)
    cut_follow =
        cut_cases C k a x (Pairs Follow) (λ z. lone) (λ p h. then none lone)
        (λ p h. then (also (record { next = omega arith; once = λ q. omega arith }) none) (then none lone))

    -- together they have the share's units
    pub cut_units : (d : ℕ) → total (units d) (cut C k a x) ≡ on (eqb d k) x
    unfolding total
    cut_units d =
        let m : a % C < C = mod-lt a pos in
        cut_cases C k a x (λ l. total (units d) l ≡ on (eqb d k) x) (λ z. on_none (eqb d k) x z) (λ p h. on_one (eqb d k) _ x (omega arith))
        (λ p h. on_two (eqb d k) _ _ x (omega arith))

-- ---- the line of n shares, each at most C

module _ (C : ℕ) (pos : 0 < C) (x : ℕ → ℕ) (n : ℕ) (lim : (k : ℕ) → k < n → x k ≤ C) where
  -- the pieces of the line follow each other
  pub line_follow : Pairs (Follow C) (line C x n)
  unfolding line
  line_follow =
      Pairs-gather (λ k. PieceOf C k (sum k x) (x k)) n _ (λ k l. cut_pieces C pos k (sum k x) (x k) (lim k l))
      (λ i k l q t u s r. record { next = omega (arith, s.until, r.after, sum_before k x i l); once = λ e. absurd (omega (arith, s.own, r.own)) })
      (λ k l. cut_follow C pos k (sum k x) (x k) (lim k l))

  -- a piece of the line, of m stretches in all
  pub record Placed (m : ℕ) (t : Piece) : Type 0 where
    pub dose : t.dose < n
    pub some : 0 < x t.dose
    pub fan : t.fan < m
    pub long : t.low < t.high
    pub fits : t.high ≤ C

  -- every piece has its place
  pub line_placed : (m : ℕ) → sum n x ≤ m * C → All (Placed m) (line C x n)
  unfolding line
  line_placed m e =
      All-gather n _ (λ k l. All-imp (λ t s. record {
        dose = omega (arith, s.own);
        some = rw s.own (omega (arith, s.long, s.after, s.until));
        fan = lt_of_mul-lt-mul_right C (omega (arith, s.long, s.until, sum_before n x k l));
        long = s.long;
        fits = s.fits;
      }) (cut_pieces C pos k (sum k x) (x k) (lim k l)))

  -- the pieces of a dose have its share
  pub line_units : (d : ℕ) → d < n → total (units d) (line C x n) ≡ x d
  unfolding line
  line_units d h =
      total_gather (units d) n _ ∙ sum_congr n (λ k l. cut_units C pos k (sum k x) (x k) (lim k l) d)
      ∙ one_term n d (λ k. on (eqb d k) (x k)) h (λ k l g. rw (ne_eqb d k (λ e. g (sym e))))
      ∙ rw (eq-eqb d d refl)
