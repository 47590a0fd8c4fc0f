-- A test of every number of a range, as `(p..m).all(..)` makes it. Assumes nothing.
use denote.Param.Members.{Mut}
use mathlib.Core.Bool.{Bool, true, false}
use mathlib.Core.List.{List}
use mathlib.Core.Path.{◌≡◌, refl}
use Prim.Native.Nat.{ℕ, ◌+◌, ◌-◌, ◌<◌, ◌≤◌}
use native.Mathlib.Omega.{arith}
use lib.ListN.{length}
use Rattle.std.specs.Prelude.{Option}
use Rattle.std.specs.Bool.{MatchBool}
use Rattle.std.specs.Fn.{Called}
use Rattle.std.specs.Iterator.{YieldsThen}
use Rattle.std.specs.List.{AllWithin, FoldsTo, HoldsAt, range_with_len}
use Rattle.std.specs.Option.{MatchOption}
use Rattle.std.specs.declared.ops.Range.{Range}
use Rattle.std.proofs.iter.Yields.{nat_range_steps}
use Rattle.std.proofs.lemmas.Iterator.{YieldsList-from_range, cases_from_all}
use Rattle.std.proofs.lemmas.List.FromFn.{get_or-range_with_len, length-range_with_len}
use Rattle.judge_clauses.specs.Tests.{Tells}
use Rattle.judge_clauses.proofs.Tell.{tells_by, tells_off, tells_on}

module _ {P : ℕ → Type 0} where
  -- what holds of each place of the list of the numbers holds of each number
  tells_range : (p m : ℕ) (r : Bool)
      → MatchBool r (AllWithin P (range_with_len p (m - p)) 0 (length (range_with_len p (m - p))))
      ((k : ℕ) × (k < length (range_with_len p (m - p))) × HoldsAt (λ i. P i → ⊥) (range_with_len p (m - p)) k)
      → Tells r ((i : ℕ) → i < m → p ≤ i → P i)
  tells_range p m true h = tells_on (λ i l g.
      let at : p + (i - p) ≡ i = omega arith in
      let e = get_or-range_with_len p (m - p) (i - p) 0 (omega arith) in
      rw (e, at) at (h (i - p) 0 (omega arith) (omega (arith, length-range_with_len p (m - p)))))
  tells_range p m false h = tells_off (λ all.
      let few : h.0 < m - p = omega (arith, h.1, length-range_with_len p (m - p)) in
      let e = get_or-range_with_len p (m - p) h.0 0 few in
      (rw e at (h.2 0)) (all (p + h.0) (omega arith) (omega arith)))

-- where each call of the closure tells of its number, `all` tells of every number of the range
pub tells_all : {F : Type 0} {g : Mut F (ℕ × Unit {0}) Bool} {s : Range ℕ} (p m : ℕ) (u : Range ℕ) (f : F) (r : Bool) (P : ℕ → Type 0)
    → (xs : List ℕ) × (o : Option ℕ) × (j : F) × YieldsThen nat_range_steps s xs o u × FoldsTo (λ p x q. Called g p (x, tt) true q) f xs j
    × MatchOption o (r ≡ true) (λ x. (r ≡ false) × ((h : F) × Called g j (x, tt) false h))
    → s ≡ record { start = p; end = m } → ((x : ℕ) (b : Bool) (q : F) → Called g f (x, tt) b q → (q ≡ f) × Tells b (P x)) → Tells r ((i : ℕ) → i < m → p ≤ i → P i)
tells_all p m u f r P ran e told =
    tells_range p m r
    (cases_from_all u f r P (λ i. P i → ⊥) ran (YieldsList-from_range p m (m - p) e refl)
    (λ x q k. let t = told x true q k in (t.0, t.1.yes refl)) (λ x q k. (told x false q k).1.no refl))

-- neighbours: from number i - 1 and number i to number i and number i + 1
pub tells_next : (T : ℕ → ℕ → Type 0) (p m : ℕ) {r : Bool} → Tells r ((i : ℕ) → i < m → p + 1 ≤ i → T (i - 1) i) → Tells r ((i : ℕ) → i + 1 < m → p ≤ i → T i (i + 1))
tells_next T p m t =
    tells_by t
    (λ all i l g. let back : i + 1 - 1 ≡ i = omega arith in rw back at (all (i + 1) l (omega arith)))
    (λ all i l g. let back : i - 1 + 1 ≡ i = omega arith in rw back at (all (i - 1) (omega arith) (omega arith)))
