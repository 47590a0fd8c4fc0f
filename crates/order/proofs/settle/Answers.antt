-- `settle` meets its contract: the tests come in turn: exactly one F, or 6; at most 24 doses, or 7; no first clash by the order's own rest, or 8.
use Prim.Native.Nat.{ℕ, ◌<◌}
use mathlib.Core.Path.{◌≡◌, refl, sym, ap, ◌∙◌}
use native.Mathlib.Omega.{arith}
use borrow.Author.Tests.{eq-eqb, ne_eqb, le-leb, lt-leb}
use Rattle.std.specs.Prelude.{Option, Some, Result}
use Rattle.order.specs.declared.Gathered.{Gathered}
use Rattle.order.specs.declared.Order.{Order}
use Rattle.order.specs.declared.refusal.Refusal.{Refusal}
use Rattle.order.specs.Gathered.{clashes_earlier, first_clash, clashed, settled}
use Rattle.order.proofs.Cases.{at_off, at_on}
use Rattle.order.proofs.Firsts.{first_below}
use Rattle.order.proofs.settle.Goals as goal

abbrev Answer : Type 0
Answer = Result Order Refusal

-- the first that clashes is one of the doses
is-dose : (o : Order) (k : ℕ) {f : Option ℕ} → f ≡ first_clash o.rest o → f ≡ Some k → k < o.count
is-dose o k e h = omega (arith, first_below (clashes_earlier o.rest o) 0 o.count k (sym e ∙ h))

-- the answer for a first clash, and for none
by-clash : (s : Gathered) {f : Option ℕ} (k : Option ℕ) → f ≡ first_clash s.order.rest s.order → f ≡ k → clashed s k ≡ clashed s (first_clash s.order.rest s.order)
by-clash s k e h = ap (clashed s) (sym h ∙ e)

pub returns-then-s-ne1 : goal.returns-then-s-ne1
unfolding settled
returns-then-s-ne1 c = at_off (λ (r : Answer). r) _ _ (sym (ne_eqb _ _ c.if-s-ne1.true)) refl

pub returns-then-s-gt-MOST_DOSES : goal.returns-then-s-gt-MOST_DOSES
unfolding settled
returns-then-s-gt-MOST_DOSES c =
    at_on (λ (r : Answer). r) _ _ (sym (eq-eqb _ _ c.if-s-ne1.false))
    (at_off (λ (r : Answer). r) _ _ (sym (lt-leb _ _ c.if-s-gt-MOST_DOSES.true)) refl)

pub offset_bounds-s-k : goal.offset_bounds-s-k
offset_bounds-s-k c = omega (arith, is-dose c.args.s.now.order c.in-Some.k c.first_clash.ensures c.in-Some.is)

pub bounds-s-k : goal.bounds-s-k
bounds-s-k c = omega (arith, is-dose c.args.s.now.order c.in-Some.k c.first_clash.ensures c.in-Some.is)

pub returns-in-Some : goal.returns-in-Some
unfolding settled
returns-in-Some c =
    at_on (λ (r : Answer). r) _ _ (sym (eq-eqb _ _ c.if-s-ne1.false))
    (at_on (λ (r : Answer). r) _ _ (sym (le-leb _ _ c.if-s-gt-MOST_DOSES.false)) (by-clash c.args.s.now _ c.first_clash.ensures c.in-Some.is))

pub returns-in-None : goal.returns-in-None
unfolding settled
returns-in-None c =
    at_on (λ (r : Answer). r) _ _ (sym (eq-eqb _ _ c.if-s-ne1.false))
    (at_on (λ (r : Answer). r) _ _ (sym (le-leb _ _ c.if-s-gt-MOST_DOSES.false)) (by-clash c.args.s.now _ c.first_clash.ensures c.in-None.is))
