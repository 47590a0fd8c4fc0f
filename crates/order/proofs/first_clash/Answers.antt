-- `first_clash` meets its contract: no dose passed clashes with an earlier one, so the first among those left is the first of all (Firsts).
use Prim.Native.Nat.{◌-◌, ◌+◌}
use mathlib.Core.Bool.{true, false}
use mathlib.Core.Path.{◌≡◌, sym, ap, ◌∙◌}
use native.Mathlib.Omega.{arith}
use Rattle.std.specs.Prelude.{is_some}
use Rattle.order.specs.Gathered.{clashes_earlier}
use Rattle.order.proofs.Firsts.{first_none, first_stop, first_on}
use Rattle.order.proofs.first_clash.Goals as goal

pub returns-then-is_some : goal.returns-then-is_some
returns-then-is_some c =
    let o = c.args.o.now in
    let L = c.loop-k in
    let e : clashes_earlier o.rest o L.k ≡ true = ap is_some (sym c.earlier_clash-clash.ensures) ∙ sym c.is_some.ensures ∙ c.if-is_some.true in
    sym (first_stop (clashes_earlier o.rest o) L.k (o.count - L.k) (omega arith) e) ∙ L.invariant

pub loop-k-preserved : goal.loop-k-preserved
loop-k-preserved c =
    let o = c.args.o.now in
    let L = c.loop-k in
    let e : clashes_earlier o.rest o L.k ≡ false = ap is_some (sym c.earlier_clash-clash.ensures) ∙ sym c.is_some.ensures ∙ c.if-is_some.false in
    let less : o.count - (L.k + 1) ≡ o.count - L.k - 1 = omega arith in
    rw less (sym (first_on (clashes_earlier o.rest o) L.k (o.count - L.k) (omega arith) e) ∙ L.invariant)

pub returns : goal.returns
returns c =
    let o = c.args.o.now in
    let L = c.loop-k in
    sym (first_none (clashes_earlier o.rest o) L.k (o.count - L.k) (omega arith)) ∙ L.invariant
