-- `earlier_clash` meets its contract: no dose passed clashes with dose k, so the first among those left is the first of all (Firsts).
use Prim.Native.Nat.{ℕ, ◌-◌, ◌+◌}
use mathlib.Core.Bool.{Bool}
use mathlib.Core.Path.{◌≡◌, sym, ap, ◌∙◌}
use native.Mathlib.Omega.{arith}
use Rattle.model.specs.Orders.{clash}
use Rattle.model.specs.Orders as orders
use Rattle.order.specs.declared.Order.{Order}
use Rattle.order.specs.Held.{dose_held}
use Rattle.order.specs.Gathered.{doses_clash}
use Rattle.order.proofs.Firsts.{first_none, first_stop, first_on}
use Rattle.order.proofs.earlier_clash.Goals as goal

-- two doses of the order clash as they do when taken from its array
of-array : (rest : ℕ) (o : Order) (k j : ℕ) {b : Bool} {d e : orders.Dose} → d ≡ dose_held o k → e ≡ dose_held o j → b ≡ clash rest d e → doses_clash rest o k j ≡ b
of-array rest o k j {b} {d} {e} p q h =
    sym (h ∙ ap (λ (x : orders.Dose). clash rest x e) p ∙ ap (λ (x : orders.Dose). clash rest (dose_held o k) x) q)

pub returns-then-dose_clash : goal.returns-then-dose_clash
returns-then-dose_clash c =
    let o = c.args.o.now in
    let L = c.loop-j in
    let e = of-array o.rest o c.args.k L.j c.dose-d.ensures c.dose.ensures c.dose_clash.ensures in
    sym (first_stop (doses_clash o.rest o c.args.k) L.j (c.args.k - L.j) (omega arith) (e ∙ c.if-dose_clash.true)) ∙ L.invariant

pub loop-j-preserved : goal.loop-j-preserved
loop-j-preserved c =
    let o = c.args.o.now in
    let L = c.loop-j in
    let e = of-array o.rest o c.args.k L.j c.dose-d.ensures c.dose.ensures c.dose_clash.ensures in
    let less : c.args.k - (L.j + 1) ≡ c.args.k - L.j - 1 = omega arith in
    rw less (sym (first_on (doses_clash o.rest o c.args.k) L.j (c.args.k - L.j) (omega arith) (e ∙ c.if-dose_clash.false)) ∙ L.invariant)

pub returns : goal.returns
returns c =
    let o = c.args.o.now in
    let L = c.loop-j in
    sym (first_none (doses_clash o.rest o c.args.k) L.j (c.args.k - L.j) (omega arith)) ∙ L.invariant
