-- `interval_of` meets its contract: the search from the interval reached finds what the whole search finds.
use mathlib.Core.Path.{◌≡◌, ◌∙◌, sym}
use Prim.Native.Nat.{◌+◌, ◌-◌}
use Rattle.judge_slots.proofs.Places.{scan_none, scan_on, scan_stop}
use native.Mathlib.Omega.{arith}
use Rattle.judge_slots.proofs.interval_of.Goals as goal

pub returns-then-tick-instants : goal.returns-then-tick-instants
returns-then-tick-instants c =
    (sym (scan_stop _ _ _ _ (omega arith) c.if-tick-instants.true) ∙ rw c.interval_count-intervals.ensures at c.loop-j.invariant, omega arith)

pub loop-j-preserved : goal.loop-j-preserved
loop-j-preserved c =
    let intervals = c.interval_count-intervals.result in
    let fewer : intervals - (c.loop-j.j + 1) ≡ intervals - c.loop-j.j - 1 = omega arith in
    rw fewer (sym (scan_on _ _ _ _ (omega arith) c.if-tick-instants.false) ∙ c.loop-j.invariant)

pub returns : goal.returns
returns c =
    let intervals = c.args.instants.now.count - 1 in
    let last : c.interval_count-intervals.result ≡ c.loop-j.j = omega arith in
    (last ∙ sym (scan_none _ _ c.loop-j.j (intervals - c.loop-j.j) (omega arith)) ∙ rw c.interval_count-intervals.ensures at c.loop-j.invariant, omega arith)
