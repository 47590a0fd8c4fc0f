-- `fed_at` meets its contract: from the last record back, what is kept is that of the earliest slot among the records passed (Walks).
use Prim.Native.Nat.{◌+◌, ◌-◌}
use mathlib.Core.Path.{◌≡◌, sym}
use native.Mathlib.Omega.{arith}
use Rattle.draw.specs.Drawing.{as_state, state_kept}
use Rattle.draw.proofs.Walks.{fed_none, fed_more, fed_other, fed_not, fed_all, none_owned}
use Rattle.std.proofs.Common.{None}
use Rattle.draw.proofs.line.Line.fed_at.Goals.{in_default-via-in-None-1, in_default-via-in-Some+else-feeds}
use Rattle.draw.proofs.line.Line.fed_at.Goals as goal

pub loop-k-init : goal.loop-k-init
loop-k-init c = fed_none _ _ _ _ _ (omega (arith, c.record_count-k.ensures))

pub loop-k-preserved-in-loop-k : goal.loop-k-preserved-in-loop-k
loop-k-preserved-in-loop-k c =
    let line = c.args.self.now in
    let here : c.loop-k.k - 1 + 1 ≡ c.loop-k.k = omega arith in
    fed_more line.plan.now line.dose c.args.tick (c.loop-k.k - 1) _ (omega arith) (rw here c.loop-k.invariant) c.in-Some.ensures.0
    (rw c.in-Some.ensures.1 at (sym c.if-feeds.ensures)) (rw c.in-Some.ensures.1 at c.earlier.ensures)

pub loop-k-preserved : goal.loop-k-preserved
loop-k-preserved c =
    let line = c.args.self.now in
    let here : c.loop-k.k - 1 + 1 ≡ c.loop-k.k = omega arith in
    elim c.in_default.branch [
      | in_default-via-in-None-1 w ↦
          let none : c.own_slot.result ≡ None = cc in
          fed_other line.plan.now line.dose c.args.tick (c.loop-k.k - 1) _ (omega arith) (rw here c.loop-k.invariant) (none_owned _ c.own_slot.ensures none)
      | in_default-via-in-Some+else-feeds w ↦
          fed_not line.plan.now line.dose c.args.tick (c.loop-k.k - 1) _ (omega arith) (rw here c.loop-k.invariant) w.in-Some.ensures.0
          (rw w.in-Some.ensures.1 at (sym w.if-feeds.ensures))
    ]

pub returns-in-Some-kept : goal.returns-in-Some-kept
unfolding as_state state_kept
returns-in-Some-kept c =
    let line = c.args.self.now in
    rw c.in-Some-kept.is at (fed_all line.plan.now line.dose c.args.tick c.loop-k.k line.drawable (omega arith) c.loop-k.invariant)

pub returns-in-None : goal.returns-in-None
unfolding as_state state_kept
returns-in-None c =
    let line = c.args.self.now in
    rw c.in-None.is at (fed_all line.plan.now line.dose c.args.tick c.loop-k.k line.drawable (omega arith) c.loop-k.invariant)
