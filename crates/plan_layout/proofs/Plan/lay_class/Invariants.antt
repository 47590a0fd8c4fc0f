use Rattle.plan_layout.specs.Held.{as_lane, share_at}
use Rattle.plan_layout.proofs.Shares.{Kept}
use Rattle.plan_layout.proofs.Plan.lay_class.Given as goal

abbrev pub invariant-loop-k : goal.invariant-loop-k
invariant-loop-k l = Kept (as_lane l.l) (λ d. share_at l.x.tables.now l.x.shares.now l.i d l.j) l.initial.self l.self l.a l.k
