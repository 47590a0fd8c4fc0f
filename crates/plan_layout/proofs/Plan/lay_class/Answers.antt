-- `lay_class` meets its contract: the shares of the doses passed are laid end to end, and `a` is their sum (Shares).
use native.Mathlib.Omega.{arith}
use Rattle.plan_layout.proofs.Shares.{kept_more, kept_none, laid_all, room_at, sum_at}
use Rattle.plan_layout.proofs.Plan.lay_class.Goals as goal

pub loop-k-init : goal.loop-k-init
loop-k-init c = kept_none _ _

pub lay_share-requires : goal.lay_share-requires
lay_share-requires c = room_at _ _ c.requires.room c.loop-k.invariant (omega arith) c.share-share.ensures

pub overflow_add-a : goal.overflow_add-a
overflow_add-a c = omega (arith, sum_at _ _ c.requires.room c.loop-k.invariant c.args.l.now.ready (omega arith) c.share-share.ensures)

pub loop-k-preserved : goal.loop-k-preserved
loop-k-preserved c = kept_more _ _ c.loop-k.invariant c.share-share.ensures c.lay_share.ensures

pub returns : goal.returns
returns c = laid_all _ _ c.requires.room c.loop-k.invariant (omega arith)
