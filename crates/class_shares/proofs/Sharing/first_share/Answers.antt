-- `first_share` meets its contract: the smallest of what is missing, room and spare time fits all three.
use Rattle.class_shares.proofs.Laws.{took_smallest, needed_took}
use Rattle.class_shares.proofs.Sharing.first_share.Goals as goal

pub invariant_of-self : goal.invariant_of-self
invariant_of-self c =
    let asked = c.requires in
    let took =
    took_smallest _ _ c.args.miss _ _ _ _ asked.0 asked.1 c.args.self.now.fill.bounded c.min.ensures c.min-a.ensures c.room-room.ensures c.spare.ensures c.take.ensures.taken in
    record { needed = needed_took _ _ _ _ c.args.self.now.needed asked.2 took }

pub returns-clause-took : goal.returns-clause-took
returns-clause-took c =
    took_smallest _ _ c.args.miss _ _ _ _ c.requires.0 c.requires.1 c.args.self.now.fill.bounded c.min.ensures c.min-a.ensures c.room-room.ensures c.spare.ensures
    c.take.ensures.taken
