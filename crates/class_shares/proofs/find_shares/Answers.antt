-- `find_shares` meets its contract: no shares are within all bounds, and stay so.
use Rattle.std.proofs.Common.{refl, arith}
use Rattle.class_shares.proofs.Laws.{within_none}
use Rattle.class_shares.proofs.find_shares.Goals as goal

pub invariant_of-fill : goal.invariant_of-fill
invariant_of-fill c =
    record { fits = c.fits-rooms; bounded = (within_none {needs = c.args.needs.now} (λ i h. c.fill.ensures.clones i 0 (omega arith) refl)).bounded }

pub invariant_of-sharing : goal.invariant_of-sharing
invariant_of-sharing c =
    record { needed = (within_none {rooms = c.args.rooms.now} {holds = c.args.holds.now} (λ i h. c.fill.ensures.clones i 0 (omega arith) refl)).needed }
