-- `feeds` meets its contract: a start before the next second, and an end after this one (Seconds).
use borrow.Author.Tests.{le-ltb, lt-ltb}
use mathlib.Core.Path.{refl, ◌∙◌}
use Rattle.records.specs.Held.{as_slot}
use Rattle.draw.proofs.Seconds.{feeds_by}
use Rattle.draw.proofs.line.feeds.Goals as goal

pub returns-then-starts-next : goal.returns-then-starts-next
returns-then-starts-next c =
    let A = c.args in
    rw (lt-ltb _ _ c.if-starts-next.true) at (feeds_by (as_slot A.s) A.tick c.product-now.ensures c.moment-next.ensures c.starts.ensures c.ends.ensures)

pub returns-else-starts-next : goal.returns-else-starts-next
returns-else-starts-next c =
    let A = c.args in
    le-ltb _ _ c.if-starts-next.false
    ∙ (rw (le-ltb _ _ c.if-starts-next.false) at (feeds_by (as_slot A.s) A.tick c.product-now.ensures c.moment-next.ensures c.starts.ensures refl))
