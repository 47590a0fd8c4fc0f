-- `fans_blank` meets its contract: byte 3, and the bytes from 12 on, are asked to be zero.
use mathlib.Core.Bool.{and-true}
use Rattle.model.specs.Records.{blank_at}
use Rattle.records.proofs.order_records.fans_blank.Goals as goal

pub returns-then-blank : goal.returns-then-blank
unfolding blank_at
returns-then-blank c = rw (← c.blank.ensures, c.if-blank.true, and-true) c.blank-then-blank.ensures

pub returns-else-blank : goal.returns-else-blank
unfolding blank_at
returns-else-blank c = rw (← c.blank.ensures, c.if-blank.false)
