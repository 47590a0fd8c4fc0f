-- `state_at` meets its contract: Finished from the deadline on, Shut before the release, else what the slots say (Points).
use mathlib.Core.Path.{◌∙◌}
use Rattle.draw.specs.Drawing.{as_state}
use Rattle.draw.proofs.Points.{state_finished, state_shut, state_open}
use Rattle.draw.proofs.line.Line.state_at.Goals as goal

pub returns-then-d-tick : goal.returns-then-d-tick
unfolding as_state
returns-then-d-tick c = state_finished c.args.o.now _ _ _ c.requires.1 c.dose-d.ensures c.if-d-tick.true

pub returns-then-tick-d : goal.returns-then-tick-d
unfolding as_state
returns-then-tick-d c = state_shut c.args.o.now _ _ _ c.requires.1 c.dose-d.ensures c.if-d-tick.false c.if-tick-d.true

pub returns-else-tick-d : goal.returns-else-tick-d
returns-else-tick-d c = c.fed_at.ensures ∙ state_open c.args.o.now _ _ _ c.requires.1 c.dose-d.ensures c.if-d-tick.false c.if-tick-d.false
