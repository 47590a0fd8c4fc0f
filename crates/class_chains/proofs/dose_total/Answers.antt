-- `dose_total` meets its contract: the row of the dose is added up.
use Rattle.std.proofs.Common.{◌∙◌}
use Rattle.class_chains.proofs.Laws.{got_side_by_side}
use Rattle.class_chains.proofs.dose_total.Goals as goal

pub total-requires-clause-fits : goal.total-requires-clause-fits
total-requires-clause-fits c = rw (got_side_by_side c.args.shares.now c.args.d) c.requires.1

pub returns : goal.returns
returns c = c.total.ensures ∙ got_side_by_side c.args.shares.now c.args.d
