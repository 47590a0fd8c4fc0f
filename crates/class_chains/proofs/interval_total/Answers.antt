-- `interval_total` meets its contract: the column of the interval is added up.
use Rattle.class_chains.specs.Chains.{given}
use Rattle.class_chains.proofs.interval_total.Goals as goal

pub total-requires-clause-fits : goal.total-requires-clause-fits
unfolding given
total-requires-clause-fits c = c.requires.1

pub returns : goal.returns
unfolding given
returns c = c.total.ensures
