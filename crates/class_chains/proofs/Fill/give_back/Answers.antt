-- `give_back` meets its contract: less is given out.
use Rattle.std.proofs.Common.{rules}
use Rattle.class_chains.proofs.Laws.{cell_written, dose_gives}
use Rattle.class_chains.proofs.Fill.give_back.Goals as goal

pub invariant_of-self : goal.invariant_of-self
invariant_of-self c =
    let asked = c.requires in
    let wrote = cell_written c.args.self.now.shares.now c.args.d c.args.j _ asked.0 asked.1 (search rules) in
    record { fits = c.args.self.now.fits; bounded = dose_gives _ _ c.args.less asked.0 asked.1 c.args.self.now.bounded asked.2 wrote }
