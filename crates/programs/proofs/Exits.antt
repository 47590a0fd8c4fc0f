-- Every exit has one of the statuses. Assumes nothing.
use Rattle.std.proofs.Common.{arith}
use Rattle.programs.specs.declared.Exit.{Exit}
use Rattle.programs.specs.declared.Exit.TheVariants.{Done, Refused, Failed}
use Rattle.programs.specs.Exits.{Exits, status}

pub exits : (x : Exit) → Exits (status x)
exits Done = omega arith
exits Refused = omega arith
exits Failed = omega arith
