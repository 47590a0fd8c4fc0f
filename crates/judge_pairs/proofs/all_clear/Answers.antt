-- `all_clear` meets its contract: every slot is apart from all behind it (Ranges).
use Prim.Native.Nat.{◌-◌, ◌/◌}
use lib.ListN.{length}
use Rattle.std.proofs.Common.{rules}
use Rattle.model.specs.Records.{record_size}
use Rattle.judge_clauses.specs.Tests.{ApartAfter}
use Rattle.judge_clauses.proofs.Ranges.{tells_all}
use Rattle.judge_pairs.proofs.all_clear.Goals as goal

pub returns : goal.returns
returns c =
    let A = c.args in
    tells_all A.p _ _ _ _ (λ i. ApartAfter A.instants.now.at (A.instants.now.count - 1) A.plan.now i (length A.plan.now / record_size))
    c.all.ensures.ran (cc) (λ x b q k. search rules)
