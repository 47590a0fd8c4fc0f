-- `raise_pass` meets its contract: every dose passed is met or dead.
use Rattle.std.proofs.Common.{false, rules}
use Rattle.model.specs.Limits.{most_marks}
use Rattle.steps.proofs.Arrays.{all_same}
use Rattle.class_shares.proofs.Laws.{raised_none, raised_step}
use Rattle.class_shares.proofs.Sharing.raise_pass.Goals as goal

pub loop-d-init : goal.loop-d-init
loop-d-init c =
    let g = c.args.self.now in
    record { reshared = search rules; raised = raised_none _ (λ k. all_same most_marks k false) (record { bounded = g.fill.bounded; needed = g.needed }) }

pub loop-d-preserved : goal.loop-d-preserved
loop-d-preserved c =
    let so_far = c.loop-d.invariant in
    let same = so_far.reshared in
    record {
      reshared = search rules;
      raised = raised_step _ c.loop-d.d so_far.raised (rw (same.fill.rooms, same.fill.holds, same.needs) at c.raise_dose.ensures.raised) c.loop-d-test.true;
    }
