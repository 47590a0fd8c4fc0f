use Rattle.std.proofs.Common.{◌≡◌, ◌≢◌, ℕ, ◌<◌, ◌-◌, get_or}
use Rattle.model.specs.Limits.{most_doses}
use Rattle.class_chains.specs.Chains.{got, Kept}
use Rattle.class_shares.specs.Sharings.{Reshared}
use Rattle.class_shares.proofs.Sharing.raise_dose.Given as goal

-- what is dead was left alone, and so were the other doses
abbrev pub invariant-loop-d : goal.invariant-loop-d
invariant-loop-d l =
    let x = l.initial.self.fill.shares.now in
    let y = l.self.fill.shares.now in
    record {
      reshared : Reshared l.initial.self l.self;
      left : l.dead ≡ l.initial.dead;
      others : (k : ℕ) → k < most_doses → k ≢ l.d → got y k ≡ got x k;
      kept : Kept l.dead x l.dead y;
    }

-- what the dose is short of
abbrev pub decreases-loop-d : goal.decreases-loop-d
decreases-loop-d l = get_or l.self.needs.now l.d 0 - got l.self.fill.shares.now l.d
