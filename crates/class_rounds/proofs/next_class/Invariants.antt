use Rattle.model.specs.Classes.{W}
use Rattle.measure.specs.Arrays.{set_of, row_of}
use Rattle.measure.specs.Held.{as_setting}
use Rattle.class_rounds.specs.Rounds.{Candidate, NonePast}
use Rattle.class_rounds.proofs.next_class.Given as goal

abbrev pub invariant-loop-class : goal.invariant-loop-class
invariant-loop-class l = Candidate (as_setting l.setting) (row_of l.free) (set_of l.initial.set) (set_of l.set)
    × NonePast l.setting.order.count (set_of l.set)

abbrev pub decreases-loop-class : goal.decreases-loop-class
decreases-loop-class l = W (as_setting l.setting) (set_of l.set)
