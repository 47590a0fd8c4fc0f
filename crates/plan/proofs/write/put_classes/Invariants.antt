use mathlib.Core.List.{[], ◌∷◌}
use Rattle.model.specs.Lists.{gather}
use Rattle.model.specs.Plans.{class_record}
use Rattle.plan_layout.specs.Growing.{Grows}
use Rattle.plan.specs.Held.{class_from}
use Rattle.plan.proofs.write.put_classes.Given as goal

abbrev pub invariant-loop-i : goal.invariant-loop-i
invariant-loop-i l = Grows class_record (gather l.i (λ j. class_from l.t j ∷ [])) l.initial.plan l.plan
