use Rattle.judge_slots.proofs.Totals.{Summed}
use Rattle.order.specs.Held.{dose_held}
use Rattle.judge_slots.proofs.units.units_met.Given as goal

abbrev pub invariant-loop-i : goal.invariant-loop-i
invariant-loop-i l = Summed (λ k. (dose_held l.o k).grams) l.plan l.certificate.numbers l.o.count l.certificate.classes l.i l.sums
