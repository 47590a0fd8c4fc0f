use Prim.Native.Nat.{ℕ, ◌<◌}
use Rattle.measure.specs.Arrays.{setting_by, sets_of}
use Rattle.measure.proofs.Free.{Frees}
use Rattle.records.specs.Plan.{class_in}
use Rattle.judge_clauses.specs.Tests.{ClassFits, order_held}
use Rattle.judge_rates.proofs.classes_fit.Given as goal

abbrev pub invariant-loop-i : goal.invariant-loop-i
invariant-loop-i l = record {
  left : Frees (setting_by l.o l.instants) (λ j. l.o.fans) (sets_of l.certificate.numbers) l.i l.free;
  fit : (k : ℕ) → k < l.i → ClassFits (order_held l.o l.instants) l.certificate.numbers k (class_in l.plan k);
}
