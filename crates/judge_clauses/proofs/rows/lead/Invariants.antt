use Prim.Native.Nat.{ℕ, ◌<◌}
use mathlib.Core.Path.{◌≡◌}
use Rattle.model.specs.Records.{class_kind}
use Rattle.records.specs.Plan.{kind_at}
use Rattle.judge_clauses.proofs.rows.lead.Given as goal

abbrev pub invariant-loop-i : goal.invariant-loop-i
invariant-loop-i l = (k : ℕ) → k < l.i → kind_at l.plan k ≡ class_kind
