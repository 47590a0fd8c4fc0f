-- How records are added behind those of a plan that grows in a lent buffer.
use Rattle.std.specs.Prelude.{◌≡◌, List, ℕ, ◌+◌, ◌*◌, ◌≤◌, length}
use Rattle.model.specs.Records.{record_size}
use Rattle.model.specs.Plans.{PlanRecord}
use Rattle.model.specs.Layout.{Table}
use Rattle.plan_layout.specs.declared.Plan.{Plan}
use Rattle.plan_layout.specs.declared.filling.Filling.{Filling}
use Rattle.plan_layout.specs.Held.{table_from}
use Rattle.plan_layout.specs.Laying.{Wrote}

-- there is room for n records more
abbrev pub Fits : ℕ → Plan → Type 0
Fits n p = record_size * (p.records + n) ≤ length p.bytes.now

-- the members of l, each as the record `kind` makes of it, stand behind the records that stood there, every other byte is as it was, and the buffer is
-- the one that was lent
pub record Grows {A : Type 0} (kind : A → PlanRecord) (l : List A) (before after : Plan) : Type 0 where
  pub same_reference : after.bytes.ghost_name ≡ before.bytes.ghost_name
  pub wrote : Wrote kind l before.bytes.now before.records after.bytes.now after.records

-- the table that slots are laid from
abbrev pub table_in : Filling → Table
table_in x = table_from x.tables.now x.shares.now x.reserved.now
