-- Laws of what comes back: refusal 9 or a plan of an order that was read, and so what planning bytes answers. Assumes nothing.
use mathlib.Core.Path.{◌≡◌, ap, ◌∙◌}
use mathlib.Core.List.{List}
use Prim.Native.Nat.{ℕ, ◌≤◌, ◌<◌}
use lib.ListN.{length}
use Rattle.std.specs.Prelude.{Option, Some, None}
use Rattle.model.specs.Limits.{last_open_bay, plan_room}
use Rattle.model.specs.Orders.{Order, read_order}
use Rattle.model.specs.Records.{read, refused}
use Rattle.model.specs.Layout.{slots_of, table_slots}
use Rattle.model.specs.Answers.{Plans, no_room, overwritten, plan_bytes, refusal, refuses, unread}
use Rattle.model.specs.Answers as answers
use Rattle.plan_layout.specs.declared.Tables.{Tables}
use Rattle.plan_layout.specs.Held.{share_at, table_from}
use Rattle.classes.specs.declared.TooFast.{TooFast}
use Rattle.classes.specs.Answer.{AgainstTop, nine}
use Rattle.plan.specs.Held.{TablesHold, bytes_from, members_from}
use Rattle.plan.specs.Answered.{PlansOrder, WritesOrder, above, planned, plans, unplanned, writes}
use Rattle.plan.proofs.Holding.{held_bytes, held_slots}

-- ---- an order that was read

-- the plan of arrays that hold the order's classes and shares is written
pub written : (o : Order) (t : Tables) (x : List ℕ) (m : List (List ℕ)) (h : TablesHold o t x m) {before after : List ℕ} {slots : ℕ}
    → slots ≡ length (table_slots (table_from t x m)) → after ≡ overwritten before (bytes_from t x m) → WritesOrder o before (planned t.classes slots) after
written o t x m h {before} {after} {slots} e g =
    let count : slots ≡ length (slots_of o t.classes (members_from t) (share_at t x)) = e ∙ ap length (held_slots o t x m h) in
    let bytes : after ≡ overwritten before (plan_bytes o t.classes (members_from t) (share_at t x)) = g ∙ ap (overwritten before) (held_bytes o t x m h) in
    rw (count, bytes) (writes t.classes (members_from t) h.classes (share_at t x) h.valid)

-- 9
pub too_fast_lem : (o : Order) (before : List ℕ) {f : TooFast} {r : Option TooFast} → AgainstTop o r → r ≡ Some f → PlansOrder o before (unplanned (nine f)) before
too_fast_lem o before {f} h e =
    let a = h.above f e in
    rw a.3 (above a.0 a.1 a.2)

-- or done
pub slow_enough : {o : Order} {before after : List ℕ} {f : Option TooFast} {r : answers.Planned} → AgainstTop o f → f ≡ None → WritesOrder o before r after
    → PlansOrder o before r after
slow_enough h n w = plans (h.slow n) w

-- ---- bytes

module _ (order before : List ℕ) where
  -- 1
  pub one : length before < plan_room → Plans order before (unplanned (refusal 1 0)) before
  one = no_room

  -- 2 to 8, and 15
  pub by_reading : {number place : ℕ} → plan_room ≤ length before → read_order last_open_bay order ≡ refused number place
      → Plans order before (unplanned (refusal number place)) before
  by_reading {number} {place} l q = refuses l (refusal number place) (unread number place q)

  -- 9 or 0
  pub nine_or_done : {o : Order} {r : answers.Planned} {after : List ℕ} → plan_room ≤ length before → read_order last_open_bay order ≡ read o → PlansOrder o before r after
      → Plans order before r after
  nine_or_done {o} l q (above A f t) = refuses l _ (answers.above o A q f t)
  nine_or_done {o} l q (plans slow (writes p C c x v)) = answers.plans l o (record { reads = q; slow = slow }) p C c x v
