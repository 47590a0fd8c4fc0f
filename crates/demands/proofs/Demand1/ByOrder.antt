-- What verdicts, points, logs and plans with room have in common: what the order alone says of them.
use mathlib.Core.Logic.{◌≢◌, inl, inr}
use mathlib.Core.Path.{◌≡◌, refl}
use mathlib.Core.List.{List}
use Prim.Native.Nat.{ℕ, ◌≤◌}
use native.Mathlib.Omega.{arith}
use lib.ListN.{length}
use Rattle.model.specs.Limits.{last_open_bay, most_bay, plan_room}
use Rattle.model.specs.Orders.{Order, dose_at}
use Rattle.model.specs.Log.{read_log}
use Rattle.model.specs.Answers.{Answer, refusal, Refuses, Accepts, Planned, Plans, Judges, Drawn, Draws, Laid, Lays, line_of}
use Rattle.demands.proofs.Log.Given.{laid_either, log_number}

-- the order is refused, or it is accepted and the answer has another number, and a place with 13 and 14 alone
pub data OfOrder (last : ℕ) (order : List ℕ) : Answer → Type 0 where
  order_refused : (a : Answer) → Refuses last order a → OfOrder last order a
  order_accepted : (number place : ℕ) (o : Order) → Accepts last order o → number ≢ 9 → (number ≢ 13 → number ≢ 14 → place ≡ 0)
      → OfOrder last order (refusal number place)

-- a verdict
pub judged_order : {order plan : List ℕ} {a : Answer} → Judges order plan a → OfOrder most_bay order a
judged_order (Judges.refuses a r) = order_refused a r
judged_order (Judges.falls o g h) = order_accepted 10 0 o g (omega arith) (λ a b. refl)
judged_order (Judges.stands o g h) = order_accepted 0 0 o g (omega arith) (λ a b. refl)

-- a point
pub drawn_order : {order plan : List ℕ} {d t : ℕ} {x : Drawn} → Draws order plan d t x → OfOrder most_bay order x.answer
drawn_order (Draws.refuses a j n) = judged_order j
drawn_order (Draws.no_such_dose o g h l) = order_accepted 11 0 o g (omega arith) (λ a b. refl)
drawn_order (Draws.too_late o g h l w) = order_accepted 12 0 o g (omega arith) (λ a b. refl)
drawn_order (Draws.draws o g h l w) = order_accepted 0 0 o g (omega arith) (λ a b. refl)

-- a log
pub laid_order : {order plan : List ℕ} {d : ℕ} {log : List ℕ} {x : Laid} → Lays order plan d log x → OfOrder most_bay order x.answer
laid_order (Lays.refuses a j n) = judged_order j
laid_order (Lays.no_such_dose o g h l) = order_accepted 11 0 o g (omega arith) (λ a b. refl)
laid_order {order} {plan} {d} {log} (Lays.lays o g h l) =
    laid_either (λ x. OfOrder most_bay order x.answer) (line_of plan d) (read_log (dose_at o d).bay log)
    (λ number place e. elim (log_number (dose_at o d).bay log number place e) [
      | inl n ↦ order_accepted number place o g (omega arith) (λ a b. absurd (a n))
      | inr n ↦ order_accepted number place o g (omega arith) (λ a b. absurd (b n))
    ]) (λ records e. order_accepted 0 0 o g (omega arith) (λ a b. refl))

-- a plan, in a buffer with room
pub planned_order : {order before : List ℕ} {r : Planned} {after : List ℕ} → plan_room ≤ length before → Plans order before r after → OfOrder last_open_bay order r.answer
planned_order room (Plans.no_room s) = absurd (omega arith)
planned_order room (Plans.refuses w a q) = order_refused a q
planned_order room (Plans.plans w o g p C c x v) = order_accepted 0 0 o g (omega arith) (λ a b. refl)
