-- Laws of the printer: a plan's records and their text have room, and what stands in the text buffer is the answer's text. Assumes nothing.
use mathlib.Core.Path.{◌≡◌, sym}
use Rattle.std.proofs.Common.{◌≢◌}
use mathlib.Core.Bool.{Bool, true, false}
use mathlib.Core.List.{List}
use Prim.Native.Nat.{ℕ, ◌+◌, ◌*◌, ◌≤◌}
use native.Mathlib.Omega.{arith}
use Rattle.model.specs.Limits.{last_open_bay, plan_room}
use Rattle.model.specs.Records.{record_size, pick}
use borrow.Author.Tests.{eq-eqb, ne_eqb}
use lib.Dec.{eqb}
use lib.ListN.{length, take}
use Rattle.model.specs.Answers.{Planned, Plans, no_room, refuses, plans}
use Rattle.model.proofs.Orders.{read_fits}
use Rattle.model.proofs.Planner.{plan_length, plan_room_lem}
use Rattle.lines.specs.Text.{Put, plan_text, refused_text}
use Rattle.lines.proofs.Puts.{put_front, put_length}
use Rattle.lines.proofs.Records.{plan_text_length, refused_length}
use Rattle.order.specs.Held.{number_of}
use Rattle.order.specs.declared.refusal.Refusal as orders
use Rattle.order.specs.declared.refusal.Refusal.TheVariants as o
use Rattle.plan.specs.Answered.{answer_of}
use Rattle.plan.specs.declared.refusal.Refusal.{Refusal}
use Rattle.plan.specs.declared.refusal.Refusal.TheVariants as is
use Rattle.printer.specs.Prints.{SaysOrder, answer_text}

-- "plan buffer under 47,392 bytes (24 classes and 1,457 slots)": no plan has more records
pub few_records : {order before after : List ℕ} {r : Planned} → Plans order before r after → record_size * (r.classes + r.slots) ≤ plan_room
few_records (no_room small) = omega arith
few_records (refuses l a refuse) = omega arith
few_records {order} (plans l o a p C c x v) =
    let fit = read_fits last_open_bay order o a.reads in omega (arith, plan_length o fit p C c x v, plan_room_lem o fit p C c x v)

-- an answer's text has no more than 160 bytes for each record and the line behind them
pub answer_length : (r : Planned) (plan : List ℕ) → length (answer_text r plan) ≤ 160 * (r.classes + r.slots + 1)
answer_length r plan = by_test (eqb r.answer.number 0)
  where
    by_test : (b : Bool) → length (pick b (plan_text plan r.classes r.slots) (refused_text r.answer.number r.answer.place r.answer.set r.answer.weight r.answer.time)) ≤ 160 * (r.classes + r.slots + 1)
    by_test true = plan_text_length plan r.classes r.slots
    by_test false = omega (arith, refused_length r.answer.number r.answer.place r.answer.set r.answer.weight r.answer.time)

-- every refusal has a number
order_number : (r : orders.Refusal) → number_of r ≢ 0
order_number o.Length e = omega (arith, e)
order_number (o.Kind k) e = omega (arith, e)
order_number (o.NotBlank k) e = omega (arith, e)
order_number (o.OutOfRange k) e = omega (arith, e)
order_number o.NotOneFans e = omega (arith, e)
order_number o.TooManyDoses e = omega (arith, e)
order_number (o.Clash k) e = omega (arith, e)
order_number (o.TrialBay k) e = omega (arith, e)

pub some_number : (r : Refusal) → (answer_of r).number ≢ 0
some_number is.NoRoom e = omega (arith, e)
some_number (is.Order r) e = order_number r e
some_number (is.TooFast f) e = omega (arith, e)

-- what was put into the text buffer says what was planned
module _ {order before after text text' : List ℕ} {r : Planned} {end : ℕ} (room : length before ≡ plan_room) (h : Plans order before r after) (long : 237120 ≤ length text) where
  says : (planned : Bool) → Put (answer_text r after) text 0 text' end → planned ≡ eqb r.answer.number 0 → (end ≤ length text') × SaysOrder order (take end text') planned
  says planned p e =
      let inside : end ≤ length text' = omega (arith, p.next, put_length p, few_records h, answer_length r after) in
      (inside, record { before = before; room = room; after = after; answer = r; plans = h; is = put_front p inside; told = e })

  -- a plan
  pub says_plan : r.answer.number ≡ 0 → Put (plan_text after r.classes r.slots) text 0 text' end → (end ≤ length text') × SaysOrder order (take end text') true
  says_plan z p = let none = eq-eqb r.answer.number 0 z in says true (rw none p) (sym none)

  -- or a refusal
  pub says_refusal : r.answer.number ≢ 0 → Put (refused_text r.answer.number r.answer.place r.answer.set r.answer.weight r.answer.time) text 0 text' end
      → (end ≤ length text') × SaysOrder order (take end text') false
  says_refusal n p = let some = ne_eqb r.answer.number 0 n in says false (rw some p) (sym some)
