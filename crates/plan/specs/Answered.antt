-- What comes back of planning, as the structs hold it.
use Rattle.std.specs.Prelude.{List, ℕ, T, length, Result, Ok, Err}
use Rattle.model.specs.Sets.{Doses}
use Rattle.model.specs.Orders.{Order}
use Rattle.model.specs.Classes.{Classes}
use Rattle.model.specs.Intervals.{fans_present, setting_of}
use Rattle.model.specs.Layout.{slots_of}
use Rattle.model.specs.Answers.{Answer, FirstClass, ValidShares, above_top, done, overwritten, plan_bytes, refusal, too_fast}
use Rattle.model.specs.Answers as answers
use Rattle.order.specs.Held.{number_of, place_of}
use Rattle.classes.specs.Answer.{nine}
use Rattle.plan.specs.declared.Planned.{Planned}
use Rattle.plan.specs.declared.refusal.Refusal.{Refusal}
use Rattle.plan.specs.declared.refusal.Refusal.TheVariants as is

-- nothing is written with a refusal
abbrev pub unplanned : Answer → answers.Planned
unplanned a = record { answer = a; classes = 0; slots = 0 }

-- done, with "the classes and slots written"
abbrev pub planned : ℕ → ℕ → answers.Planned
planned classes slots = record { answer = done; classes = classes; slots = slots }

-- the answer that a refusal is: 1; 2 to 8 or 15 with its place; 9 with "the first class as a number with bit i for dose i, its W and P"
abbrev pub answer_of : Refusal → Answer
answer_of is.NoRoom = refusal 1 0
answer_of (is.Order r) = refusal (number_of r) (place_of r)
answer_of (is.TooFast f) = nine f

-- what comes back
abbrev pub as_planned : Result Planned Refusal → answers.Planned
as_planned (Ok p) = planned p.classes p.slots
as_planned (Err r) = unplanned (answer_of r)

-- the plan of an order's classes and of valid shares is written in front
pub data WritesOrder (o : Order) (before : List ℕ) : answers.Planned → List ℕ → Type 0 where
  writes : (p : ℕ) (C : ℕ → Doses) → Classes (setting_of o) (fans_present o) p C → (x : ℕ → ℕ → ℕ → ℕ) → ValidShares o p C x
      → WritesOrder o before (planned p (length (slots_of o p C x))) (overwritten before (plan_bytes o p C x))

-- planning an order that was read, into a buffer with room: 9, or done
pub data PlansOrder (o : Order) (before : List ℕ) : answers.Planned → List ℕ → Type 0 where
  above : (A : Doses) → FirstClass o A → T (above_top o A) → PlansOrder o before (unplanned (too_fast o A)) before
  plans : ((A : Doses) → FirstClass o A → T (above_top o A) → ⊥) → {r : answers.Planned} {after : List ℕ} → WritesOrder o before r after → PlansOrder o before r after
