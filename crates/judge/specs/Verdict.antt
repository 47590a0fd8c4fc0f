-- The judge's answers as document 01 has them, and what its steps promise.
use Rattle.std.specs.Prelude.{◌≡◌, List, ℕ, ◌/◌, ◌≤◌, ◌<◌, length, Result, Ok, Err}
use Rattle.model.specs.Records.{record_size}
use Rattle.model.specs.Sets.{Doses}
use Rattle.model.specs.Orders.{Order}
use Rattle.model.specs.Classes.{W, P}
use Rattle.model.specs.Intervals.{setting_of, fans_present}
use Rattle.model.specs.Stands.{Stands}
use Rattle.model.specs.Answers.{Answer, FirstClass, Judges, done, refusal}
use Rattle.records.specs.Plan.{class_in}
use Rattle.order.specs.Held.{number_of, place_of}
use Rattle.classes.specs.Answer.{nine}
use Rattle.judge_clauses.specs.declared.Certificate.{Certificate}
use Rattle.measure.specs.Arrays.{sets_of}
use Rattle.judge.specs.declared.refusal.Refusal.{Refusal}
use Rattle.judge.specs.declared.refusal.Refusal.TheVariants as is

-- ---- the answer

-- the order's refusal 2 to 8; 9 with "the first class as a number with bit i for dose i, its W and P"; "10 plan bytes don't stand"
abbrev pub as_refusal : Refusal → Answer
as_refusal (is.Order r) = refusal (number_of r) (place_of r)
as_refusal (is.TooFast f) = nine f
as_refusal is.Falls = refusal 10 0

-- "0 done", or the refusal
abbrev pub as_answer : Result (Unit {0}) Refusal → Answer
as_answer (Ok u) = done
as_answer (Err r) = as_refusal r

-- `Order` carries 2 to 8: 0, 9 and 10 have verdicts of their own
abbrev pub Numbered : Result (Unit {0}) Refusal → Type 0
Numbered (Ok u) = Unit {0}
Numbered (Err (is.Order r)) = (2 ≤ number_of r) × (number_of r ≤ 8)
Numbered (Err (is.TooFast f)) = Unit {0}
Numbered (Err is.Falls) = Unit {0}

-- r is the verdict on plan bytes for an order
pub record Verdict (order plan : List ℕ) (r : Result (Unit {0}) Refusal) : Type 0 where
  pub answer : Judges order plan (as_answer r)
  pub numbered : Numbered r

-- ---- the steps

-- the first of the p classes whose doses have these numbers, as the plan's first record has it
pub record Leader (o : Order) (plan : List ℕ) (p : ℕ) (numbers : List ℕ) : Type 0 where
  pub short : p ≤ length plan / record_size
  pub none : p ≡ 0 → (A : Doses) → FirstClass o A → ⊥
  pub first : 0 < p → FirstClass o (sets_of numbers 0)
  pub weight : 0 < p → (class_in plan 0).weight ≡ W (setting_of o) (sets_of numbers 0)
  pub time : 0 < p → (class_in plan 0).time ≡ P (setting_of o) (fans_present o) (sets_of numbers 0)

-- plan bytes stand, and their first record is the first class
pub record Certified (o : Order) (plan : List ℕ) (c : Certificate) : Type 0 where
  pub stands : Stands o plan
  pub leader : Leader o plan c.classes c.numbers
