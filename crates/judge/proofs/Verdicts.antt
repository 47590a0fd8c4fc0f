-- The verdict from its parts, and that there is one for each pair of bytes. Assumes nothing.
use mathlib.Core.Path.{◌≡◌, refl, sym, ap, ◌∙◌}
use mathlib.Core.List.{List}
use Rattle.std.specs.Prelude.{Some, None, Result, Ok, Err}
use Prim.Native.Nat.{ℕ}
use lib.Dec.{eqb}
use Rattle.model.specs.Limits.{most_bay}
use Rattle.model.specs.Records.{pick, read, refused}
use Rattle.model.specs.Orders.{Order, read_order}
use Rattle.model.specs.Stands.{Stands}
use Rattle.model.specs.Answers.{Answer, above, falls, refusal, refuses, stands, too_fast, unread}
use Rattle.model.proofs.Answers.{judges_one, unread_number}
use Rattle.order.specs.declared.refusal.Refusal as of_order
use Rattle.order.specs.declared.refusal.Refusal.TheVariants.{Length, Kind, NotBlank, OutOfRange, NotOneFans, TooManyDoses, Clash, TrialBay}
use Rattle.order.specs.Held.{held_refusal, number_of, place_of}
use Rattle.classes.specs.Answer.{AgainstTop}
use Rattle.classes.specs.declared.TooFast.{TooFast}
use Rattle.judge.specs.Verdict.{Verdict, as_answer}
use Rattle.judge.specs.declared.refusal.Refusal.{Refusal}
use Rattle.judge.specs.declared.refusal.Refusal.TheVariants as is

module _ (order plan : List ℕ) where
  module _ (o : Order) (e : read_order most_bay order ≡ read o) where
    -- the first class is above the top rate
    pub judged_fast : (f : TooFast) → AgainstTop o (Some f) → Verdict order plan (Err (is.TooFast f))
    judged_fast f t =
        let a = t.above f refl in
        record { answer = rw a.3 (refuses (too_fast o a.0) (above o a.0 e a.1 a.2)); numbered = tt }

    -- it is not, and the plan bytes stand
    pub judged_stands : Stands o plan → AgainstTop o None → Verdict order plan (Ok tt)
    judged_stands st t = record { answer = stands o (record { reads = e; slow = t.slow refl }) st; numbered = tt }

    -- or they do not
    pub judged_falls : (Stands o plan → ⊥) → AgainstTop o None → Verdict order plan (Err is.Falls)
    judged_falls fell t = record { answer = falls o (record { reads = e; slow = t.slow refl }) fell; numbered = tt }

  -- the order's own refusal
  pub judged_unread : (r : of_order.Refusal) → read_order most_bay order ≡ refused (number_of r) (place_of r) → Verdict order plan (Err (is.Order r))
  judged_unread r e =
      record { answer = refuses (refusal (number_of r) (place_of r)) (unread (number_of r) (place_of r) e); numbered = unread_number order (number_of r) (place_of r) e }

-- ---- one verdict

-- the verdict that an answer is of
abbrev held_verdict : Answer → Result (Unit {0}) Refusal
held_verdict a =
    pick (eqb a.number 0) (Ok tt)
    (pick (eqb a.number 9) (Err (is.TooFast (record { set = a.set; weight = a.weight; time = a.time })))
    (pick (eqb a.number 10) (Err is.Falls) (Err (is.Order (held_refusal a.number a.place)))))

verdict_back : (r : Result (Unit {0}) Refusal) → held_verdict (as_answer r) ≡ r
verdict_back (Ok u) = refl
verdict_back (Err (is.Order Length)) = refl
verdict_back (Err (is.Order (Kind k))) = refl
verdict_back (Err (is.Order (NotBlank k))) = refl
verdict_back (Err (is.Order (OutOfRange k))) = refl
verdict_back (Err (is.Order NotOneFans)) = refl
verdict_back (Err (is.Order TooManyDoses)) = refl
verdict_back (Err (is.Order (Clash k))) = refl
verdict_back (Err (is.Order (TrialBay k))) = refl
verdict_back (Err (is.TooFast f)) = refl
verdict_back (Err is.Falls) = refl

-- two verdicts on the same bytes are one
pub verdict_one : {order plan : List ℕ} {r r' : Result (Unit {0}) Refusal} → Verdict order plan r → Verdict order plan r' → r ≡ r'
verdict_one {r = r} {r' = r'} v w = sym (verdict_back r) ∙ ap held_verdict (judges_one v.answer w.answer) ∙ verdict_back r'
