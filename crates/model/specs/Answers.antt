-- What comes back (documents 01 and 02): numbers 0 to 15, places and values, and the sequence of checks of planning, judging, drawing, the
-- pen and laying a log beside the plan.
use Rattle.std.specs.Prelude.{◌≡◌, Bool, true, ◌≢◌, List, ◌++◌, ℕ, ◌+◌, ◌*◌, ◌≤◌, ◌<◌, T, ltb, length, drop}
use Rattle.model.specs.Limits.{last_open_bay, most_bay, plan_room, week}
use Rattle.model.specs.Sets.{Doses}
use Rattle.model.specs.Records.{Reading, read, refused}
use Rattle.model.specs.Orders.{Order, dose_at, read_order}
use Rattle.model.specs.Classes.{W, P, free, NextClass, Classes, set_number}
use Rattle.model.specs.Intervals.{setting_of, fans_present}
use Rattle.model.specs.Shares.{Valid}
use Rattle.model.specs.Plans.{plan_of, plan_records, records_bytes, slots_read}
use Rattle.model.specs.Layout.{slots_of, classes_of}
use Rattle.model.specs.Stands.{Stands}
use Rattle.model.specs.Line.{shut, Point, drawn, point_at}
use Rattle.model.specs.Log.{Logged, Figures, read_log, figures, no_figures}

-- number and place; "refusal 9 returns the first class as a number with bit i for dose i, its W and P"; "Fields not meant are 0"
pub record Answer : Type 0 where
  pub number : ℕ
  pub place : ℕ
  pub set : ℕ
  pub weight : ℕ
  pub time : ℕ

-- a refusal with its place
abbrev pub refusal : ℕ → ℕ → Answer
refusal number place = record { number = number; place = place; set = 0; weight = 0; time = 0 }

-- "0 done"
abbrev pub done : Answer
done = refusal 0 0

-- ---- the order: 2 to 8 and 15, then 9; `last` is the last bay that is open

-- the first class: the next of all doses, with no fan reserved
abbrev pub FirstClass : Order → Doses → Type 0
FirstClass o A = NextClass (setting_of o) (fans_present o) (λ k. true) A

-- "first class: W × top seconds above P × top grams"
abbrev pub above_top : Order → Doses → Bool
above_top o A = ltb (P (setting_of o) (fans_present o) A * o.top_grams) (W (setting_of o) A * o.top_seconds)

-- 9 for the set A
abbrev pub too_fast : Order → Doses → Answer
too_fast o A = record {
  number = 9;
  place = 0;
  set = set_number (setting_of o).doses A;
  weight = W (setting_of o) A;
  time = P (setting_of o) (fans_present o) A;
}

-- the order is refused: by its reading, or by 9
pub data Refuses (last : ℕ) (order : List ℕ) : Answer → Type 0 where
  unread : (number place : ℕ) → read_order last order ≡ refused number place → Refuses last order (refusal number place)
  above : (o : Order) (A : Doses) → read_order last order ≡ read o → FirstClass o A → T (above_top o A) → Refuses last order (too_fast o A)

-- the order is accepted
pub record Accepts (last : ℕ) (order : List ℕ) (o : Order) : Type 0 where
  pub reads : read_order last order ≡ read o
  pub slow : (A : Doses) → FirstClass o A → T (above_top o A) → ⊥

-- ---- planning

-- "Planning also returns the classes and slots written"
pub record Planned : Type 0 where
  pub answer : Answer
  pub classes : ℕ
  pub slots : ℕ

-- the plan's bytes in front, and the rest as it was
abbrev pub overwritten : List ℕ → List ℕ → List ℕ
overwritten before plan = plan ++ drop (length plan) before

-- valid shares of every class: x i k j is class i's for dose k in interval j
abbrev pub ValidShares : Order → ℕ → (ℕ → Doses) → (ℕ → ℕ → ℕ → ℕ) → Type 0
ValidShares o p C x = (i : ℕ) → i < p → Valid (setting_of o) (free (setting_of o) (fans_present o) C i) (C i) (x i)

-- the plan of an order by its classes and shares
abbrev pub plan_bytes : Order → ℕ → (ℕ → Doses) → (ℕ → ℕ → ℕ → ℕ) → List ℕ
plan_bytes o p C x = records_bytes (plan_of (classes_of o p C) (slots_of o p C x))

-- planning `order` into a buffer that held `before` answers a Planned and leaves the bytes of the last argument. "Planning checks 1, 2,
-- then record by record 3, 4, 5 in that order" and 15, "then 6, 7, 8, 9." Of trial bays: "New orders that name them are not planned."
-- "Which valid shares are used is left open."
pub data Plans (order before : List ℕ) : Planned → List ℕ → Type 0 where
  no_room : length before < plan_room → Plans order before (record { answer = refusal 1 0; classes = 0; slots = 0 }) before
  refuses : plan_room ≤ length before → (a : Answer) → Refuses last_open_bay order a → Plans order before (record { answer = a; classes = 0; slots = 0 }) before
  plans : plan_room ≤ length before → (o : Order) → Accepts last_open_bay order o → (p : ℕ) (C : ℕ → Doses) → Classes (setting_of o) (fans_present o) p C
      → (x : ℕ → ℕ → ℕ → ℕ) → ValidShares o p C x
      → Plans order before (record { answer = done; classes = p; slots = length (slots_of o p C x) }) (overwritten before (plan_bytes o p C x))

-- ---- judging: "checks 2 to 9 in the same order, then 10". Of trial bays: "Old orders and their plans are still judged, drawn and replayed"

-- judging plan bytes for an order
pub data Judges (order plan : List ℕ) : Answer → Type 0 where
  refuses : (a : Answer) → Refuses most_bay order a → Judges order plan a
  falls : (o : Order) → Accepts most_bay order o → (Stands o plan → ⊥) → Judges order plan (refusal 10 0)
  stands : (o : Order) → Accepts most_bay order o → Stands o plan → Judges order plan done

-- ---- drawing: "then 10, 11, 12"

-- "Fields not meant are 0, and a state not meant is Shut."
pub record Drawn : Type 0 where
  pub answer : Answer
  pub point : Point

-- no point comes with a refusal
abbrev pub no_point : Answer → Drawn
no_point a = record { answer = a; point = record { amount = 0; state = shut } }

-- the point of dose d at tick t, in a plan that stands for o
abbrev pub point_of : Order → List ℕ → ℕ → ℕ → Drawn
point_of o plan d t = record { answer = done; point = point_at o (slots_read (plan_records plan)) d t }

-- drawing dose d at tick t, 11 "no such dose", 12 "tick over 604,800"
pub data Draws (order plan : List ℕ) (d t : ℕ) : Drawn → Type 0 where
  refuses : (a : Answer) → Judges order plan a → a.number ≢ 0 → Draws order plan d t (no_point a)
  no_such_dose : (o : Order) → Accepts most_bay order o → Stands o plan → (setting_of o).doses ≤ d → Draws order plan d t (no_point (refusal 11 0))
  too_late : (o : Order) → Accepts most_bay order o → Stands o plan → d < (setting_of o).doses → week < t → Draws order plan d t (no_point (refusal 12 0))
  draws : (o : Order) → Accepts most_bay order o → Stands o plan → d < (setting_of o).doses → t ≤ week → Draws order plan d t (point_of o plan d t)

-- ---- the pen: "it holds a dose and a tick, and its answer is the point at the new tick"

-- a pen
pub record Pen : Type 0 where
  pub dose : ℕ
  pub tick : ℕ

-- "moved on by one tick"; "For a pen, 12 comes of the pen's tick before it moves." "A refusal changes no byte and no pen"
pub data Moves (order plan : List ℕ) (pen : Pen) : Drawn → Pen → Type 0 where
  refuses : (a : Answer) → Judges order plan a → a.number ≢ 0 → Moves order plan pen (no_point a) pen
  no_such_dose : (o : Order) → Accepts most_bay order o → Stands o plan → (setting_of o).doses ≤ pen.dose → Moves order plan pen (no_point (refusal 11 0)) pen
  at_end : (o : Order) → Accepts most_bay order o → Stands o plan → pen.dose < (setting_of o).doses → week ≤ pen.tick
      → Moves order plan pen (no_point (refusal 12 0)) pen
  moves : (o : Order) → Accepts most_bay order o → Stands o plan → pen.dose < (setting_of o).doses → pen.tick < week
      → Moves order plan pen (point_of o plan pen.dose (pen.tick + 1)) (record { dose = pen.dose; tick = pen.tick + 1 })

-- ---- a log beside the plan (document 02, C-11): drawing's checks 2 to 11, then 13, 14; "after 12's place", and no tick is given

-- the three figures; "Fields not meant are 0"
pub record Laid : Type 0 where
  pub answer : Answer
  pub figures : Figures

-- no figures come with a refusal
abbrev pub not_laid : Answer → Laid
not_laid a = record { answer = a; figures = no_figures }

-- dose d's line in a plan: its drawn amount at each tick
abbrev pub line_of : List ℕ → ℕ → ℕ → ℕ
line_of plan d = drawn (slots_read (plan_records plan)) d

-- what a log comes to beside a line, by what its bytes read as
unfoldable pub laid_by : (ℕ → ℕ) → Reading (List Logged) → Laid
laid_by line (read records) = record { answer = done; figures = figures line records }
laid_by line (refused number place) = not_laid (refusal number place)

-- laying the bytes of a log beside dose d's line: "Given a dose and a plan that stands, report exactly .."
pub data Lays (order plan : List ℕ) (d : ℕ) (log : List ℕ) : Laid → Type 0 where
  refuses : (a : Answer) → Judges order plan a → a.number ≢ 0 → Lays order plan d log (not_laid a)
  no_such_dose : (o : Order) → Accepts most_bay order o → Stands o plan → (setting_of o).doses ≤ d → Lays order plan d log (not_laid (refusal 11 0))
  lays : (o : Order) → Accepts most_bay order o → Stands o plan → d < (setting_of o).doses
      → Lays order plan d log (laid_by (line_of plan d) (read_log (dose_at o d).bay log))
