-- The bench examples that document 01 marks P, and those of the requests of document 02, as one list of rows and one claim about a row.
use Rattle.std.specs.Prelude.{◌≡◌, false, ◌||◌, List, [], ◌∷◌, ◌++◌, ℕ, ◌+◌, ◌-◌, ◌≤◌, ◌<◌, eqb, length, get_or}
use Rattle.model.specs.Limits.{most_bay, plan_room}
use Rattle.model.specs.Sets.{Doses, Sub}
use Rattle.model.specs.Lists.{All}
use Rattle.model.specs.Records.{fans_kind, dose_kind, fans_parts, dose_parts, class_parts, record_bytes, read}
use Rattle.model.specs.Orders.{Order, read_order}
use Rattle.model.specs.Classes.{Classes}
use Rattle.model.specs.Intervals.{setting_of, fans_present}
use Rattle.model.specs.Plans.{Class, Slot, plan_of, records_bytes}
use Rattle.model.specs.Layout.{classes_of}
use Rattle.model.specs.Line.{State, finished, shut, idle, dosing, Point}
use Rattle.model.specs.Answers.{Answer, refusal, done, FirstClass, Accepts, Planned, overwritten, Plans, Judges, Draws, Moves}

-- a dose's point at a tick
pub record Drawing : Type 0 where
  pub dose : ℕ
  pub tick : ℕ
  pub point : Point

-- an order, what comes back, the doses of each class (of the first class, where 9 comes back), their shares by class, dose and
-- interval, and the plan's classes, slots and points
pub record Case : Type 0 where
  pub order : List ℕ
  pub answer : Answer
  pub sets : List (List ℕ)
  pub shares : List (List (List ℕ))
  pub classes : List Class
  pub slots : List Slot
  pub points : List Drawing

-- a list of dose numbers as a set
unfoldable pub listed : List ℕ → Doses
listed [] k = false
listed (d ∷ ds) k = eqb d k || listed ds k

-- the sets of a row
abbrev pub case_sets : Case → ℕ → Doses
case_sets c i = listed (get_or c.sets i [])

-- the plan bytes of a row
abbrev pub case_plan : Case → List ℕ
case_plan c = records_bytes (plan_of c.classes c.slots)

-- drawn at the tick, and by a pen that is moved on to it
pub record DrawingRight (c : Case) (d : Drawing) : Type 0 where
  pub draws : Draws c.order (case_plan c) d.dose d.tick (record { answer = done; point = d.point })
  pub moves : (t : ℕ) → d.tick ≡ t + 1 → Moves c.order (case_plan c) (record { dose = d.dose; tick = t })
      (record { answer = done; point = d.point }) (record { dose = d.dose; tick = d.tick })

-- what planning a row answers
abbrev pub case_planned : Case → Planned
case_planned c = record { answer = c.answer; classes = length c.classes; slots = length c.slots }

-- two sets have the same doses of an order
abbrev pub SameDoses : Order → Doses → Doses → Type 0
SameDoses o A B = Sub (setting_of o).doses A B × Sub (setting_of o).doses B A

-- the sets of a row are the classes of its order, no others are, and "the C records are exactly the order's classes"
pub record SetsRight (c : Case) (o : Order) : Type 0 where
  pub are : Classes (setting_of o) (fans_present o) (length c.sets) (case_sets c)
  pub only : (p : ℕ) (C : ℕ → Doses) → Classes (setting_of o) (fans_present o) p C
      → (p ≡ length c.sets) × ((i : ℕ) → i < p → SameDoses o (C i) (case_sets c i))
  pub records : c.classes ≡ classes_of o (length c.sets) (case_sets c)

-- planning an order into any buffer that is large enough gives an answer and puts a plan in front of it
pub record PlanningRight (order : List ℕ) (answer : Planned) (plan : List ℕ) : Type 0 where
  pub plans : (before : List ℕ) → plan_room ≤ length before → Plans order before answer (overwritten before plan)
  -- and nothing else: a refused row has no other refusal, and a planned one no other slots, since its shares are forced
  pub only : (before : List ℕ) → plan_room ≤ length before → (r : Planned) (after : List ℕ) → Plans order before r after
      → (r ≡ answer) × (after ≡ overwritten before plan)

-- judging and drawing a row
pub record JudgingRight (c : Case) : Type 0 where
  -- a first class, as refusal 9 names it, has the doses of the row's first set
  pub first : (o : Order) → read_order most_bay c.order ≡ read o → (A : Doses) → FirstClass o A → SameDoses o A (case_sets c 0)
  -- the classes of a row that is accepted
  pub sets : (o : Order) → Accepts most_bay c.order o → SetsRight c o
  -- the row's plan is judged and drawn as the row says
  pub judged : Judges c.order (case_plan c) c.answer
  pub points : All (DrawingRight c) c.points

-- the claim about a row: what planning it gives, and what judging and drawing its plan do
pub record Right (c : Case) : Type 0 where
  pub planning : PlanningRight c.order (case_planned c) (case_plan c)
  pub judging : JudgingRight c

-- ---- the rows

-- an F record that names a rule for the rest
abbrev pub FBy : ℕ → ℕ → ℕ → ℕ → List ℕ
FBy rule fans grams seconds = record_bytes fans_parts (fans_kind ∷ fans ∷ rule ∷ grams ∷ seconds ∷ [])

-- and by rule 0
abbrev pub F : ℕ → ℕ → ℕ → List ℕ
F = FBy 0

-- a D record
abbrev pub D : ℕ → ℕ → ℕ → ℕ → List ℕ
D bay release deadline grams = record_bytes dose_parts (dose_kind ∷ bay ∷ release ∷ deadline ∷ grams ∷ [])

-- number, doses, W, P
abbrev class : ℕ → ℕ → ℕ → ℕ → Class
class number doses weight time = record { number = number; doses = doses; weight = weight; time = time }

-- fan, dose, start tick and part, end tick and part, W, P, class
abbrev pub slot : ℕ → ℕ → ℕ → ℕ → ℕ → ℕ → ℕ → ℕ → ℕ → Slot
slot fan dose start part end endpart weight time number = record {
  fan = fan;
  dose = dose;
  start_tick = start;
  start_part = part;
  end_tick = end;
  end_part = endpart;
  weight = weight;
  time = time;
  class = number;
}

-- dose, tick, amount, state
abbrev drawing : ℕ → ℕ → ℕ → State → Drawing
drawing dose tick amount state = record { dose = dose; tick = tick; point = record { amount = amount; state = state } }

-- an order that is refused by its reading
abbrev pub refused_case : List ℕ → ℕ → ℕ → Case
refused_case order number place =
    record { order = order; answer = refusal number place; sets = []; shares = []; classes = []; slots = []; points = [] }

-- refused 9 for a first class: its doses, the set as a number, W, P
abbrev pub fast_case : List ℕ → List ℕ → ℕ → ℕ → ℕ → Case
fast_case order doses set weight time = record {
  order = order;
  answer = record { number = 9; place = 0; set = set; weight = weight; time = time };
  sets = doses ∷ [];
  shares = [];
  classes = [];
  slots = [];
  points = [];
}

-- P1's doses and plan, for any bytes of that order
abbrev pub one_fan_order : List ℕ → Case
one_fan_order order = record {
  order = order;
  answer = done;
  sets = (1 ∷ []) ∷ (0 ∷ []) ∷ [];
  shares = ([] ∷ (64 ∷ 0 ∷ []) ∷ []) ∷ ((0 ∷ 120 ∷ []) ∷ []) ∷ [];
  classes = class 1 1 16 4 ∷ class 2 1 20 6 ∷ [];
  slots = slot 1 1 0 0 4 0 16 4 1 ∷ slot 1 0 4 0 10 0 20 6 2 ∷ [];
  points = drawing 0 4 0 (dosing 1) ∷ drawing 0 5 3 (dosing 1) ∷ drawing 0 6 6 (dosing 1) ∷ drawing 0 7 10 (dosing 1) ∷ drawing 0 10 20 finished ∷ [];
}

-- under any top rate
abbrev pub one_fan : ℕ → ℕ → Case
one_fan top_grams top_seconds = one_fan_order (F 1 top_grams top_seconds ++ D 1 0 10 20 ++ D 2 0 4 16)

-- P5's dose and plan, for any bytes of that order
abbrev pub alone_order : List ℕ → Case
alone_order order = record {
  order = order;
  answer = done;
  sets = (0 ∷ []) ∷ [];
  shares = ((50 ∷ []) ∷ []) ∷ [];
  classes = class 1 1 10 5 ∷ [];
  slots = slot 1 0 0 0 5 0 10 5 1 ∷ [];
  points = drawing 0 604800 10 finished ∷ [];
}

-- P12's doses and plan, for any bytes of that order
abbrev pub in_turn_order : List ℕ → Case
in_turn_order order = record {
  order = order;
  answer = done;
  sets = (0 ∷ 1 ∷ []) ∷ [];
  shares = ((80 ∷ 0 ∷ []) ∷ (0 ∷ 80 ∷ []) ∷ []) ∷ [];
  classes = class 1 2 20 8 ∷ [];
  slots = slot 1 0 0 0 4 0 20 8 1 ∷ slot 1 1 4 0 8 0 20 8 1 ∷ [];
  points = drawing 0 4 10 finished ∷ [];
}

-- the same doses with 300 seconds between them
abbrev pub rested_order : List ℕ → Case
rested_order order = record {
  order = order;
  answer = done;
  sets = (0 ∷ 1 ∷ []) ∷ [];
  shares = ((80 ∷ 0 ∷ 0 ∷ []) ∷ (0 ∷ 0 ∷ 80 ∷ []) ∷ []) ∷ [];
  classes = class 1 2 20 8 ∷ [];
  slots = slot 1 0 0 0 4 0 20 8 1 ∷ slot 1 1 304 0 308 0 20 8 1 ∷ [];
  points = drawing 0 4 10 finished ∷ drawing 1 303 0 shut ∷ drawing 1 304 0 (dosing 1) ∷ drawing 1 306 5 (dosing 1) ∷ [];
}

-- "Doses as [release, deadline) grams, numbered from 0, each its own bay, top 1000/1 unless said."
abbrev pub cases : List Case
cases =
    -- P1: one fan; [0,10) 20, [0,4) 16
    one_fan 1000 1
    -- P2: two fans; three of [0,3) 10
    ∷ record {
      order = F 2 1000 1 ++ D 1 0 3 10 ++ D 2 0 3 10 ++ D 3 0 3 10;
      answer = done;
      sets = (0 ∷ 1 ∷ 2 ∷ []) ∷ [];
      shares = ((60 ∷ []) ∷ (60 ∷ []) ∷ (60 ∷ []) ∷ []) ∷ [];
      classes = class 1 3 30 6 ∷ [];
      slots = slot 1 0 0 0 2 0 30 6 1 ∷ slot 1 1 2 0 3 0 30 6 1 ∷ slot 2 1 0 0 1 0 30 6 1 ∷ slot 2 2 1 0 3 0 30 6 1 ∷ [];
      points = drawing 1 0 0 (dosing 2) ∷ drawing 1 1 5 idle ∷ drawing 1 2 5 (dosing 1) ∷ drawing 1 3 10 finished ∷ [];
    }
    -- P3: one fan; [0,1) 1 and [0,1) 2. "dose 0 from 0 to 1/3, dose 1 from 1/3 to 1": each is fed in second 0
    ∷ record {
      order = F 1 1000 1 ++ D 1 0 1 1 ++ D 2 0 1 2;
      answer = done;
      sets = (0 ∷ 1 ∷ []) ∷ [];
      shares = ((1 ∷ []) ∷ (2 ∷ []) ∷ []) ∷ [];
      classes = class 1 2 3 1 ∷ [];
      slots = slot 1 0 0 0 0 1 3 1 1 ∷ slot 1 1 0 1 1 0 3 1 1 ∷ [];
      points = drawing 0 0 0 (dosing 1) ∷ drawing 1 0 0 (dosing 1) ∷ drawing 1 1 2 finished ∷ [];
    }
    -- P4: one fan; [0,2) 4, [2,4) 4
    ∷ record {
      order = F 1 1000 1 ++ D 1 0 2 4 ++ D 2 2 4 4;
      answer = done;
      sets = (0 ∷ 1 ∷ []) ∷ [];
      shares = ((16 ∷ 0 ∷ []) ∷ (0 ∷ 16 ∷ []) ∷ []) ∷ [];
      classes = class 1 2 8 4 ∷ [];
      slots = slot 1 0 0 0 2 0 8 4 1 ∷ slot 1 1 2 0 4 0 8 4 1 ∷ [];
      points = drawing 1 1 0 shut ∷ drawing 1 3 2 (dosing 1) ∷ [];
    }
    -- P5: two fans; [0,5) 10 alone
    ∷ alone_order (F 2 1000 1 ++ D 1 0 5 10)
    -- P6: two fans; [0,2) 8, [0,4) 4. "dose 1 on fan 2, then fan 1"
    ∷ record {
      order = F 2 1000 1 ++ D 1 0 2 8 ++ D 2 0 4 4;
      answer = done;
      sets = (0 ∷ []) ∷ (1 ∷ []) ∷ [];
      shares = ((16 ∷ 0 ∷ []) ∷ []) ∷ ([] ∷ (8 ∷ 8 ∷ []) ∷ []) ∷ [];
      classes = class 1 1 8 2 ∷ class 2 1 4 4 ∷ [];
      slots = slot 1 0 0 0 2 0 8 2 1 ∷ slot 2 1 0 0 2 0 4 4 2 ∷ slot 1 1 2 0 4 0 4 4 2 ∷ [];
      points = drawing 1 1 1 (dosing 2) ∷ drawing 1 2 2 (dosing 1) ∷ [];
    }
    -- P7: P1 with top 4/1 accepted
    ∷ one_fan 4 1
    -- P8: top 3/1 refused 9, set 2, 16, 4
    ∷ fast_case (F 1 3 1 ++ D 1 0 10 20 ++ D 2 0 4 16) (1 ∷ []) 2 16 4
    -- P9: one fan; [0,3) 10, top 33333/10000 refused 9, set 1, 10, 3
    ∷ fast_case (F 1 33333 10000 ++ D 1 0 3 10) (0 ∷ []) 1 10 3
    -- P10: F alone: accepted, 0 classes
    ∷ record { order = F 1 1000 1; answer = done; sets = []; shares = []; classes = []; slots = []; points = [] }
    -- P11: no bytes: 6
    ∷ refused_case [] 6 0
    -- P12: one fan, one bay, 10 grams each, F first: [0,4) and [4,8) accepted; [0,4) and [3,8) refused 8, place 2
    ∷ in_turn_order (F 1 1000 1 ++ D 1 0 4 10 ++ D 1 4 8 10)
    ∷ refused_case (F 1 1000 1 ++ D 1 0 4 10 ++ D 1 3 8 10) 8 2
    -- document 02, C-12: two fans; three of [0,2) 10. A share cut by wrap-around, its later piece first in the file; slots that start, or end,
    -- inside a second
    ∷ record {
      order = F 2 1000 1 ++ D 1 0 2 10 ++ D 2 0 2 10 ++ D 3 0 2 10;
      answer = done;
      sets = (0 ∷ 1 ∷ 2 ∷ []) ∷ [];
      shares = ((40 ∷ []) ∷ (40 ∷ []) ∷ (40 ∷ []) ∷ []) ∷ [];
      classes = class 1 3 30 4 ∷ [];
      slots = slot 1 0 0 0 1 10 30 4 1 ∷ slot 1 1 1 10 2 0 30 4 1 ∷ slot 2 1 0 0 0 20 30 4 1 ∷ slot 2 2 0 20 2 0 30 4 1 ∷ [];
      points = drawing 0 1 7 (dosing 1) ∷ drawing 1 0 0 (dosing 2) ∷ drawing 1 1 5 (dosing 1) ∷ drawing 2 0 0 (dosing 2) ∷ drawing 2 1 2 (dosing 2) ∷ [];
    }
    -- C-12: two fans; three of [5,6) 10. Two slots of dose 1 in one second: it starts on fan 2, though its slot on fan 1 is the first in the file
    ∷ record {
      order = F 2 1000 1 ++ D 1 5 6 10 ++ D 2 5 6 10 ++ D 3 5 6 10;
      answer = done;
      sets = (0 ∷ 1 ∷ 2 ∷ []) ∷ [];
      shares = ((20 ∷ []) ∷ (20 ∷ []) ∷ (20 ∷ []) ∷ []) ∷ [];
      classes = class 1 3 30 2 ∷ [];
      slots = slot 1 0 5 0 5 20 30 2 1 ∷ slot 1 1 5 20 6 0 30 2 1 ∷ slot 2 1 5 0 5 10 30 2 1 ∷ slot 2 2 5 10 6 0 30 2 1 ∷ [];
      points = drawing 0 5 0 (dosing 1) ∷ drawing 1 4 0 shut ∷ drawing 1 5 0 (dosing 2) ∷ drawing 1 6 10 finished ∷ drawing 2 5 0 (dosing 2) ∷ [];
    }
    -- C-12: one fan; three of [7,8) 1. Dose 1 is fed between two seconds alone, from 7 1/3 to 7 2/3
    ∷ record {
      order = F 1 1000 1 ++ D 1 7 8 1 ++ D 2 7 8 1 ++ D 3 7 8 1;
      answer = done;
      sets = (0 ∷ 1 ∷ 2 ∷ []) ∷ [];
      shares = ((1 ∷ []) ∷ (1 ∷ []) ∷ (1 ∷ []) ∷ []) ∷ [];
      classes = class 1 3 3 1 ∷ [];
      slots = slot 1 0 7 0 7 1 3 1 1 ∷ slot 1 1 7 1 7 2 3 1 1 ∷ slot 1 2 7 2 8 0 3 1 1 ∷ [];
      points = drawing 0 7 0 (dosing 1) ∷ drawing 1 6 0 shut ∷ drawing 1 7 0 (dosing 1) ∷ drawing 1 8 1 finished ∷ drawing 2 7 0 (dosing 1) ∷ [];
    }
    -- C-12: two fans; three of [5,8) 10, P2 from second 5 on. At 6 dose 1 has a slot that ends there and one that starts at 7: neither feeds that
    -- second. At its release dose 2 waits, and dose 0 in the last second before its deadline
    ∷ record {
      order = F 2 1000 1 ++ D 1 5 8 10 ++ D 2 5 8 10 ++ D 3 5 8 10;
      answer = done;
      sets = (0 ∷ 1 ∷ 2 ∷ []) ∷ [];
      shares = ((60 ∷ []) ∷ (60 ∷ []) ∷ (60 ∷ []) ∷ []) ∷ [];
      classes = class 1 3 30 6 ∷ [];
      slots = slot 1 0 5 0 7 0 30 6 1 ∷ slot 1 1 7 0 8 0 30 6 1 ∷ slot 2 1 5 0 6 0 30 6 1 ∷ slot 2 2 6 0 8 0 30 6 1 ∷ [];
      points = drawing 0 5 0 (dosing 1) ∷ drawing 0 6 5 (dosing 1) ∷ drawing 0 7 10 idle ∷ drawing 0 8 10 finished
          ∷ drawing 1 4 0 shut ∷ drawing 1 5 0 (dosing 2) ∷ drawing 1 6 5 idle ∷ drawing 1 7 5 (dosing 1) ∷ drawing 1 8 10 finished
          ∷ drawing 2 5 0 idle ∷ drawing 2 6 0 (dosing 2) ∷ drawing 2 7 5 (dosing 2) ∷ [];
    }
    -- C-12: one fan; [0,10) 20, [6,10) 16. Dose 0 is fed up to 6, and from there to its deadline it has all its grams and waits
    ∷ record {
      order = F 1 1000 1 ++ D 1 0 10 20 ++ D 2 6 10 16;
      answer = done;
      sets = (1 ∷ []) ∷ (0 ∷ []) ∷ [];
      shares = ([] ∷ (0 ∷ 64 ∷ []) ∷ []) ∷ ((120 ∷ 0 ∷ []) ∷ []) ∷ [];
      classes = class 1 1 16 4 ∷ class 2 1 20 6 ∷ [];
      slots = slot 1 0 0 0 6 0 20 6 2 ∷ slot 1 1 6 0 10 0 16 4 1 ∷ [];
      points = drawing 0 0 0 (dosing 1) ∷ drawing 0 5 16 (dosing 1) ∷ drawing 0 6 20 idle ∷ drawing 0 9 20 idle ∷ drawing 0 10 20 finished
          ∷ drawing 1 5 0 shut ∷ drawing 1 6 0 (dosing 1) ∷ drawing 1 9 12 (dosing 1) ∷ [];
    }
    -- C-14: bay 899 is no trial bay, and 1,000 is no bay: 5
    ∷ alone_order (F 2 1000 1 ++ D 899 0 5 10)
    ∷ refused_case (F 2 1000 1 ++ D 1000 0 5 10) 5 1
    -- C-14: a trial bay in a record with a field out of range, or with a byte that must be zero and isn't: 5 and 4 come first
    ∷ refused_case (F 2 1000 1 ++ D 900 0 5 0) 5 1
    ∷ refused_case (F 2 1000 1 ++ record_bytes class_parts (dose_kind ∷ 1 ∷ 900 ∷ 0 ∷ 5 ∷ [])) 4 1
    -- C-14: a fault in an earlier record comes first, and so does 2
    ∷ refused_case (F 2 1000 1 ++ D 1 0 5 0 ++ D 900 0 5 10) 5 1
    ∷ refused_case (F 2 1000 1 ++ D 900 0 5 10 ++ 0 ∷ []) 2 0
    -- C-16, rule 1: exactly 300 seconds between the windows of a bay, and one less; the F may stand behind its doses, and between them
    ∷ rested_order (FBy 1 1 1000 1 ++ D 1 0 4 10 ++ D 1 304 308 10)
    ∷ refused_case (FBy 1 1 1000 1 ++ D 1 0 4 10 ++ D 1 303 308 10) 8 2
    ∷ rested_order (D 1 0 4 10 ++ D 1 304 308 10 ++ FBy 1 1 1000 1)
    ∷ refused_case (D 1 0 4 10 ++ D 1 303 308 10 ++ FBy 1 1 1000 1) 8 1
    ∷ refused_case (D 1 0 4 10 ++ FBy 1 1 1000 1 ++ D 1 303 308 10) 8 2
    -- C-16: the later record may be the earlier window, and by rule 0 any time between them will do
    ∷ refused_case (FBy 1 1 1000 1 ++ D 1 303 308 10 ++ D 1 0 4 10) 8 2
    ∷ rested_order (F 1 1000 1 ++ D 1 0 4 10 ++ D 1 304 308 10)
    -- C-16: windows that touch: of one bay refused, of two bays accepted
    ∷ refused_case (FBy 1 1 1000 1 ++ D 1 0 4 10 ++ D 1 4 8 10) 8 2
    ∷ in_turn_order (FBy 1 1 1000 1 ++ D 1 0 4 10 ++ D 2 4 8 10)
    -- C-16: of three doses the one in the middle is too close to the last, or to the first; the place is that of the later record
    ∷ refused_case (FBy 1 1 1000 1 ++ D 1 0 4 10 ++ D 1 900 904 10 ++ D 1 304 601 10) 8 3
    ∷ refused_case (FBy 1 1 1000 1 ++ D 1 0 4 10 ++ D 1 303 308 10 ++ D 1 608 612 10) 8 2
    -- C-16: byte 2 above 1 is 5; byte 3 must be zero, and 4 comes first
    ∷ refused_case (FBy 2 1 1000 1 ++ D 1 0 4 10) 5 0
    ∷ refused_case (D 1 0 4 10 ++ FBy 255 1 1000 1) 5 1
    ∷ refused_case (record_bytes class_parts (fans_kind ∷ 1 ∷ 0x0100 ∷ 1000 ∷ 1 ∷ [])) 4 0
    ∷ refused_case (record_bytes class_parts (fans_kind ∷ 1 ∷ 0x0102 ∷ 1000 ∷ 1 ∷ [])) 4 0
    ∷ []

-- row n of the table, from 1
abbrev pub bench : ℕ → Case
bench n = get_or cases (n - 1) (one_fan 1000 1)
