-- The rows of the table pass a test that is computed; that a row which passes is right is proved (Cases of the crate demands).
use Rattle.std.specs.Prelude.{◌≡◌, refl, Bool, true, false, not, ◌&&◌, ◌||◌, List, [], ◌∷◌, ℕ, zero, suc, ◌-◌, min, T, eqb, leb, length, get_or}
use Rattle.model.specs.Limits.{last_open_bay, week}
use Rattle.model.specs.Sets.{sum, Doses, weight}
use Rattle.model.specs.Records.{Reading, read, refused, pick, number_at, number_bytes, fields_at, blank_at, record_bytes, read_from}
use Rattle.model.specs.Orders.{Order, entry_of, fans_in, doses_in, clashes_any, no_clash, order_of, read_order}
use Rattle.model.specs.Classes.{Setting, Row, no_denser, as_dense, open_fans, P, free, remaining}
use Rattle.model.specs.Intervals.{insert, instants, setting_of, fans_present}
use Rattle.model.specs.Shares.{need, room, holds, got, given}
use Rattle.model.specs.Lists.{gather, total}
use Rattle.model.specs.Plans.{Class, Slot}
use Rattle.model.specs.Layout.{cut, line, piece_slot, lane_slots, interval_slots, table_slots, slots_of, classes_of}
use Rattle.model.specs.Line.{State, finished, shut, idle, dosing, units_before, time_of, drawn, feeds, starts_before, earlier, earliest, state_by, fed_at, state_at, Point, point_at}
use Rattle.model.specs.Answers.{Answer, refusal, done, above_top, too_fast}
use Rattle.model.specs.Cases.{Case, Drawing, listed, case_sets, slot, cases}

-- ---- tests of all members

-- f holds of every number below n
unfoldable pub all_below : ℕ → (ℕ → Bool) → Bool
all_below zero f = true
all_below (suc n) f = all_below n f && f n

-- f holds of every member
unfoldable pub all_in : {A : Type 0} → (A → Bool) → List A → Bool
all_in f [] = true
all_in f (a ∷ l) = f a && all_in f l

-- f holds of every set of doses below n, as a list of marks
unfoldable pub every_set : ℕ → (List Bool → Bool) → Bool
every_set zero f = f []
every_set (suc n) f = every_set n (λ marks. f (false ∷ marks)) && every_set n (λ marks. f (true ∷ marks))

-- the doses that are marked
abbrev pub marked : List Bool → Doses
marked marks k = get_or marks k false

-- ---- tests of sets and classes

module _ (S : Setting) where
  open S use {doses, intervals}

  -- every dose of A is one of B
  unfoldable pub inside_test : Doses → Doses → Bool
  inside_test A B = all_below doses (λ k. not (A k) || B k)

  -- A has a dose
  unfoldable pub some_test : Doses → Bool
  some_test A = not (all_below doses (λ k. not (A k)))

  -- B does not keep A from being the next class
  unfoldable pub gives_way : Row → Doses → Doses → Doses → Bool
  gives_way row rest A B =
      not (inside_test B rest) || not (some_test B) || (no_denser S row B A && (not (as_dense S row B A) || inside_test B A))

  -- A is the next class
  unfoldable pub next_test : Row → Doses → Doses → Bool
  next_test row rest A = inside_test A rest && some_test A && every_set doses (λ marks. gives_way row rest A (marked marks))

  -- the shares of dose k are within its rooms
  unfoldable pub room_test : Row → Doses → (ℕ → ℕ → ℕ) → ℕ → Bool
  room_test row A x k = all_below intervals (λ j. leb (x k j) (room S row A k j))

  -- "The class's shares in an interval add up to exactly" the reserved time
  unfoldable pub full_test : Row → Doses → (ℕ → ℕ → ℕ) → ℕ → Bool
  full_test row A x j = eqb (given S row A x j) (holds S row A j)

  -- a dose of A has its need
  unfoldable pub met_test : Row → Doses → (ℕ → ℕ → ℕ) → ℕ → Bool
  met_test row A x k = not (A k) || eqb (got S row A x k) (need S row A k)

  -- all three: x are valid shares of A
  unfoldable pub valid_test : Row → Doses → (ℕ → ℕ → ℕ) → Bool
  valid_test row A x = all_below doses (room_test row A x) && all_below intervals (full_test row A x) && all_below doses (met_test row A x)

  -- the most that dose k can have in interval j
  unfoldable pub most : Row → Doses → ℕ → ℕ → ℕ
  most row A k j = min (room S row A k j) (holds S row A j)

  -- the shares of dose k are forced: in each interval the most that it can have is no more than the least, its need less the most that
  -- it can have in all other intervals
  unfoldable pub forced_test : Row → Doses → ℕ → Bool
  forced_test row A k = all_below intervals (λ j.
      leb (min (most row A k j) (need S row A k)) (need S row A k - (sum intervals (most row A k) - most row A k j)))

-- ---- tests of equality

-- two lists agree member by member
unfoldable pub same_list : {A : Type 0} → (A → A → Bool) → List A → List A → Bool
same_list same [] [] = true
same_list same [] (b ∷ bs) = false
same_list same (a ∷ as') [] = false
same_list same (a ∷ as') (b ∷ bs) = same a b && same_list same as' bs

-- two C records agree field by field
unfoldable pub same_class : Class → Class → Bool
same_class a b = eqb a.number b.number && eqb a.doses b.doses && eqb a.weight b.weight && eqb a.time b.time

-- two S records agree field by field
unfoldable pub same_slot : Slot → Slot → Bool
same_slot a b =
    (eqb a.fan b.fan && eqb a.dose b.dose && eqb a.class b.class)
    && (eqb a.start_tick b.start_tick && eqb a.start_part b.start_part && eqb a.end_tick b.end_tick && eqb a.end_part b.end_part)
    && (eqb a.weight b.weight && eqb a.time b.time)

-- two states agree
unfoldable pub same_state : State → State → Bool
same_state finished finished = true
same_state finished shut = false
same_state finished idle = false
same_state finished (dosing g) = false
same_state shut finished = false
same_state shut shut = true
same_state shut idle = false
same_state shut (dosing g) = false
same_state idle finished = false
same_state idle shut = false
same_state idle idle = true
same_state idle (dosing g) = false
same_state (dosing f) finished = false
same_state (dosing f) shut = false
same_state (dosing f) idle = false
same_state (dosing f) (dosing g) = eqb f g

-- two points agree
unfoldable pub same_point : Point → Point → Bool
same_point a b = eqb a.amount b.amount && same_state a.state b.state

-- two answers agree
unfoldable pub same_answer : Answer → Answer → Bool
same_answer a b =
    eqb a.number b.number && eqb a.place b.place && (eqb a.set b.set && eqb a.weight b.weight && eqb a.time b.time)

-- a list has no member
unfoldable pub empty_list : {A : Type 0} → List A → Bool
empty_list [] = true
empty_list (a ∷ l) = false

-- ---- the test of a row

-- the shares of a row
abbrev pub case_shares : Case → ℕ → ℕ → ℕ → ℕ
case_shares c i k j = get_or (get_or (get_or c.shares i []) k []) j 0

-- nothing was planned
unfoldable pub nothing_test : Case → Bool
nothing_test c = empty_list c.classes && empty_list c.slots && empty_list c.points

module _ (o : Order) (c : Case) where
  -- set i of the row is the next class after those before it
  unfoldable pub class_test : ℕ → Bool
  class_test i = next_test (setting_of o) (free (setting_of o) (fans_present o) (case_sets c) i) (remaining (case_sets c) i) (case_sets c i)

  -- its shares are valid, and forced
  unfoldable pub shares_test : ℕ → Bool
  shares_test i =
      valid_test (setting_of o) (free (setting_of o) (fans_present o) (case_sets c) i) (case_sets c i) (case_shares c i)
      && all_below (setting_of o).doses (forced_test (setting_of o) (free (setting_of o) (fans_present o) (case_sets c) i) (case_sets c i))

  -- a point of the row is drawn
  unfoldable pub point_test : Drawing → Bool
  point_test d =
      leb (suc d.dose) (setting_of o).doses && leb d.tick week && same_point (point_at o c.slots d.dose d.tick) d.point

  -- refused 9
  unfoldable pub fast_test : Bool
  fast_test = class_test 0 && (above_top o (case_sets c 0) && same_answer (too_fast o (case_sets c 0)) c.answer && nothing_test c)

  -- no dose is left
  unfoldable pub done_test : ℕ → Bool
  done_test k = not (remaining (case_sets c) (length c.sets) k)

  -- the first class, if there is one, is not above the top rate
  unfoldable pub slow_test : Bool
  slow_test = empty_list c.sets || not (above_top o (case_sets c 0))

  -- the records of the plan
  unfoldable pub records_test : Bool
  records_test =
      same_list same_class (classes_of o (length c.sets) (case_sets c)) c.classes
      && same_list same_slot (slots_of o (length c.sets) (case_sets c) (case_shares c)) c.slots

  -- planned
  unfoldable pub plan_test : Bool
  plan_test =
      (all_below (length c.sets) class_test && all_below (setting_of o).doses done_test && slow_test)
      && (all_below (length c.sets) shares_test && records_test) && (all_in point_test c.points && same_answer done c.answer)

-- a row by what its order reads as
unfoldable pub reading_test : Case → Reading Order → Bool
reading_test c (refused number place) = same_answer (refusal number place) c.answer && not (eqb number 0) && nothing_test c
reading_test c (read o) = pick (eqb c.answer.number 9) (fast_test o c) (plan_test o c)

-- a row passes: planning reads its order so, and not as one with a trial bay, so that judging reads it alike
unfoldable pub case_test : Case → Bool
case_test c = reading_test c (read_order last_open_bay c.order) && not (eqb c.answer.number 15)

-- every row passes
pub cases_pass : T (all_in case_test cases)
unfolding all_below all_in every_set inside_test some_test gives_way next_test room_test full_test met_test valid_test most forced_test same_list same_class same_slot same_state same_point same_answer empty_list nothing_test class_test shares_test point_test fast_test done_test slow_test records_test plan_test reading_test case_test sum weight number_at number_bytes fields_at blank_at record_bytes read_from entry_of fans_in doses_in clashes_any no_clash order_of read_order open_fans P free remaining insert instants gather total cut line piece_slot lane_slots interval_slots table_slots units_before time_of drawn feeds starts_before earlier earliest state_by fed_at state_at listed
cases_pass = tt

-- ---- slots that are not the planner's: P1's, with that of dose 0 cut in two at second 5

-- dose 1's, as P1 has it
abbrev pub faster : Slot
faster = slot 1 1 0 0 4 0 16 4 1

-- dose 0's to second 5
abbrev pub early : Slot
early = slot 1 0 4 0 5 0 20 6 2

-- and from there
abbrev pub late : Slot
late = slot 1 0 5 0 10 0 20 6 2

-- the three
abbrev pub split : List Slot
split = faster ∷ early ∷ late ∷ []

-- dose 0 has all its grams at its deadline, where amounts rounded slot by slot lose one of them
pub split_drawn : drawn split 0 10 ≡ 20
unfolding drawn units_before total time_of
split_drawn = refl
