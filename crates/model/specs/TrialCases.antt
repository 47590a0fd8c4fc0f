-- Orders that name trial bays (document 02, C-14), as one list of rows and one claim about a row; and the test that is computed of a row.
use Rattle.std.specs.Prelude.{Bool, false, ◌&&◌, List, [], ◌∷◌, ◌++◌, ℕ, zero, suc, T, eqb}
use Rattle.model.specs.Limits.{last_open_bay, most_bay}
use Rattle.model.specs.Sets.{sum, weight}
use Rattle.model.specs.Lists.{gather, total}
use Rattle.model.specs.Records.{Reading, read, refused, number_at, number_bytes, fields_at, blank_at, record_bytes, read_from, dose_kind, class_kind, class_parts}
use Rattle.model.specs.Orders.{Order, entry_of, fans_in, doses_in, clashes_any, no_clash, order_of, read_order}
use Rattle.model.specs.Classes.{open_fans, P, free, remaining}
use Rattle.model.specs.Intervals.{insert, instants}
use Rattle.model.specs.Layout.{cut, line, piece_slot, lane_slots, interval_slots, table_slots}
use Rattle.model.specs.Line.{units_before, time_of, drawn, feeds, starts_before, earlier, earliest, state_by, fed_at, state_at}
use Rattle.model.specs.Answers.{Planned, refusal}
use Rattle.model.specs.Cases.{Case, F, D, refused_case, fast_case, one_fan_order, alone_order, listed, PlanningRight, JudgingRight}
use Rattle.model.specs.CaseTests.{all_below, all_in, every_set, inside_test, some_test, gives_way, next_test, room_test, full_test, met_test, valid_test, most, forced_test, same_list, same_class, same_slot, same_state, same_point, same_answer, empty_list, nothing_test, class_test, shares_test, point_test, fast_test, done_test, slow_test, records_test, plan_test, reading_test}

-- an old order, as a row that is judged and drawn; and the index of its first record with a trial bay
pub record TrialCase : Type 0 where
  pub old : Case
  pub place : ℕ

-- what planning it answers: "15, in planning only, .. with the record's place"
abbrev pub not_planned : TrialCase → Planned
not_planned c = record { answer = refusal 15 c.place; classes = 0; slots = 0 }

-- the claim about a row
pub record TrialRight (c : TrialCase) : Type 0 where
  -- "New orders that name them are not planned": 15 and nothing else, and no byte changes
  pub planning : PlanningRight c.old.order (not_planned c) []
  -- "Old orders and their plans are still judged, drawn and replayed"
  pub judging : JudgingRight c.old

-- ---- the rows

-- so many doses of bay 1, one behind the other
unfoldable pub doses_in_turn : ℕ → List ℕ
doses_in_turn zero = []
doses_in_turn (suc n) = D 1 n (suc n) 1 ++ doses_in_turn n

-- "Bays 900 to 999"
abbrev pub trial_cases : List TrialCase
trial_cases =
    -- the first of them, P5's dose otherwise
    record { old = alone_order (F 2 1000 1 ++ D 900 0 5 10); place = 1 }
    -- the last of them, P1 otherwise: the place is the record's index, and its dose is number 1
    ∷ record { old = one_fan_order (F 1 1000 1 ++ D 899 0 10 20 ++ D 999 0 4 16); place = 2 }
    -- two of them: the first is named
    ∷ record { old = one_fan_order (F 1 1000 1 ++ D 950 0 10 20 ++ D 951 0 4 16); place = 1 }
    -- the F may stand behind
    ∷ record { old = alone_order (D 900 0 5 10 ++ F 2 1000 1); place = 0 }
    -- what comes behind is hidden: 3, 4 and 5 in a later record
    ∷ record { old = refused_case (F 2 1000 1 ++ D 900 0 5 10 ++ record_bytes class_parts (class_kind ∷ 1 ∷ [])) 3 2; place = 1 }
    ∷ record { old = refused_case (F 2 1000 1 ++ D 900 0 5 10 ++ record_bytes class_parts (dose_kind ∷ 1 ∷ [])) 4 2; place = 1 }
    ∷ record { old = refused_case (F 2 1000 1 ++ D 900 0 5 10 ++ D 1 0 5 0) 5 2; place = 1 }
    -- 6, of no F and of two
    ∷ record { old = refused_case (D 900 0 5 10) 6 0; place = 0 }
    ∷ record { old = refused_case (F 2 1000 1 ++ D 900 0 5 10 ++ F 2 1000 1) 6 0; place = 1 }
    -- 7
    ∷ record { old = refused_case (F 2 1000 1 ++ doses_in_turn 24 ++ D 900 0 5 10) 7 0; place = 25 }
    -- 8, P12's overlap in a trial bay
    ∷ record { old = refused_case (F 1 1000 1 ++ D 901 0 4 10 ++ D 901 3 8 10) 8 2; place = 1 }
    -- 9, P8 otherwise
    ∷ record { old = fast_case (F 1 3 1 ++ D 1 0 10 20 ++ D 900 0 4 16) (1 ∷ []) 2 16 4; place = 2 }
    ∷ []

-- ---- the test of a row

-- refused 15 with this place
unfoldable pub closed_test : ℕ → Reading Order → Bool
closed_test place (read o) = false
closed_test place (refused number at) = eqb number 15 && eqb at place

-- as a new order and as an old one
unfoldable pub trial_test : TrialCase → Bool
trial_test c = closed_test c.place (read_order last_open_bay c.old.order) && reading_test c.old (read_order most_bay c.old.order)

-- every row passes
pub trial_cases_pass : T (all_in trial_test trial_cases)
unfolding doses_in_turn closed_test trial_test all_below all_in every_set inside_test some_test gives_way next_test room_test full_test met_test valid_test most forced_test same_list same_class same_slot same_state same_point same_answer empty_list nothing_test class_test shares_test point_test fast_test done_test slow_test records_test plan_test reading_test sum weight number_at number_bytes fields_at blank_at record_bytes read_from entry_of fans_in doses_in clashes_any no_clash order_of read_order open_fans P free remaining insert instants gather total cut line piece_slot lane_slots interval_slots table_slots units_before time_of drawn feeds starts_before earlier earliest state_by fed_at state_at listed
trial_cases_pass = tt
