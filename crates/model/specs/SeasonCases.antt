-- Streams of orders (document 02, C-15), as one list of rows and one claim about a row; and the test that is computed of a row.
use Rattle.std.specs.Prelude.{◌≡◌, Bool, ◌&&◌, List, [], ◌∷◌, ◌++◌, map, ℕ, T, eqb, replicate}
use Rattle.model.specs.Limits.{most_bay, order_numbers, stream_room}
use Rattle.model.specs.Sets.{sum, weight}
use Rattle.model.specs.Lists.{gather, total}
use Rattle.model.specs.Records.{pick, Reading, read, refused, number_at, number_bytes, fields_at, blank_at, record_bytes, read_from, fans_kind, dose_kind, slot_kind, class_parts}
use Rattle.model.specs.Orders.{entry_of, fans_in, doses_in, clashes_any, no_clash, order_of, read_order}
use Rattle.model.specs.Classes.{open_fans, P, free, remaining}
use Rattle.model.specs.Intervals.{insert, instants}
use Rattle.model.specs.Plans.{Class}
use Rattle.model.specs.Layout.{cut, line, piece_slot, lane_slots, interval_slots, table_slots}
use Rattle.model.specs.Line.{units_before, time_of, drawn, feeds, starts_before, earlier, earliest, state_by, fed_at, state_at}
use Rattle.model.specs.Answers.{refusal, done}
use Rattle.model.specs.Season.{before_next, orders_from, read_stream, Rate, no_rate, Outcome, accepted_with, refused_by, greatest_from, Season, season_of, AddedUp, not_added_up, AddsUp}
use Rattle.model.specs.Cases.{Case, F, FBy, D, refused_case, alone_order, bench, listed}
use Rattle.model.specs.CaseTests.{all_below, all_in, every_set, inside_test, some_test, gives_way, next_test, room_test, full_test, met_test, valid_test, most, forced_test, same_list, same_class, same_slot, same_state, same_point, same_answer, empty_list, nothing_test, class_test, shares_test, point_test, fast_test, done_test, slow_test, records_test, plan_test, reading_test}
use Rattle.model.specs.TrialCases.{doses_in_turn}

-- a stream, its orders as rows that are judged, and what comes back
pub record SeasonCase : Type 0 where
  pub stream : List ℕ
  pub orders : List Case
  pub added : AddedUp

-- the claim about a row: this comes back, and nothing else
pub record SeasonRight (c : SeasonCase) : Type 0 where
  pub adds : AddsUp c.stream c.added
  pub only : (x : AddedUp) → AddsUp c.stream x → x ≡ c.added

-- ---- the rows

-- orders one behind the other
unfoldable pub joined : List Case → List ℕ
joined [] = []
joined (c ∷ cs) = c.order ++ joined cs

-- so many orders accepted, the counts of refusals 0 to 9, grams, fan_seconds, W and P
abbrev figures : ℕ → List ℕ → ℕ → ℕ → ℕ → ℕ → AddedUp
figures accepted counts grams seconds w p = record {
  answer = done;
  season = record { accepted = accepted; refused = counts; grams = grams; seconds = seconds; greatest = record { weight = w; time = p } };
}

-- a season of these orders
abbrev season_case : List Case → AddedUp → SeasonCase
season_case orders added = record { stream = joined orders; orders = orders; added = added }

-- bytes that are refused 16
abbrev no_season : List ℕ → SeasonCase
no_season stream = record { stream = stream; orders = []; added = not_added_up (refusal 16 0) }

-- no order refused
abbrev all_accepted : List ℕ
all_accepted = replicate order_numbers 0

-- P1's classes are 16/4 and 20/6; P4's first is 8/4, P5's 10/5, P12's 20/8; P8 is refused 9, with 16/4; P10 is an F alone
abbrev pub season_cases : List SeasonCase
season_cases =
    -- no bytes: "0 and 1 if there is none"
    season_case [] (figures 0 all_accepted 0 0 0 1)
    -- 16 "is not empty and doesn't open with F": a dose in front of its F, and a record of no kind
    ∷ no_season (D 1 0 5 10 ++ F 2 1000 1)
    ∷ no_season (replicate 32 0)
    -- 16 "is not whole records"
    ∷ no_season (F 2 1000 1 ++ 0 ∷ [])
    ∷ no_season (0x46 ∷ [])
    -- 16 "the stream is longer": a byte more, and a record more
    ∷ no_season (0x46 ∷ replicate stream_room 0)
    ∷ no_season (F 2 1000 1 ++ replicate stream_room 0)
    -- an F alone is an order without doses; two are two orders
    ∷ season_case (bench 10 ∷ []) (figures 1 all_accepted 0 0 0 1)
    ∷ season_case (bench 10 ∷ bench 10 ∷ []) (figures 2 all_accepted 0 0 0 1)
    -- fan_seconds are those of all classes, the first class is one of them: P1 has 16/4 and 20/6
    ∷ season_case (bench 1 ∷ []) (figures 1 all_accepted 36 10 16 4)
    -- "the earliest on a tie", unreduced: 8/4 and 10/5, both ways, and behind an F alone
    ∷ season_case (bench 4 ∷ bench 5 ∷ []) (figures 2 all_accepted 18 9 8 4)
    ∷ season_case (bench 5 ∷ bench 4 ∷ []) (figures 2 all_accepted 18 9 10 5)
    ∷ season_case (bench 10 ∷ bench 5 ∷ bench 10 ∷ bench 4 ∷ []) (figures 4 all_accepted 18 9 10 5)
    -- by exact products: 20/8 is above 10/5, though both are 2 by whole division
    ∷ season_case (bench 5 ∷ bench 12 ∷ []) (figures 2 all_accepted 30 13 20 8)
    ∷ season_case (bench 12 ∷ bench 5 ∷ []) (figures 2 all_accepted 30 13 20 8)
    -- the greatest is neither the first nor the last
    ∷ season_case (bench 5 ∷ bench 1 ∷ bench 4 ∷ []) (figures 3 all_accepted 54 19 16 4)
    -- refused by 9, though the others are accepted: its grams and its first class, 16/4, count nowhere
    ∷ season_case (bench 8 ∷ bench 5 ∷ []) (figures 1 (0 ∷ 0 ∷ 0 ∷ 0 ∷ 0 ∷ 0 ∷ 0 ∷ 0 ∷ 0 ∷ 1 ∷ []) 10 5 10 5)
    -- every refusal that can come: 2 for an order of over 1,600 bytes, 3, 4, 5, 7, 8, 9; an F may be the damaged record, and still begins its order
    ∷ season_case (
    bench 5
    ∷ refused_case (F 1 1000 1 ++ doses_in_turn 50) 2 0
    ∷ refused_case (F 1 1000 1 ++ record_bytes class_parts (slot_kind ∷ 1 ∷ [])) 3 1
    ∷ refused_case (F 1 1000 1 ++ record_bytes class_parts (dose_kind ∷ 1 ∷ [])) 4 1
    ∷ refused_case (record_bytes class_parts (fans_kind ∷ 1 ∷ 0x0100 ∷ [])) 4 0
    ∷ refused_case (F 1 1000 1 ++ D 1 0 5 0) 5 1
    ∷ refused_case (F 9 1000 1 ++ D 1 0 5 10) 5 0
    ∷ refused_case (F 1 1000 1 ++ doses_in_turn 25) 7 0
    ∷ bench 13
    ∷ bench 8
    ∷ bench 4
    ∷ []
    ) (figures 2 (0 ∷ 0 ∷ 1 ∷ 1 ∷ 2 ∷ 2 ∷ 0 ∷ 1 ∷ 1 ∷ 1 ∷ []) 18 9 10 5)
    -- "Trial bays are read as in judging, without 15."
    ∷ season_case (alone_order (F 2 1000 1 ++ D 900 0 5 10) ∷ bench 5 ∷ []) (figures 2 all_accepted 20 10 10 5)
    -- C-16: each order by the rule of its own F
    ∷ season_case (bench 12 ∷ refused_case (FBy 1 1 1000 1 ++ D 1 0 4 10 ++ D 1 4 8 10) 8 2 ∷ bench 12 ∷ [])
    (figures 2 (0 ∷ 0 ∷ 0 ∷ 0 ∷ 0 ∷ 0 ∷ 0 ∷ 0 ∷ 1 ∷ 0 ∷ []) 40 16 20 8)
    ∷ []

-- ---- the test of a row

-- what a row of the bench comes to, by its answer and its C records
unfoldable pub first_in : List Class → Rate
first_in [] = no_rate
first_in (c ∷ cs) = record { weight = c.weight; time = c.time }

unfoldable pub case_outcome : Case → Outcome
case_outcome c =
    pick (eqb c.answer.number 0)
    (accepted_with (total (λ k. k.weight) c.classes) (total (λ k. k.time) c.classes) (first_in c.classes))
    (refused_by c.answer.number)

-- two seasons agree
unfoldable pub same_season : Season → Season → Bool
same_season a b =
    (eqb a.accepted b.accepted && same_list eqb a.refused b.refused && eqb a.grams b.grams)
    && (eqb a.seconds b.seconds && eqb a.greatest.weight b.greatest.weight && eqb a.greatest.time b.greatest.time)

-- an order is judged as its row says
unfoldable pub judged_test : Case → Bool
judged_test c = reading_test c (read_order most_bay c.order)

-- the stream is refused as the row says; or its orders are the row's, and come to the row's figures
unfoldable pub added_test : SeasonCase → Reading (List (List ℕ)) → Bool
added_test c (refused number place) =
    same_answer (refusal number place) c.added.answer && same_season (not_added_up (refusal number place)).season c.added.season
added_test c (read orders) =
    (same_list (same_list eqb) orders (map (λ k. k.order) c.orders) && all_in judged_test c.orders)
    && (same_answer done c.added.answer && same_season (season_of (map case_outcome c.orders)) c.added.season)

unfoldable pub season_test : SeasonCase → Bool
season_test c = added_test c (read_stream c.stream)

-- every row passes
pub season_cases_pass : T (all_in season_test season_cases)
unfolding joined doses_in_turn first_in case_outcome same_season judged_test added_test season_test before_next orders_from read_stream greatest_from season_of all_below all_in every_set inside_test some_test gives_way next_test room_test full_test met_test valid_test most forced_test same_list same_class same_slot same_state same_point same_answer empty_list nothing_test class_test shares_test point_test fast_test done_test slow_test records_test plan_test reading_test sum weight number_at number_bytes fields_at blank_at record_bytes read_from entry_of fans_in doses_in clashes_any no_clash order_of read_order open_fans P free remaining insert instants gather total cut line piece_slot lane_slots interval_slots table_slots units_before time_of drawn feeds starts_before earlier earliest state_by fed_at state_at listed
season_cases_pass = tt
