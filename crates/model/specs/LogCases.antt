-- Logs laid beside the plans of the bench examples, as one list of rows and one claim about a row, and the test that the rows pass; that a
-- row which passes is right is proved (Log/Cases of the crate demands).
use Rattle.std.specs.Prelude.{◌≡◌, Bool, false, ◌&&◌, List, [], ◌∷◌, ◌++◌, ℕ, ◌-◌, T, eqb, leb, ltb, length, replicate, take}
use Rattle.std.specs.Float.Ieee.{of_bits}
use Rattle.model.specs.Limits.{most_bay}
use Rattle.model.specs.Lists.{total}
use Rattle.model.specs.Records.{Reading, read, refused, pick, number_at, number_bytes, meter_kind, meter_parts, fields_at, blank_at, record_bytes, read_from}
use Rattle.model.specs.Orders.{Order, dose_at, entry_of, fans_in, doses_in, clashes_any, no_clash, order_of, read_order}
use Rattle.model.specs.Intervals.{setting_of}
use Rattle.model.specs.Plans.{plan_record_of, plan_records, plan_record_bytes, records_bytes, slots_in}
use Rattle.model.specs.Line.{units_before, time_of, drawn}
use Rattle.model.specs.Log.{flow_fits, flow_parts, value_fits, meter_fits, reading_of, logged_of, rises_from, rises, read_log, stretches_from, stretches, metering_of, if_metered, if_known, if_unknown, figures_of}
use Rattle.model.specs.Answers.{refusal, done, Laid, not_laid, laid_by, line_of, Lays}
use Rattle.model.specs.Cases.{Case, bench, case_plan, cases}
use Rattle.model.specs.CaseTests.{all_in, same_answer}

-- a row of the bench's table, from 1, so that row 1 is P1, and 12 and 13 are P12's two; a dose of it, the bytes of a log, and what comes back
pub record LogCase : Type 0 where
  pub row : ℕ
  pub dose : ℕ
  pub log : List ℕ
  pub laid : Laid

-- the order and the plan of the row
abbrev pub bench_case : LogCase → Case
bench_case c = bench c.row

-- the claim about a row: this comes back, and nothing else
pub record LogRight (c : LogCase) : Type 0 where
  pub lays : Lays (bench_case c).order (case_plan (bench_case c)) c.dose c.log c.laid
  pub only : (x : Laid) → Lays (bench_case c).order (case_plan (bench_case c)) c.dose c.log x → x ≡ c.laid

-- ---- the rows

-- an M record
abbrev M : ℕ → ℕ → ℕ → ℕ → List ℕ
M form bay tick value = record_bytes meter_parts (meter_kind ∷ form ∷ bay ∷ tick ∷ value ∷ [])

-- "Forms are 0, 1, 2 in that order": at a bay and a tick a missing reading, a counter value, a flow's bits
abbrev missing_at : ℕ → ℕ → List ℕ
missing_at bay tick = M 0 bay tick 0

abbrev counter_at : ℕ → ℕ → ℕ → List ℕ
counter_at = M 1

abbrev flow_at : ℕ → ℕ → ℕ → List ℕ
flow_at = M 2

-- row of the bench's table, dose, log, metered, risen, unknown
abbrev laid_case : ℕ → ℕ → List ℕ → ℕ → ℕ → ℕ → LogCase
laid_case row dose log metered risen unknown =
    record { row = row; dose = dose; log = log; laid = record { answer = done; figures = record { metered = metered; risen = risen; unknown = unknown } } }

-- row of the bench's table, dose, log, number, place
abbrev not_laid_case : ℕ → ℕ → List ℕ → ℕ → ℕ → LogCase
not_laid_case row dose log number place = record { row = row; dose = dose; log = log; laid = not_laid (refusal number place) }

-- P1's dose 0 is at bay 1 and has 0, 3, 6, 10, 20 grams at 4, 5, 6, 7, 10; P2's dose 1 is at bay 2 and has 0, 5, 5, 10 at 0, 1, 2, 3
abbrev pub log_cases : List LogCase
log_cases =
    -- "the counter runs from 4,294,967,295 on to 0": 11 pulses
    laid_case 1 0 (counter_at 1 4 4294967290 ++ counter_at 1 6 5) 11264 6144 0
    -- most of a turn, and a counter that stands still
    ∷ laid_case 1 0 (counter_at 1 0 1 ++ counter_at 1 10 0) 4398046510080 20480 0
    ∷ laid_case 1 0 (counter_at 1 0 77 ++ counter_at 1 10 77) 0 20480 0
    -- "a flow holds until the next record": 0.5 for ten seconds, the last one's for none
    ∷ laid_case 1 0 (flow_at 1 0 0x3f00_0000 ++ flow_at 1 10 0x447a_0000) 5120 20480 0
    -- the least flow above zero and the greatest, a second each
    ∷ laid_case 1 0 (flow_at 1 4 0x3a80_0000 ++ flow_at 1 5 0x447a_0000 ++ flow_at 1 6 0) 1024001 6144 0
    -- the greatest flow for a week, to the last tick
    ∷ laid_case 5 0 (flow_at 1 0 0x447a_0000 ++ flow_at 1 604800 0) 619315200000 10240 0
    -- "minus zero read as zero"
    ∷ laid_case 1 0 (flow_at 1 0 0x8000_0000 ++ flow_at 1 10 0x8000_0000) 0 20480 0
    -- "known only if both have the same form": a counter, then 1.5 from second 5 on, then a counter
    ∷ laid_case 1 0 (counter_at 1 0 0 ++ flow_at 1 5 0x3fc0_0000 ++ flow_at 1 7 0x3fc0_0000 ++ counter_at 1 10 20) 3072 7168 8
    -- "and neither is missing": one between two counters, and two behind each other
    ∷ laid_case 1 0 (counter_at 1 0 0 ++ missing_at 1 5 ++ counter_at 1 10 20) 0 0 10
    ∷ laid_case 1 0 (missing_at 1 4 ++ missing_at 1 5 ++ counter_at 1 6 0 ++ counter_at 1 7 9) 9216 4096 2
    -- "under two records, all are zero"
    ∷ laid_case 1 0 (counter_at 1 4 9) 0 0 0
    ∷ laid_case 1 0 [] 0 0 0
    -- every stretch known over the whole window and beyond: what rose is the dose's grams
    ∷ laid_case 1 0 (counter_at 1 0 5 ++ counter_at 1 7 13 ++ counter_at 1 604800 25) 20480 20480 0
    -- a counter at each second beside a line that rests
    ∷ laid_case 2 1 (counter_at 2 0 100 ++ counter_at 2 1 105 ++ counter_at 2 2 105 ++ counter_at 2 3 110) 10240 10240 0
    -- two doses of one bay: one log, beside the line of each
    ∷ laid_case 12 0 (counter_at 1 0 0 ++ counter_at 1 4 10 ++ counter_at 1 8 20) 20480 10240 0
    ∷ laid_case 12 1 (counter_at 1 0 0 ++ counter_at 1 4 10 ++ counter_at 1 8 20) 20480 10240 0
    -- 13 in record 3 with 14 in record 1: 13 comes first
    ∷ not_laid_case 1 0 (counter_at 1 5 0 ++ counter_at 1 5 1 ++ counter_at 1 6 2 ++ counter_at 2 7 3) 13 3
    -- 14 alone: a tick that stays, and one that falls, the first of two
    ∷ not_laid_case 1 0 (counter_at 1 4 0 ++ counter_at 1 5 1 ++ counter_at 1 5 2) 14 2
    ∷ not_laid_case 1 0 (counter_at 1 4 0 ++ missing_at 1 3 ++ missing_at 1 2) 14 1
    -- 13 "a bay other than the dose's", though another dose's; "tick up to 604,800"
    ∷ not_laid_case 1 0 (counter_at 1 0 0 ++ counter_at 2 1 0) 13 1
    ∷ not_laid_case 5 0 (counter_at 1 0 0 ++ counter_at 1 604801 10) 13 1
    -- 13 a kind, a form, a missing one with a value, a byte that must be zero
    ∷ not_laid_case 1 0 (record_bytes meter_parts (0x44 ∷ 1 ∷ 1 ∷ 0 ∷ 0 ∷ [])) 13 0
    ∷ not_laid_case 1 0 (missing_at 1 0 ++ M 3 1 1 0) 13 1
    ∷ not_laid_case 1 0 (missing_at 1 0 ++ M 0 1 1 1) 13 1
    ∷ not_laid_case 1 0 (take 31 (counter_at 1 0 0) ++ 1 ∷ []) 13 0
    -- 13 flows: 1/2048, 1,000 and 1/1024, -1, infinity, a NaN
    ∷ not_laid_case 1 0 (flow_at 1 0 0x3a00_0000) 13 0
    ∷ not_laid_case 1 0 (flow_at 1 0 0 ++ flow_at 1 1 0x447a_0010) 13 1
    ∷ not_laid_case 1 0 (flow_at 1 0 0xbf80_0000) 13 0
    ∷ not_laid_case 1 0 (flow_at 1 0 0x7f80_0000) 13 0
    ∷ not_laid_case 1 0 (flow_at 1 0 0x7fc0_0000) 13 0
    -- 13 "0 for a length", before a record is looked at: 33 bytes, and 4,097 records; of 4,096 the first bad one is named
    ∷ not_laid_case 1 0 (counter_at 1 0 0 ++ 0 ∷ []) 13 0
    ∷ not_laid_case 1 0 (counter_at 1 0 0 ++ counter_at 2 1 0 ++ 0 ∷ []) 13 0
    ∷ not_laid_case 1 0 (counter_at 1 0 0 ++ replicate 131072 0) 13 0
    ∷ not_laid_case 1 0 (counter_at 1 0 0 ++ replicate 131040 0) 13 1
    -- before 13: 11, 9 with its set, W and P, 8 with its place, 6. 10 has no row here: a row's plan is its bench row's, which stands where the order is
    -- accepted
    ∷ not_laid_case 1 7 (0 ∷ []) 11 0
    ∷ not_laid_case 10 0 [] 11 0
    ∷ record { row = 8; dose = 0; log = counter_at 1 4 0; laid = not_laid (record { number = 9; place = 0; set = 2; weight = 16; time = 4 }) }
    ∷ not_laid_case 13 0 [] 8 2
    ∷ not_laid_case 11 0 (0 ∷ []) 6 0
    ∷ []

-- ---- the test of a row

-- two answers agree, and their figures
unfoldable pub same_laid : Laid → Laid → Bool
same_laid a b =
    same_answer a.answer b.answer
    && (eqb a.figures.metered b.figures.metered && eqb a.figures.risen b.figures.risen && eqb a.figures.unknown b.figures.unknown)

-- of an order that is accepted and a plan that stands
unfoldable pub laid_of : Order → List ℕ → ℕ → List ℕ → Laid
laid_of o plan d log = pick (leb (setting_of o).doses d) (not_laid (refusal 11 0)) (laid_by (line_of plan d) (read_log (dose_at o d).bay log))

-- a row by what its order reads as, where the bench's row is answered 0
unfoldable pub laid_test : LogCase → Reading Order → Bool
laid_test c (read o) = same_laid (laid_of o (case_plan (bench_case c)) c.dose c.log) c.laid
laid_test c (refused number place) = false

-- a row passes: where the bench's row is refused, by its answer
unfoldable pub log_test : LogCase → Bool
log_test c =
    ltb (c.row - 1) (length cases)
    && pick (eqb (bench_case c).answer.number 0) (laid_test c (read_order most_bay (bench_case c).order)) (same_laid (not_laid (bench_case c).answer) c.laid)

-- every row passes
pub log_cases_pass : T (all_in log_test log_cases)
unfolding all_in same_answer same_laid laid_by laid_of laid_test log_test number_at number_bytes fields_at blank_at record_bytes read_from entry_of fans_in doses_in clashes_any no_clash order_of read_order plan_record_of plan_records plan_record_bytes records_bytes slots_in total units_before time_of drawn flow_fits flow_parts value_fits meter_fits reading_of logged_of rises_from rises read_log stretches_from stretches metering_of if_metered if_known if_unknown figures_of of_bits
log_cases_pass = tt
