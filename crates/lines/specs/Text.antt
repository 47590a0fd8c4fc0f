-- The printers' texts, byte by byte (document 01, "The plan printer"; document 02, C-15).
use Rattle.std.specs.Prelude.{◌≡◌, List, [], ◌∷◌, ◌++◌, ℕ, zero, suc, ◌+◌, ◌*◌, ◌-◌, ◌/◌, ◌%◌, eqb, ltb, length, get_or}
use Rattle.records.specs.Written.{written}
use Rattle.model.specs.Limits.{order_numbers}
use Rattle.model.specs.Lists.{gather}
use Rattle.model.specs.Records.{pick, class_kind, record_at}
use Rattle.model.specs.Plans.{Class, Slot, PlanRecord, class_record, slot_record, class_of, slot_of}

-- the byte of the digit 0
abbrev pub digit_zero : ℕ
digit_zero = 48

-- ---- numbers

-- a number in decimal, at most so many places: the digits of its tenth part, then its last digit
unfoldable pub decimal : ℕ → ℕ → List ℕ
decimal zero v = []
decimal (suc places) v = pick (ltb v 10) ((digit_zero + v) ∷ []) (decimal places (v / 10) ++ ((digit_zero + v % 10) ∷ []))

-- the number that digits say, behind a number that was read before them
unfoldable pub read_on : ℕ → List ℕ → ℕ
read_on before [] = before
read_on before (d ∷ ds) = read_on (before * 10 + (d - digit_zero)) ds

-- ---- lines

-- a number behind a space; 20 places hold any number of 64 bits
abbrev pub number_text : ℕ → List ℕ
number_text v = (32 ∷ []) ++ decimal 20 v

-- numbers, each behind a space
unfoldable pub numbers_text : List ℕ → List ℕ
numbers_text [] = []
numbers_text (v ∷ vs) = number_text v ++ numbers_text vs

-- numbers, each behind a space, and the end of the line
abbrev pub rest_text : List ℕ → List ℕ
rest_text vs = numbers_text vs ++ (10 ∷ [])

-- a word, its numbers and the end of the line
abbrev pub line_text : List ℕ → List ℕ → List ℕ
line_text word vs = word ++ rest_text vs

-- a line of bare numbers
abbrev pub bare_text : ℕ → List ℕ → List ℕ
bare_text v vs = decimal 20 v ++ rest_text vs

-- "`class` number, doses, W, P"
unfoldable pub class_text : Class → List ℕ
class_text c = line_text (99 ∷ 108 ∷ 97 ∷ 115 ∷ 115 ∷ []) (c.number ∷ c.doses ∷ c.weight ∷ c.time ∷ [])

-- "`slot` fan, dose, start tick, part, end tick, part, class"
unfoldable pub slot_text : Slot → List ℕ
slot_text s =
    line_text (115 ∷ 108 ∷ 111 ∷ 116 ∷ [])
    (s.fan ∷ s.dose ∷ s.start_tick ∷ s.start_part ∷ s.end_tick ∷ s.end_part ∷ s.class ∷ [])

-- "`total` classes, slots"
unfoldable pub total_text : ℕ → ℕ → List ℕ
total_text classes slots = line_text (116 ∷ 111 ∷ 116 ∷ 97 ∷ 108 ∷ []) (classes ∷ slots ∷ [])

-- "A refusal prints `refused` number place, and for 9 also the set, W, P."
unfoldable pub refused_text : ℕ → ℕ → ℕ → ℕ → ℕ → List ℕ
refused_text number place set weight time =
    line_text (114 ∷ 101 ∷ 102 ∷ 117 ∷ 115 ∷ 101 ∷ 100 ∷ [])
    (pick (eqb number 9) (number ∷ place ∷ set ∷ weight ∷ time ∷ []) (number ∷ place ∷ []))

-- ---- a plan

-- the line of a record, by its kind
unfoldable pub record_text : List ℕ → List ℕ
record_text r = pick (eqb (get_or r 0 0) class_kind) (class_text (class_of r)) (slot_text (slot_of r))

-- the lines of the first n records of plan bytes
abbrev pub records_text : List ℕ → ℕ → List ℕ
records_text bytes n = gather n (λ i. record_text (record_at bytes i))

-- a line for each class and slot of plan bytes, and the total
unfoldable pub plan_text : List ℕ → ℕ → ℕ → List ℕ
plan_text bytes classes slots = records_text bytes (classes + slots) ++ total_text classes slots

-- the line of what a record says
abbrev pub said_text : PlanRecord → List ℕ
said_text (class_record c) = class_text c
said_text (slot_record s) = slot_text s

-- the lines of what records say
unfoldable pub said_lines : List PlanRecord → List ℕ
said_lines [] = []
said_lines (r ∷ rs) = said_text r ++ said_lines rs

-- ---- a season (document 02, C-15): "one figure a line in this order"

-- "a line of number and count for each refusal met"
unfoldable pub met_text : ℕ → ℕ → List ℕ
met_text number count = pick (eqb count 0) [] (bare_text number (count ∷ []))

-- "rising"; the count of number n stands at n
abbrev pub refusals_text : List ℕ → List ℕ
refusals_text counts = gather order_numbers (λ n. met_text n (get_or counts n 0))

-- "grams, fan_seconds, then W and P on one line"
unfoldable pub totals_text : ℕ → ℕ → ℕ → ℕ → List ℕ
totals_text grams seconds weight time = bare_text grams [] ++ (bare_text seconds [] ++ bare_text weight (time ∷ []))

-- "accepted", the refusals met, and these
unfoldable pub season_text : ℕ → List ℕ → ℕ → ℕ → ℕ → ℕ → List ℕ
season_text accepted counts grams seconds weight time = bare_text accepted [] ++ (refusals_text counts ++ totals_text grams seconds weight time)

-- ---- a text in a buffer

-- the text is in the buffer from the place `at` on, every other byte is as it was, and `end` is the place behind the text
pub record Put (text before : List ℕ) (at : ℕ) (after : List ℕ) (end : ℕ) : Type 0 where
  pub next : end ≡ at + length text
  pub now : after ≡ written before at text
