-- Limits (documents 01 and 02): each number that bounds an order, what is worked out of it, a plan, a log or a stream of orders, by its name.
use Rattle.std.specs.Prelude.{ℕ}

-- ---- orders

-- "number of fans, 1 to 8"
abbrev pub most_fans : ℕ
most_fans = 8

-- "top grams, top seconds, each 1 to 1,000,000"
abbrev pub most_top : ℕ
most_top = 1000000

-- "Byte 2 of F .. names the rule": 0 or 1
abbrev pub last_rule : ℕ
last_rule = 1

-- "Newer inlet valves must rest 300 seconds between doses": what rule 1 asks for
abbrev pub valve_rest : ℕ
valve_rest = 300

-- "bay, 1 to 999"
abbrev pub most_bay : ℕ
most_bay = 999

-- "Bays 900 to 999" are trial bays, "and no house has one now": the last bay in front of them, and the last that a new order may name
abbrev pub last_open_bay : ℕ
last_open_bay = 899

-- "604,800": the seconds of a week, the last deadline and the last tick
abbrev pub week : ℕ
week = 604800

-- "release, 0 to 604,799"
abbrev pub last_release : ℕ
last_release = 604799

-- "grams, 1 to 1,000,000"
abbrev pub most_grams : ℕ
most_grams = 1000000

-- "An order is exactly one F, anywhere among up to 24 D."
abbrev pub most_doses : ℕ
most_doses = 24

-- "order length no multiple of 32, or over 1,600": in bytes, and in records
abbrev pub order_room : ℕ
order_room = 1600

abbrev pub most_records : ℕ
most_records = 50

-- ---- what is worked out of an order

-- "bound the intervals; at most 47": 24 releases and 24 deadlines
abbrev pub most_intervals : ℕ
most_intervals = 47

-- the instants that bound them: one more
abbrev pub most_instants : ℕ
most_instants = 48

-- a cell for each dose and interval: 24 × 47
abbrev pub cells : ℕ
cells = 1128

-- the marks of a search: one for each dose and each interval, 71, and one more to make whole words
abbrev pub most_marks : ℕ
most_marks = 72

-- the W of a set: 24 × 1,000,000
abbrev pub most_weight : ℕ
most_weight = 24000000

-- the P of a class: 8 fans for a week
abbrev pub most_fan_time : ℕ
most_fan_time = 4838400

-- ---- plans

-- "plan buffer under 47,392 bytes (24 classes and 1,457 slots)"
abbrev pub plan_room : ℕ
plan_room = 47392

-- ---- logs

-- "at most 4,096": M records, and their bytes
abbrev pub most_logged : ℕ
most_logged = 4096

abbrev pub log_room : ℕ
log_room = 131072

-- "in 1/1024 gram"
abbrev pub gram_parts : ℕ
gram_parts = 1024

-- "A flow is a multiple of 1/1024 from 0 to 1,000": in 1/1024 gram a second
abbrev pub most_flow : ℕ
most_flow = 1024000

-- "the counter runs from 4,294,967,295 on to 0": after so many pulses it is where it was
abbrev pub counter_turn : ℕ
counter_turn = 4294967296

-- ---- streams of orders

-- "a stream of up to 65,536 bytes of orders": in bytes, and in records
abbrev pub stream_room : ℕ
stream_room = 65536

abbrev pub most_streamed : ℕ
most_streamed = 2048

-- "orders refused by number": where every bay is open, an order's own refusals are 2 to 9, all below this
abbrev pub order_numbers : ℕ
order_numbers = 10
