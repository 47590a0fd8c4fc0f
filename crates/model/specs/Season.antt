-- The season's sheet (document 02, C-15): a stream of orders cut at its F records, what each order comes to, and the season's figures.
use Rattle.std.specs.Prelude.{◌≡◌, Bool, ◌&&◌, ◌||◌, List, [], ◌∷◌, ℕ, zero, suc, ◌+◌, ◌*◌, ◌-◌, ◌/◌, ◌%◌, eqb, leb, ltb, length, get_or, take, drop, replicate}
use Rattle.model.specs.Limits.{most_bay, order_numbers, stream_room}
use Rattle.model.specs.Sets.{on, Doses}
use Rattle.model.specs.Lists.{gather, total, Along}
use Rattle.model.specs.Records.{pick, Reading, read, refused, record_size, fans_kind, record_at}
use Rattle.model.specs.Orders.{Order}
use Rattle.model.specs.Classes.{W, P}
use Rattle.model.specs.Intervals.{setting_of, fans_present}
use Rattle.model.specs.Plans.{Slot, plan_records, slots_read}
use Rattle.model.specs.Stands.{Stands, starts, ends}
use Rattle.model.specs.Answers.{Answer, refusal, done, FirstClass, Refuses, Accepts}

-- ---- the stream: "orders that each begin with their F record; the records from that one on, up to the next F, are read as an order of their own"

-- record i begins an order
abbrev pub begins : List ℕ → ℕ → Bool
begins stream i = eqb (get_or (record_at stream i) 0 0) fans_kind

-- of the n records from record i on, how many stand before the next F
unfoldable pub before_next : List ℕ → ℕ → ℕ → ℕ
before_next stream i zero = 0
before_next stream i (suc n) = pick (begins stream i) 0 (suc (before_next stream (suc i) n))

-- n records from record i on
abbrev pub records_at : List ℕ → ℕ → ℕ → List ℕ
records_at stream i n = take (record_size * n) (drop (record_size * i) stream)

-- the order that begins with record i, where n records stand behind it
abbrev pub order_at : List ℕ → ℕ → ℕ → List ℕ
order_at stream i n = records_at stream i (suc (before_next stream (suc i) n))

-- the orders that begin among the n records from record i on, the last of a stream
unfoldable pub orders_from : List ℕ → ℕ → ℕ → List (List ℕ)
orders_from stream i zero = []
orders_from stream i (suc n) = pick (begins stream i) (order_at stream i n ∷ orders_from stream (suc i) n) (orders_from stream (suc i) n)

-- "a stream of up to 65,536 bytes"; "16 the stream is longer, is not whole records, or is not empty and doesn't open with F"
abbrev pub stream_fits : List ℕ → Bool
stream_fits stream = leb (length stream) stream_room && eqb (length stream % record_size) 0 && (eqb (length stream) 0 || begins stream 0)

-- the bytes of each order of a stream
unfoldable pub read_stream : List ℕ → Reading (List (List ℕ))
read_stream stream = pick (stream_fits stream) (read (orders_from stream 0 (length stream / record_size))) (refused 16 0)

-- ---- fan_seconds, "from the slots"

-- a time as a fraction: so many units, of which so many make a second
pub record Time : Type 0 where
  pub units : ℕ
  pub per_second : ℕ

-- the time of a slot: "A moment is a tick plus part/W", so W units make a second
abbrev pub slot_time : Slot → Time
slot_time s = record { units = ends s - starts s; per_second = s.weight }

-- a/b + c/d is (a × d + c × b) / (b × d)
abbrev pub plus : Time → Time → Time
plus x y = record { units = x.units * y.per_second + y.units * x.per_second; per_second = x.per_second * y.per_second }

-- the time of each slot, together
unfoldable pub slots_time : List Slot → Time
slots_time [] = record { units = 0; per_second = 1 }
slots_time (s ∷ slots) = plus (slot_time s) (slots_time slots)

-- the slots of plan bytes take v seconds of fan time
pub record Takes (plan : List ℕ) (v : ℕ) : Type 0 where
  pub whole : (slots_time (slots_read (plan_records plan))).units ≡ v * (slots_time (slots_read (plan_records plan))).per_second

-- ---- first classes

-- a rate W / P
pub record Rate : Type 0 where
  pub weight : ℕ
  pub time : ℕ

-- "0 and 1 if there is none"
abbrev pub no_rate : Rate
no_rate = record { weight = 0; time = 1 }

-- the W and P of an order's first class
pub data FirstRate (o : Order) : Rate → Type 0 where
  no_first_class : (setting_of o).doses ≡ 0 → FirstRate o no_rate
  first_class : (A : Doses) → FirstClass o A → FirstRate o (record { weight = W (setting_of o) A; time = P (setting_of o) (fans_present o) A })

-- the greater of two rates, by exact products; "the earliest on a tie": the second one only if it is above the first
abbrev pub greater : Rate → Rate → Rate
greater a b = pick (ltb (a.weight * b.time) (b.weight * a.time)) b a

-- ---- what one order comes to

-- its grams, its fan_seconds and its first class; or the number of its refusal
pub data Outcome : Type 0 where
  accepted_with : ℕ → ℕ → Rate → Outcome
  refused_by : ℕ → Outcome

-- the bytes of an order come to this. "Trial bays are read as in judging, without 15."
pub data Comes (order : List ℕ) : Outcome → Type 0 where
  refuses : (a : Answer) → Refuses most_bay order a → Comes order (refused_by a.number)
  accepts : (o : Order) → Accepts most_bay order o → (plan : List ℕ) → Stands o plan → (seconds : ℕ) → Takes plan seconds → (first : Rate) → FirstRate o first
      → Comes order (accepted_with (total (λ d. d.grams) o.doses) seconds first)

-- ---- the figures: "Planned totals are over accepted orders only."

-- 1 for an order that is accepted
abbrev pub if_accepted : Outcome → ℕ
if_accepted (accepted_with grams seconds first) = 1
if_accepted (refused_by number) = 0

-- 1 for an order that is refused by number n
abbrev pub if_refused : ℕ → Outcome → ℕ
if_refused n (accepted_with grams seconds first) = 0
if_refused n (refused_by number) = on (eqb n number) 1

abbrev pub grams_of : Outcome → ℕ
grams_of (accepted_with grams seconds first) = grams
grams_of (refused_by number) = 0

abbrev pub seconds_of : Outcome → ℕ
seconds_of (accepted_with grams seconds first) = seconds
seconds_of (refused_by number) = 0

abbrev pub first_of : Outcome → Rate
first_of (accepted_with grams seconds first) = first
first_of (refused_by number) = no_rate

-- the greatest of a rate and the first classes behind it
unfoldable pub greatest_from : Rate → List Outcome → Rate
greatest_from r [] = r
greatest_from r (x ∷ later) = greatest_from (greater r (first_of x)) later

-- "Report orders accepted, orders refused by number, grams accepted, fan_seconds .. and the greatest first_class W and P"
pub record Season : Type 0 where
  pub accepted : ℕ
  pub refused : List ℕ
  pub grams : ℕ
  pub seconds : ℕ
  pub greatest : Rate

-- of these outcomes; the count of number n stands at n
unfoldable pub season_of : List Outcome → Season
season_of outcomes = record {
  accepted = total if_accepted outcomes;
  refused = gather order_numbers (λ n. total (if_refused n) outcomes ∷ []);
  grams = total grams_of outcomes;
  seconds = total seconds_of outcomes;
  greatest = greatest_from no_rate outcomes;
}

-- ---- what comes back

pub record AddedUp : Type 0 where
  pub answer : Answer
  pub season : Season

-- no figures come with a refusal: "Fields not meant are 0"
abbrev pub not_added_up : Answer → AddedUp
not_added_up a = record {
  answer = a;
  season = record { accepted = 0; refused = replicate order_numbers 0; grams = 0; seconds = 0; greatest = record { weight = 0; time = 0 } };
}

-- adding up a stream: 16, or what its orders come to, one after the other
pub data AddsUp (stream : List ℕ) : AddedUp → Type 0 where
  refuses : (number place : ℕ) → read_stream stream ≡ refused number place → AddsUp stream (not_added_up (refusal number place))
  adds_up : (orders : List (List ℕ)) → read_stream stream ≡ read orders → (outcomes : List Outcome) → Along Comes orders outcomes
      → AddsUp stream (record { answer = done; season = season_of outcomes })
