-- How the structs of `season` hold what document 02 speaks of, and how large their numbers are.
use Rattle.std.specs.Prelude.{◌≡◌, true, Err, List, Ok, Result, ℕ, ◌*◌, ◌/◌, ◌<◌, ◌≤◌, T, length, get_or}
use Rattle.model.specs.Limits.{most_doses, most_weight, order_numbers}
use Rattle.model.specs.Sets.{Doses}
use Rattle.model.specs.Records.{record_size}
use Rattle.model.specs.Lists.{Along, total}
use Rattle.model.specs.Orders.{Order}
use Rattle.model.specs.Answers.{FirstClass, above_top, done, refusal}
use Rattle.model.specs.Stands.{Stands}
use Rattle.model.specs.Season.{Comes, FirstRate, Takes, begins, not_added_up, orders_from, season_of}
use Rattle.model.specs.Season as season
use Rattle.order.specs.Held as order
use Rattle.season.specs.declared.outcome.Rate.{Rate}
use Rattle.season.specs.declared.outcome.Accepted.{Accepted}
use Rattle.season.specs.declared.outcome.Refused.{Refused}
use Rattle.season.specs.declared.outcome.Refused.TheVariants as is
use Rattle.season.specs.declared.figures.Season.{Season}
use Rattle.season.specs.declared.NoStream.{NoStream}

abbrev pub as_rate : Rate → season.Rate
as_rate r = record { weight = r.weight; time = r.time }

-- the number of a refusal
abbrev pub number_of : Refused → ℕ
number_of (is.Order r) = order.number_of r
number_of is.TooFast = 9

unfoldable pub as_outcome : Result Accepted Refused → season.Outcome
as_outcome (Ok a) = season.accepted_with a.grams a.seconds (as_rate a.first)
as_outcome (Err r) = season.refused_by (number_of r)

abbrev pub as_season : Season → season.Season
as_season s = record { accepted = s.accepted; refused = s.refused; grams = s.grams; seconds = s.seconds; greatest = as_rate s.greatest }

-- 16, or the figures: "Fields not meant are 0"
abbrev pub as_added_up : Result Season NoStream → season.AddedUp
as_added_up (Ok s) = record { answer = done; season = as_season s }
as_added_up (Err e) = not_added_up (refusal 16 0)

-- ---- one order

-- 24 classes have no more grams together, and take no more seconds
abbrev pub most_of_order : ℕ
most_of_order = most_doses * most_weight

-- the numbers of an outcome are those of an order
unfoldable pub OutcomeFits : Result Accepted Refused → Type 0
OutcomeFits (Ok a) = (a.grams ≤ most_of_order) × (a.seconds ≤ most_of_order)
OutcomeFits (Err r) = number_of r < order_numbers

-- an order that was read comes to this: 9, or its figures
pub data OrderComes (o : Order) : season.Outcome → Type 0 where
  above : (A : Doses) → FirstClass o A → T (above_top o A) → OrderComes o (season.refused_by 9)
  below : ((A : Doses) → FirstClass o A → T (above_top o A) → ⊥) → (plan : List ℕ) → Stands o plan → (seconds : ℕ) → Takes plan seconds
      → (first : season.Rate) → FirstRate o first → OrderComes o (season.accepted_with (total (λ d. d.grams) o.doses) seconds first)

-- ---- the stream

-- the first record, if there is one, is an F
abbrev pub OpensWithFans : List ℕ → Type 0
OpensWithFans stream = 0 < length stream / record_size → begins stream 0 ≡ true

-- these are the figures of the stream's orders
pub record SeasonIn (stream : List ℕ) (s : Season) : Type 0 where
  pub outcomes : List season.Outcome
  pub each : Along Comes (orders_from stream 0 (length stream / record_size)) outcomes
  pub figures : as_season s ≡ season_of outcomes

-- the figures are those of at most k orders
pub record SeasonFits (k : ℕ) (s : Season) : Type 0 where
  pub long : length s.refused ≡ order_numbers
  pub few_accepted : s.accepted ≤ k
  pub few_refused : (n : ℕ) → get_or s.refused n 0 ≤ k
  pub grams_most : s.grams ≤ k * most_of_order
  pub seconds_most : s.seconds ≤ k * most_of_order
