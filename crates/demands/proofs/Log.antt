-- A log beside the plan (document 02, C-11), sentence by sentence: for every plan that stands and every log that is read.
pub mod Stretches
pub mod Metered
pub mod Given
pub mod Flow
pub mod Joined
pub mod Cases
pub mod OfAnswers
use mathlib.Core.Path.{◌∙◌, ◌≡◌, ap}
use mathlib.Core.List.{List}
use Prim.Native.Nat.{ℕ, ◌+◌, ◌*◌, ◌-◌, ◌≤◌, ◌<◌}
use native.Mathlib.Omega.{arith}
use Rattle.model.specs.Limits.{gram_parts}
use Rattle.model.specs.Lists.{total}
use Rattle.model.specs.Records.{read}
use Rattle.model.specs.Orders.{Order, dose_at, read_order}
use Rattle.model.specs.Intervals.{setting_of}
use Rattle.model.specs.Stands.{Stands}
use Rattle.model.specs.Log.{Figures, Logged, figures, figures_of, if_known, if_unknown, metering, read_log, rise, seconds, stretches}
use Rattle.model.specs.Answers.{line_of}
use Rattle.demands.proofs.Log.Stretches.{AllKnown, NeverFalls, first_tick, last_tick, none_unknown, rises_together}
use Rattle.demands.proofs.Log.Stretches as stretches-of
use Rattle.demands.proofs.Log.Given.{ReadAs, log_read_exactly}
use Rattle.demands.proofs.Demand3.{all_from_the_deadline, never_falls, zero_up_to_the_start}

module _ (last : ℕ) (order : List ℕ) (o : Order) (e : read_order last order ≡ read o) (plan : List ℕ) (st : Stands o plan) (d : ℕ) (dn : d < (setting_of o).doses) where
  -- the line never falls, and never goes above the dose's grams
  up : NeverFalls (line_of plan d)
  up = never_falls last order o e plan st d dn

  at_most : (t : ℕ) → line_of plan d t ≤ (dose_at o d).grams
  at_most t =
      omega (arith, up t (dose_at o d).deadline, all_from_the_deadline last order o e plan st d dn (t + (dose_at o d).deadline) (omega arith))

  module _ (log : List ℕ) (records : List Logged) (r : read_log (dose_at o d).bay log ≡ read records) where
    is_read : ReadAs (dose_at o d).bay log records
    is_read = (log_read_exactly (dose_at o d).bay log records).0 r

    abbrev told : Figures
    told = figures (line_of plan d) records

    -- no difference below is cut off at 0
    pub first_before_last : (first_tick records ≤ last_tick records) × (line_of plan d (first_tick records) ≤ line_of plan d (last_tick records))
    first_before_last =
        let h = stretches-of.first_before_last records is_read.rising in
        let there : first_tick records + (last_tick records - first_tick records) ≡ last_tick records = omega arith in
        (h, rw there at (up (first_tick records) (last_tick records - first_tick records)))

    -- the seconds of the known stretches and "the seconds unknown" are all from the first record's tick to the last one's
    pub seconds_add_up : total (λ s. if_known (metering s) (seconds s)) (stretches records) + told.unknown ≡ last_tick records - first_tick records
    unfolding figures_of
    seconds_add_up = rises_together (λ t. t) (λ t h. omega arith) records is_read.rising

    pub unknown_within : told.unknown ≤ last_tick records - first_tick records
    unknown_within = omega (arith, seconds_add_up)

    -- what the line rises by in known and in unknown stretches
    together : total (λ s. if_known (metering s) (rise (line_of plan d) s)) (stretches records) + total (λ s. if_unknown (metering s) (rise (line_of plan d) s)) (stretches records)
        ≡ line_of plan d (last_tick records) - line_of plan d (first_tick records)
    together = rises_together (line_of plan d) up records is_read.rising

    -- "what the line rose by in the same stretches": where every stretch is known, what it rose by from the first record to the last
    pub all_known_rise : AllKnown (stretches records)
        → (told.risen ≡ gram_parts * (line_of plan d (last_tick records) - line_of plan d (first_tick records))) × (told.unknown ≡ 0)
    unfolding figures_of
    all_known_rise k =
        let no_rise = none_unknown (rise (line_of plan d)) (stretches records) k in
        (ap (λ (n : ℕ). gram_parts * n) (omega (arith, together, no_rise)), none_unknown seconds (stretches records) k)

    -- and all the grams, where they reach from the release or before to the deadline or behind
    pub whole_window_rise : AllKnown (stretches records) → first_tick records ≤ (dose_at o d).release → (dose_at o d).deadline ≤ last_tick records
        → told.risen ≡ gram_parts * (dose_at o d).grams
    whole_window_rise k early late =
        let none_yet = zero_up_to_the_start last order o e plan st d dn (first_tick records) early in
        let all_by_then = all_from_the_deadline last order o e plan st d dn (last_tick records) late in
        (all_known_rise k).0 ∙ rw (none_yet, all_by_then) (omega arith)

    -- never more than the dose's grams
    pub risen_at_most_the_grams : told.risen ≤ gram_parts * (dose_at o d).grams
    unfolding figures_of
    risen_at_most_the_grams = omega (arith, together, at_most (last_tick records))
