-- The log's theorems over the answers themselves: for all orders, plans, doses and logs for which laying the log answers 0. Assumes nothing.
use mathlib.Core.Path.{◌≡◌, refl, ap, ◌∙◌}
use mathlib.Core.Logic.{inl, inr}
use mathlib.Core.List.{List, [], ◌∷◌, ◌++◌}
use Prim.Native.Nat.{ℕ, ◌+◌, ◌*◌, ◌-◌, ◌≤◌, ◌<◌}
use native.Mathlib.Omega.{arith}
use lib.ListN.{length}
use Rattle.model.specs.Limits.{gram_parts, log_room, most_bay}
use Rattle.model.specs.Lists.{total}
use Rattle.model.specs.Records.{read}
use Rattle.model.specs.Orders.{Order, dose_at, read_order}
use Rattle.model.specs.Intervals.{setting_of}
use Rattle.model.specs.Stands.{Stands}
use Rattle.model.specs.Log.{Figures, Logged, Stretch, counter, figures, figures_of, if_known, metering, no_figures, read_log, rise, seconds, stretches, unknown}
use Rattle.model.specs.Answers.{Accepts, Drawn, Laid, Lays, laid_by, line_of}
use Rattle.model.proofs.Answers.{lays_one, one_order}
use Rattle.model.proofs.Figures.{AddUp}
use Rattle.demands.proofs.Demand3.OfAnswers.{Answers, amount_is}
use Rattle.demands.proofs.Log.Stretches.{AllKnown, first_tick, last_tick}
use Rattle.demands.proofs.Log.Given.{laid_either, log_number}
use Rattle.demands.proofs.Log.Metered as metered
use Rattle.demands.proofs.Log.Joined.{Continues, joined, joined_add_up}
use Rattle.demands.proofs.Log as laid

-- an answer that is no refusal: the order is accepted, the plan stands, the log is read, and the figures are its own
pub record LogLaid (order plan : List ℕ) (d : ℕ) (log : List ℕ) (x : Laid) : Type 0 where
  pub read_order : Order
  pub accepts : Accepts most_bay order read_order
  pub stands : Stands read_order plan
  pub listed : d < (setting_of read_order).doses
  pub records : List Logged
  pub reads : read_log (dose_at read_order d).bay log ≡ read records
  pub is : x.figures ≡ figures (line_of plan d) records

-- laying answered 0
pub laid_done : {order plan : List ℕ} {d : ℕ} {log : List ℕ} {x : Laid} → Lays order plan d log x → x.answer.number ≡ 0 → LogLaid order plan d log x
laid_done (Lays.refuses a j n) = λ e. absurd (n e)
laid_done (Lays.no_such_dose o acc st l) = λ e. absurd (omega arith)
laid_done {order} {plan} {d} {log} (Lays.lays o acc st l) =
    laid_either (λ x. x.answer.number ≡ 0 → LogLaid order plan d log x) (line_of plan d) (read_log (dose_at o d).bay log)
    (λ number place q e. elim (log_number (dose_at o d).bay log number place q) [ inl n ↦ absurd (omega arith) | inr n ↦ absurd (omega arith) ])
    (λ records q e. record { read_order = o; accepts = acc; stands = st; listed = l; records = records; reads = q; is = refl })

module _ (order plan : List ℕ) (d : ℕ) (log : List ℕ) (x : Laid) (h : Lays order plan d log x) (z : x.answer.number ≡ 0)
    (o : Order) (e : read_order most_bay order ≡ read o) (records : List Logged) (r : read_log (dose_at o d).bay log ≡ read records) where
  done : LogLaid order plan d log x
  done = laid_done h z

  same_order : done.read_order ≡ o
  same_order = let f = done.accepts.reads in cc

  same_records : done.records ≡ records
  same_records = let f = rw same_order at done.reads in cc

  stands : Stands o plan
  stands = rw same_order at done.stands

  -- the dose is one of the order's
  pub listed : d < (setting_of o).doses
  listed = rw same_order at done.listed

  -- the figures are those of the log's records beside the dose's line
  pub figures_are : x.figures ≡ figures (line_of plan d) records
  figures_are = done.is ∙ ap (figures (line_of plan d)) same_records

  -- the seconds of the known stretches and "the seconds unknown" are all from the first record's tick to the last one's
  pub seconds_add_up : total (λ s. if_known (metering s) (seconds s)) (stretches records) + x.figures.unknown ≡ last_tick records - first_tick records
  seconds_add_up = rw figures_are (laid.seconds_add_up most_bay order o e plan stands d listed log records r)

  pub unknown_within : x.figures.unknown ≤ last_tick records - first_tick records
  unknown_within = omega (arith, seconds_add_up)

  -- "what the line rose by in the same stretches": where every stretch is known, what drawing answers at the last record's tick less at the first one's
  pub all_known_rise : AllKnown (stretches records) → (y y' : Drawn) → Answers order plan d (first_tick records) y → Answers order plan d (last_tick records) y'
      → (x.figures.risen ≡ gram_parts * (y'.point.amount - y.point.amount)) × (x.figures.unknown ≡ 0)
  all_known_rise k y y' a b =
      rw (figures_are, amount_is order plan d (first_tick records) y a, amount_is order plan d (last_tick records) y' b)
      (laid.all_known_rise most_bay order o e plan stands d listed log records r k)

  -- and all the grams, where they reach from the release or before to the deadline or behind
  pub whole_window_rise : AllKnown (stretches records) → first_tick records ≤ (dose_at o d).release → (dose_at o d).deadline ≤ last_tick records
      → x.figures.risen ≡ gram_parts * (dose_at o d).grams
  whole_window_rise k early late = rw figures_are (laid.whole_window_rise most_bay order o e plan stands d listed log records r k early late)

  -- never more than the dose's grams
  pub risen_at_most_the_grams : x.figures.risen ≤ gram_parts * (dose_at o d).grams
  risen_at_most_the_grams = rw figures_are (laid.risen_at_most_the_grams most_bay order o e plan stands d listed log records r)

  -- what one stretch of the log adds to the figures of the others
  stretch_adds : (front back : List Stretch) (s : Stretch) → stretches records ≡ front ++ s ∷ back → (own : Figures) → figures_of (line_of plan d) (s ∷ []) ≡ own
      → AddUp (figures_of (line_of plan d) (front ++ back)) own x.figures
  stretch_adds front back s p own q = rw (figures_are, p) (rw q at (metered.stretch_adds (line_of plan d) front back s))

  -- "No figure is made for an unknown stretch": it adds to neither metered nor risen, and its seconds to the unknown ones
  pub unknown_adds : (front back : List Stretch) (s : Stretch) → stretches records ≡ front ++ s ∷ back → metering s ≡ unknown
      → AddUp (figures_of (line_of plan d) (front ++ back)) (record { metered = 0; risen = 0; unknown = seconds s }) x.figures
  unknown_adds front back s p u = stretch_adds front back s p _ (metered.unknown_adds (line_of plan d) s u)

  -- a counter that stands still adds nothing to what was metered
  pub counter_still_adds : (front back : List Stretch) (s : Stretch) → stretches records ≡ front ++ s ∷ back → (n : ℕ)
      → s.from.reading ≡ counter n → s.to.reading ≡ counter n
      → AddUp (figures_of (line_of plan d) (front ++ back)) (record { metered = 0; risen = gram_parts * rise (line_of plan d) s; unknown = 0 }) x.figures
  counter_still_adds front back s p n a b =
      stretch_adds front back s p _ (metered.known_adds (line_of plan d) s 0 (rw (a, b) (metered.counter_still n (seconds s))))

  -- "under two records, all are zero"
  pub under_two_zero : length records < 2 → x.figures ≡ no_figures
  under_two_zero l = figures_are ∙ metered.under_two_zero (line_of plan d) records l

-- two logs that are answered 0, the second from the first's last record on: unless they are too long together, so is the joined log, and its figures are
-- theirs added up
pub continued_adds_up : (order plan : List ℕ) (d : ℕ) (log log' : List ℕ) → Continues log log' → length (joined log log') ≤ log_room → (x y z : Laid)
    → Lays order plan d log x → Lays order plan d log' y → Lays order plan d (joined log log') z → x.answer.number ≡ 0 → y.answer.number ≡ 0
    → (z.answer.number ≡ 0) × AddUp x.figures y.figures z.figures
unfolding laid_by
continued_adds_up order plan d log log' c short x y z hx hy hz ex ey =
    let a = laid_done hx ex in
    let b = laid_done hy ey in
    let o = a.read_order in
    let j = joined_add_up (line_of plan d) (dose_at o d).bay log log' c short a.records b.records a.reads (rw (one_order b.accepts a.accepts) at b.reads) in
    let same = rw j.1 at (lays_one hz (Lays.lays o a.accepts a.stands a.listed)) in
    (ap (λ (l : Laid). l.answer.number) same, rw (a.is, b.is, same) j.2)
