-- What one stretch adds to the three figures, what a counter's pulses are, and that figures of parts add up: for any line. Assumes nothing.
use mathlib.Core.Path.{◌≡◌, refl, ap}
use mathlib.Core.List.{List, [], ◌∷◌, ◌++◌}
use mathlib.Core.Logic.{◌↔◌, ◌≢◌}
use Prim.Native.Nat.{ℕ, ◌+◌, ◌*◌, ◌%◌, ◌<◌}
use native.Mathlib.Nat.{add-zero}
use native.Mathlib.Omega.{arith}
use lib.Ieee.{Float}
use lib.ListN.{length}
use Rattle.model.specs.Limits.{counter_turn, gram_parts}
use Rattle.model.specs.Lists.{total}
use Rattle.model.specs.Log.{Logged, MeterReading, Stretch, counter, figures, figures_of, flow, if_known, if_metered, if_unknown, known, metering, metering_of, missing, no_figures, pulses, rise, seconds, stretches, stretches_from, unknown}
use Rattle.model.proofs.Figures.{AddUp}
use Rattle.model.proofs.Lists.{total_append}

-- ---- known stretches

-- two readings of one form, neither missing
pub data SameForm : MeterReading → MeterReading → Type 0 where
  counters : (x y : ℕ) → SameForm (counter x) (counter y)
  flows : (x y : Float) → SameForm (flow x) (flow y)

same_form : (a b : MeterReading) (h : ℕ) → metering_of a b h ≢ unknown → SameForm a b
unfolding metering_of
same_form missing b h n = absurd (n refl)
same_form (counter x) missing h n = absurd (n refl)
same_form (counter x) (counter y) h n = counters x y
same_form (counter x) (flow y) h n = absurd (n refl)
same_form (flow x) missing h n = absurd (n refl)
same_form (flow x) (counter y) h n = absurd (n refl)
same_form (flow x) (flow y) h n = flows x y

then_known : {a b : MeterReading} (h : ℕ) → SameForm a b → metering_of a b h ≢ unknown
unfolding metering_of
then_known h (counters x y) e = let z : ◌≡◌ {A = ℕ} 0 1 = cc in omega arith
then_known h (flows x y) e = let z : ◌≡◌ {A = ℕ} 0 1 = cc in omega arith

-- "A stretch .. is known only if both have the same form and neither is missing", and then it is
pub known_exactly : (s : Stretch) → (metering s ≢ unknown) ↔ SameForm s.from.reading s.to.reading
known_exactly s = (same_form s.from.reading s.to.reading (seconds s), then_known (seconds s))

-- ---- a counter

-- "the counter runs from 4,294,967,295 on to 0": the pulses are the one number below a turn that leads from the one value to the other
pub pulses_lead : (x y n : ℕ) → x < counter_turn → n < counter_turn → (x + n) % counter_turn ≡ y → pulses x y ≡ n
pulses_lead x y n hx hn e = omega arith

-- and they lead there
pub lead_there : (x y : ℕ) → x < counter_turn → y < counter_turn → ((x + pulses x y) % counter_turn ≡ y) × (pulses x y < counter_turn)
lead_there x y hx hy = (omega arith, omega arith)

-- "One pulse is one gram": a counter that ran n pulses, over its turn or not, metered n grams
pub counter_ran : (x y n h : ℕ) → x < counter_turn → n < counter_turn → (x + n) % counter_turn ≡ y → metering_of (counter x) (counter y) h ≡ known (gram_parts * n)
unfolding metering_of
counter_ran x y n h hx hn e = ap (λ (p : ℕ). known (gram_parts * p)) (pulses_lead x y n hx hn e)

-- a counter that stands still metered nothing
pub counter_still : (x h : ℕ) → metering_of (counter x) (counter x) h ≡ known 0
unfolding metering_of
counter_still x h = let none : pulses x x ≡ 0 = omega arith in ap (λ (p : ℕ). known (gram_parts * p)) none

-- ---- what one stretch adds

module _ (line : ℕ → ℕ) where
  -- two lists of stretches
  pub parts_add_up : (ss rest : List Stretch) → AddUp (figures_of line ss) (figures_of line rest) (figures_of line (ss ++ rest))
  unfolding figures_of
  parts_add_up ss rest = record {
    metered = total_append _ ss rest;
    risen = omega (arith, total_append (λ s. if_known (metering s) (rise line s)) ss rest);
    unknown = total_append _ ss rest;
  }

  inserted : (g : Stretch → ℕ) (front back : List Stretch) (s : Stretch) → total g (front ++ s ∷ back) ≡ total g (front ++ back) + total g (s ∷ [])
  unfolding total
  inserted g front back s = omega (arith, total_append g front (s ∷ back), total_append g front back)

  -- one stretch anywhere among others adds its own figures
  pub stretch_adds : (front back : List Stretch) (s : Stretch)
      → AddUp (figures_of line (front ++ back)) (figures_of line (s ∷ [])) (figures_of line (front ++ s ∷ back))
  unfolding figures_of
  stretch_adds front back s = record {
    metered = inserted _ front back s;
    risen = omega (arith, inserted (λ s. if_known (metering s) (rise line s)) front back s);
    unknown = inserted _ front back s;
  }

  -- "No figure is made for an unknown stretch": it adds to neither metered nor risen, and its seconds to the unknown ones
  pub unknown_adds : (s : Stretch) → metering s ≡ unknown → figures_of line (s ∷ []) ≡ record { metered = 0; risen = 0; unknown = seconds s }
  unfolding figures_of total if_metered if_known if_unknown
  unknown_adds s e = rw e (simp add-zero)

  -- a known one adds what was metered and what the line rose by, and no second to the unknown ones
  pub known_adds : (s : Stretch) (n : ℕ) → metering s ≡ known n
      → figures_of line (s ∷ []) ≡ record { metered = n; risen = gram_parts * rise line s; unknown = 0 }
  unfolding figures_of total if_metered if_known if_unknown
  known_adds s n e = rw e (simp add-zero)

  -- ---- logs

  stretches_join : (l : Logged) (log : List Logged) (m : Logged) (later : List Logged)
      → stretches_from l (log ++ m ∷ later) ≡ stretches_from l (log ++ m ∷ []) ++ stretches_from m later
  unfolding stretches_from
  stretches_join l [] m later = refl
  stretches_join l (n ∷ log) m later = ap (λ (ss : List Stretch). record { from = l; to = n } ∷ ss) (stretches_join n log m later)

  log_joins : (log : List Logged) (m : Logged) (later : List Logged)
      → stretches (log ++ m ∷ later) ≡ stretches (log ++ m ∷ []) ++ stretches (m ∷ later)
  unfolding stretches stretches_from
  log_joins [] m later = refl
  log_joins (l ∷ log) m later = stretches_join l log m later

  -- a log that goes on from the last record of another: their figures add up to those of the whole
  pub logs_add_up : (log : List Logged) (m : Logged) (later : List Logged)
      → AddUp (figures line (log ++ m ∷ [])) (figures line (m ∷ later)) (figures line (log ++ m ∷ later))
  logs_add_up log m later = rw (log_joins log m later) (parts_add_up (stretches (log ++ m ∷ [])) (stretches (m ∷ later)))

  -- "under two records, all are zero"
  pub under_two_zero : (log : List Logged) → length log < 2 → figures line log ≡ no_figures
  unfolding figures_of stretches stretches_from total
  under_two_zero [] h = refl
  under_two_zero (m ∷ []) h = refl
  under_two_zero (m ∷ n ∷ later) h = absurd (omega arith)
