use mathlib.Core.List.{List}
use mathlib.Core.Path.{◌≡◌}
use Prim.Native.Nat.{ℕ, ◌+◌, ◌<◌, ◌≤◌}
use lib.ListN.{length, get_or}
use Rattle.model.specs.Limits.{most_intervals}
use Rattle.model.specs.Sets.{on}
use Rattle.order.specs.declared.Order.{Order}
use Rattle.interval.specs.declared.Instants.{Instants}
use Rattle.interval.specs.Held.{active_in}
use Rattle.measure.proofs.count_dose.Given as goal

-- the count of interval m with the dose
abbrev pub counted : List ℕ → Order → Instants → ℕ → ℕ → ℕ
counted before o s k m = get_or before m 0 + on (active_in o s k m) 1

-- up to interval j the dose is counted
pub record CountedTo (before : List ℕ) (o : Order) (s : Instants) (k : ℕ) (counts : List ℕ) (j : ℕ) : Type 0 where
  pub size : length counts ≡ most_intervals
  pub passed : (m : ℕ) → m < j → get_or counts m 0 ≡ counted before o s k m
  pub ahead : (m : ℕ) → j ≤ m → get_or counts m 0 ≡ get_or before m 0

abbrev pub invariant-loop-j : goal.invariant-loop-j
invariant-loop-j l = CountedTo l.initial.counts l.o l.s l.k l.counts l.j
