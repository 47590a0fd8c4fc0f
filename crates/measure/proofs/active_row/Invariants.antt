use mathlib.Core.Bool.{Bool}
use mathlib.Core.List.{List}
use mathlib.Core.Path.{◌≡◌}
use Prim.Native.Nat.{ℕ, ◌<◌, ◌≤◌}
use lib.ListN.{get_or}
use Rattle.model.specs.Sets.{on, weight}
use Rattle.order.specs.declared.Order.{Order}
use Rattle.interval.specs.declared.Instants.{Instants}
use Rattle.interval.specs.Held.{active_in}
use Rattle.measure.specs.Arrays.{intervals_of, set_of}
use Rattle.measure.proofs.active_row.Given as goal

-- the first k doses are counted
pub record CountedTo (o : Order) (s : Instants) (set : List Bool) (k : ℕ) (counts : List ℕ) : Type 0 where
  pub active : (j : ℕ) → j < intervals_of s → get_or counts j 0 ≡ weight k (λ i. on (active_in o s i j) 1) (set_of set)
  pub few : (j : ℕ) → j < intervals_of s → get_or counts j 0 ≤ k

abbrev pub invariant-loop-k : goal.invariant-loop-k
invariant-loop-k l = CountedTo l.o l.s l.set l.k l.counts
