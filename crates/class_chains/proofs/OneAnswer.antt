-- Two answers of `take` are equal: the cell that it writes is settled, and so are the others. Which chain `from_dose` pushes is left open
-- (docs/PROMISES.md, "The one exception"). Assumes nothing.
use mathlib.Core.List.{List}
use mathlib.Core.Path.{◌≡◌, sym, ◌∙◌}
use Prim.Native.Nat.{ℕ, ◌+◌, ◌*◌, ◌/◌, ◌%◌, ◌<◌}
use native.Mathlib.Omega.{arith}
use lib.ListN.{length}
use Rattle.model.specs.Limits.{cells, most_intervals}
use Rattle.steps.proofs.Tests.{alike}
use Rattle.steps.proofs.Arrays.{places_one}
use Rattle.class_chains.specs.Chains.{cell, Written}

module _ {d j v : ℕ} {x y z : List ℕ} (a : Written d j v x y) (b : Written d j v x z) where
  cell_one : (k i : ℕ) → i < most_intervals → cell y k i ≡ cell z k i
  cell_one k i h =
      alike k d
      (λ e. alike i j (λ f. rw (e, f) (a.own ∙ sym b.own)) (λ f. a.intervals k i h f ∙ sym (b.intervals k i h f)))
      (λ e. a.doses k i h e ∙ sym (b.doses k i h e))

  pub take_one : length y ≡ cells → length z ≡ cells → y ≡ z
  take_one p q =
      places_one 0 cells p q
      (λ i h.
      let e : i / most_intervals * most_intervals + i % most_intervals ≡ i = omega arith in
      rw e at (cell_one (i / most_intervals) (i % most_intervals) (omega arith)))
