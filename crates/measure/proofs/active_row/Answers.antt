-- `active_row` meets its contract: every interval has the number of active doses of the set so far.
use mathlib.Core.Bool.{true, false}
use mathlib.Core.Path.{◌≡◌, refl, sym, ◌∙◌}
use Prim.Native.Nat.{ℕ}
use native.Mathlib.Omega.{arith}
use Rattle.model.specs.Limits.{most_intervals}
use Rattle.model.specs.Sets.{on}
use Rattle.model.proofs.Sets.{on_below}
use Rattle.interval.specs.Held.{active_in}
use Rattle.measure.specs.Arrays.{set_of}
use Rattle.steps.proofs.Arrays.{all_same}
use Rattle.steps.proofs.Loops.{weight_more, weight_none}
use Rattle.measure.proofs.active_row.Goals as goal
use Rattle.measure.proofs.active_row.Goals.{then-set-k, else-set-k}

pub loop-k-init : goal.loop-k-init
loop-k-init c = record { active = λ j l. all_same {A = ℕ} most_intervals j 0 ∙ weight_none _ _; few = λ j l. omega (arith, all_same {A = ℕ} most_intervals j 0) }

pub count_dose-requires : goal.count_dose-requires
count_dose-requires c = (omega arith, c.requires.1, λ j l. omega (arith, c.loop-k.invariant.few j l))

-- a dose of the set counts where it is active, and one outside it nowhere
pub loop-k-preserved : goal.loop-k-preserved
loop-k-preserved c =
    let A = c.args in
    let L = c.loop-k in
    let so = L.invariant in
    elim c.if-set-k.branch [
      | then-set-k w ↦
          let more = w.count_dose.ensures in
          let inside : true ≡ set_of A.set.now L.k = sym w.if-set-k.true in
          rw w.counts-is (record {
            active = λ j l. more j l ∙ weight_more (λ i. on (active_in A.o.now A.s.now i j) 1) (set_of A.set.now) L.k _ _ _ true (so.active j l) refl inside refl;
            few = λ j l. omega (arith, more j l, so.few j l, on_below (active_in A.o.now A.s.now L.k j) 1);
          })
      | else-set-k w ↦
          let outside : false ≡ set_of A.set.now L.k = sym w.if-set-k.false in
          rw w.counts-is (record {
            active = λ j l. omega (arith, so.active j l, weight_more (λ i. on (active_in A.o.now A.s.now i j) 1) (set_of A.set.now) L.k _ 0 _ false (so.active j l) refl outside refl);
            few = λ j l. omega (arith, so.few j l);
          })
    ]
