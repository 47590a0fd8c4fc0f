-- `classes_fit` meets its contract: every class passed fits, and the row has the fans that the classes passed leave (Fitting).
use mathlib.Core.Path.{◌∙◌}
use native.Mathlib.Omega.{arith}
use borrow.Author.Count.{below_more}
use lib.ListN.{get_or-replicate}
use Rattle.model.specs.Limits.{most_intervals}
use Rattle.measure.proofs.Free.{frees_all}
use Rattle.judge_clauses.proofs.Tell.{tells_not, tells_off, tells_was}
use Rattle.judge_rates.proofs.Fitting.{frees_after, says_fits, worked_out}
use Rattle.judge_rates.proofs.classes_fit.Goals as goal

pub loop-i-init : goal.loop-i-init
loop-i-init c = record {
  left = frees_all _ _ _ _ (λ j l. get_or-replicate most_intervals j c.from-free.result 0 (omega arith) ∙ c.from-free.ensures);
  fit = λ k l. absurd (omega arith);
}

pub returns-then-not-says : goal.returns-then-not-says
returns-then-not-says c =
    let A = c.args in
    let out = worked_out A.o.now A.instants.now A.certificate.now.numbers c.requires.2 c.requires.3 c.loop-i.invariant.left c.set_of-set.ensures
    c.open_fans-reserved.ensures c.size_of-size.ensures.0 c.weight_of-weight.ensures c.fan_time-time.ensures in
    tells_off (λ all. tells_not (says_fits out _ c.says.ensures) c.if-not-says.true (rw c.class_at-c.ensures (all c.loop-i.i (omega arith))))

pub loop-i-preserved : goal.loop-i-preserved
loop-i-preserved c =
    let A = c.args in
    let out = worked_out A.o.now A.instants.now A.certificate.now.numbers c.requires.2 c.requires.3 c.loop-i.invariant.left c.set_of-set.ensures
    c.open_fans-reserved.ensures c.size_of-size.ensures.0 c.weight_of-weight.ensures c.fan_time-time.ensures in
    record {
      left = frees_after out _ c.free_after-free.ensures;
      fit = below_more _ _ c.loop-i.invariant.fit (rw c.class_at-c.ensures at (tells_was (says_fits out _ c.says.ensures) c.if-not-says.false));
    }
