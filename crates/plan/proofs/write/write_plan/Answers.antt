-- `write_plan` meets its contract: the C records, the S records behind them, and the rest of the buffer as before (Writing).
use mathlib.Core.Path.{refl, sym, ◌∙◌}
use borrow.Author.Rules.{rules}
use native.Mathlib.Omega.{arith}
use Rattle.model.proofs.Lists.{length_singles}
use Rattle.plan_layout.proofs.Runs.{wrote_length}
use Rattle.plan.specs.Held.{class_from}
use Rattle.plan.proofs.Writing.{classes_next, plan_written}
use Rattle.plan.proofs.write.write_plan.Goals as goal

pub put_classes-requires : goal.put_classes-requires
put_classes-requires c =
    let filled = c.args.x.now.filled in
    (filled.doses, filled.classes, omega (arith, c.requires))

pub lay_all-requires : goal.lay_all-requires
lay_all-requires c =
    let grown = c.put_classes.ensures in
    omega (arith, c.requires, classes_next _ grown, wrote_length grown.wrote)

pub overflow_sub-result : goal.overflow_sub-result
overflow_sub-result c = omega (arith, classes_next _ c.put_classes.ensures, c.lay_all.ensures.wrote.next)

pub returns : goal.returns
returns c =
    let t = c.args.x.now.tables.now in
    let classes = c.put_classes.ensures in
    let slots = c.lay_all.ensures in record {
      slots = omega (arith, classes_next _ classes, slots.wrote.next);
      bytes = plan_written classes slots refl (omega (arith, c.requires, length_singles t.classes (class_from t))) (search (rules, sym (slots.same_reference ∙ classes.same_reference)));
    }
