-- `reserve` meets its contract: one row is replaced, by the fans as small counts.
use mathlib.Core.Path.{◌∙◌}
use native.Mathlib.Omega.{arith}
use lib.ListN.{length-set}
use borrow.Author.Rules.{rules}
use Rattle.measure.proofs.Made.{one_same, made}
use Rattle.classes.proofs.Rows.{row_same, row_other}
use Rattle.classes.proofs.table.reserve.Goals as goal

pub returns : goal.returns
returns c =
    let A = c.args in
    let row = c.from_fn in
    record {
      tall = simp length-set c.told-table;
      own = λ j l. let z = (made _ (λ f i y f' h. one_same h.met.1) _ _ _ row.ensures.items j 0 l).met in row_same A.table.now A.class row.result (omega (arith, c.told-table, c.requires.0)) j ∙ search rules;
      others = λ l j d. row_other A.table.now A.class row.result l j d;
    }
