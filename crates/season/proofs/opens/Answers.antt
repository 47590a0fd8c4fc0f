-- `opens` meets its contract: there is a record, whose kind tells.
use Rattle.std.proofs.Common.{length, rules}
use borrow.Author.Tests.{ne_eqb}
use Rattle.records.proofs.Told.{fans_told, tells_kind}
use Rattle.records.specs.declared.kind.Kind.TheVariants.{Fans}
use Rattle.season.proofs.opens.Goals as goal

pub returns-else-is_empty : goal.returns-else-is_empty
returns-else-is_empty c =
    rw (ne_eqb (length c.args.stream.now) 0 (λ e. search rules)) (tells_kind Fans c.eq.result fans_told c.kind_at.ensures (λ e. search rules) (λ e n. search rules))
