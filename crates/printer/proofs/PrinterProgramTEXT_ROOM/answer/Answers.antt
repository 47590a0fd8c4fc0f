-- The text that is put says what planning answered: no plan has over 1,481 records, so plan and text have room (Printing).
use Rattle.std.proofs.Common.{arith, refl, ap, rules}
use Rattle.model.specs.Answers.{Answer}
use Rattle.printer.proofs.Printing.{few_records, some_number, says_plan, says_refusal}
use Rattle.printer.proofs.PrinterProgramTEXT_ROOM.answer.Goals as goal

pub print_plan-requires : goal.print_plan-requires
print_plan-requires c = let few = few_records c.in-Ok.ensures in (search (rules, few), omega (arith, few))

pub returns-in-Ok-clause-puts : goal.returns-in-Ok-clause-puts
returns-in-Ok-clause-puts c = says_plan refl c.in-Ok.ensures (omega arith) refl c.print_plan.ensures

-- each number printed is the answer's
pub returns-in-Err-clause-puts : goal.returns-in-Err-clause-puts
returns-in-Err-clause-puts c =
    let n = c.numbers-n.ensures in
    says_refusal refl c.in-Err.ensures (omega arith) (some_number c.in-Err.refusal)
    (rw (
      c.from.ensures,
      ap (λ (a : Answer). a.number) n,
      ap (λ (a : Answer). a.place) n,
      ap (λ (a : Answer). a.set) n,
      ap (λ (a : Answer). a.weight) n,
      ap (λ (a : Answer). a.time) n,
    ) at c.print_refusal.ensures)
