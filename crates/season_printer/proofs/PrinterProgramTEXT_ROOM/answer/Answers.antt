-- The text that is put says what adding up answered (Printing).
use Rattle.std.proofs.Common.{arith, refl}
use Rattle.season_printer.proofs.Printing.{says}
use Rattle.season_printer.proofs.PrinterProgramTEXT_ROOM.answer.Goals as goal

pub returns-in-Ok-clause-puts : goal.returns-in-Ok-clause-puts
returns-in-Ok-clause-puts c = says c.in-Ok.ensures (omega arith) c.print_season.ensures refl

pub returns-in-Err-clause-puts : goal.returns-in-Err-clause-puts
returns-in-Err-clause-puts c = says c.in-Err.ensures (omega arith) (rw (c.from-number.ensures, c.number.ensures) at c.print_refusal.ensures) refl
