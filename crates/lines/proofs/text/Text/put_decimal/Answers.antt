-- `put_decimal` meets its contract: a number of 64 bits has at most 20 digits, written as the library writes them (Digits).
use mathlib.Core.Path.{ap, ◌∙◌}
use native.Mathlib.Omega.{arith}
use Rattle.std.specs.Fmt as fmt
use Rattle.lines.proofs.Digits.{as_written}
use Rattle.lines.proofs.text.Text.put_decimal.Goals as goal

pub returns : goal.returns
returns c =
    let shown = c.format.ensures.text ∙ ap fmt.decimal (omega arith) in
    rw (c.as_bytes.ensures.value ∙ shown ∙ as_written c.args.v c.ranges.v.fits) at c.put_word.ensures
