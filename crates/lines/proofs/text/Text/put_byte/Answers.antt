-- `put_byte` meets its contract: the byte stands behind the text, and the place behind it is one further (Puts).
use mathlib.Core.Path.{refl}
use Rattle.lines.proofs.Puts.{put_one}
use Rattle.lines.proofs.text.Text.put_byte.Goals as goal

pub returns : goal.returns
returns c = record { same_reference = refl; put = put_one _ _ _ }
