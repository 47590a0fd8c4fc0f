-- `put_word` meets its contract: the part of the buffer that the word was copied into holds it (Adding).
use mathlib.Core.Path.{refl}
use native.Mathlib.Omega.{arith}
use Rattle.lines.proofs.Adding.{put_part}
use Rattle.lines.proofs.text.Text.put_word.Goals as goal

pub returns : goal.returns
returns c = record {
  same_reference = refl;
  put = record { next = refl; now = put_part _ _ _ c.args.word.now c.copy_from_slice.ensures.after (omega arith) c.requires };
}
