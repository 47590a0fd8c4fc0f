-- How a text is added behind the one that stands in a lent buffer.
use Rattle.std.specs.Prelude.{◌≡◌, List, ℕ, ◌+◌, ◌≤◌, length}
use Rattle.lines.specs.declared.text.Text.{Text}
use Rattle.lines.specs.Text.{Put}

-- there is room for n bytes more
abbrev pub Fits : ℕ → Text → Type 0
Fits n t = t.end + n ≤ length t.bytes.now

-- the text stands behind what stood there, every other byte is as it was, and the buffer is the one that was lent
pub record Adds (text : List ℕ) (before after : Text) : Type 0 where
  pub same_reference : after.bytes.ghost_name ≡ before.bytes.ghost_name
  pub put : Put text before.bytes.now before.end after.bytes.now after.end
