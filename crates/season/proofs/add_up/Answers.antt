-- `add_up` meets its contract: 16 of a stream that doesn't fit, and else all orders are added up (Adding).
use mathlib.Core.Path.{◌∙◌, sym}
use Rattle.season.proofs.Adding.{added, fitting, not_added}
use Rattle.season.proofs.add_up.Goals as goal

pub returns-then-not-stream_fits : goal.returns-then-not-stream_fits
returns-then-not-stream_fits c = not_added _ (sym c.stream_fits.ensures ∙ c.if-not-stream_fits.true)

pub season_in-requires : goal.season_in-requires
season_in-requires c = fitting _ (sym c.stream_fits.ensures ∙ c.if-not-stream_fits.false)

pub returns : goal.returns
returns c = added _ (sym c.stream_fits.ensures ∙ c.if-not-stream_fits.false) c.season_in.ensures
