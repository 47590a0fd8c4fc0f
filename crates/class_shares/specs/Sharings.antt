-- What the search for shares leaves as it was, besides them.
use Rattle.std.specs.Prelude.{◌≡◌}
use Rattle.class_chains.specs.Fills.{Refilled}
use Rattle.class_shares.specs.declared.Sharing.{Sharing}

-- h is g with other shares
pub record Reshared (g h : Sharing) : Type 0 where
  pub fill : Refilled g.fill h.fill
  pub needs : h.needs.now ≡ g.needs.now
