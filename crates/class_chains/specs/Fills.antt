-- What a search leaves as it was, besides the shares: the array that they stand in, and what bounds them.
use Rattle.std.specs.Prelude.{◌≡◌}
use Rattle.class_chains.specs.declared.Fill.{Fill}

-- g is f with other shares
pub record Refilled (f g : Fill) : Type 0 where
  pub lent : g.shares.ghost_name ≡ f.shares.ghost_name
  pub rooms : g.rooms.now ≡ f.rooms.now
  pub holds : g.holds.now ≡ f.holds.now
