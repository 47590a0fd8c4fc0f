-- The fields of an order held in arrays are those of the order. Assumes nothing.
use mathlib.Core.Path.{◌≡◌, refl, sym, ap, ◌∙◌}
use Prim.Native.Nat.{ℕ, ◌<◌, ◌≤◌}
use native.Mathlib.Nat.{zero-add}
use native.Mathlib.Omega.{arith}
use lib.ListN.{length}
use Rattle.model.specs.Limits.{most_doses}
use Rattle.model.specs.Orders.{no_dose, dose_at}
use Rattle.model.proofs.Orders.{Fit}
use Rattle.order.specs.declared.Order.{Order}
use Rattle.order.specs.Held.{as_order, dose_held, doses_from}
use Rattle.order.proofs.Columns.{run_at, run_length}

module _ (o : Order) where
  pub doses_is : o.count ≡ length (as_order o).doses
  unfolding as_order doses_from
  doses_is = sym (run_length (dose_held o) 0 o.count)

  pub fans_is : o.fans ≡ (as_order o).fans
  unfolding as_order
  fans_is = refl

  pub top_grams_is : o.top_grams ≡ (as_order o).top_grams
  unfolding as_order
  top_grams_is = refl

  pub top_seconds_is : o.top_seconds ≡ (as_order o).top_seconds
  unfolding as_order
  top_seconds_is = refl

  pub dose_is : (k : ℕ) → k < o.count → dose_held o k ≡ dose_at (as_order o) k
  unfolding as_order doses_from
  dose_is k h = sym (run_at (dose_held o) 0 o.count k no_dose h ∙ ap (dose_held o) (zero-add k))

  -- an order that fits has few doses
  pub few_doses : Fit (as_order o) → o.count ≤ most_doses
  few_doses fit = omega (arith, fit.few, doses_is)
