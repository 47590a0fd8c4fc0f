-- Laws of the tables made from an order's instants and classes. Assumes nothing.
use mathlib.Core.Path.{◌≡◌, ◌∙◌}
use mathlib.Core.List.{List}
use Prim.Native.Nat.{ℕ, ◌<◌}
use native.Mathlib.Omega.{arith}
use lib.ListN.{get_or}
use Rattle.model.specs.Limits.{most_doses}
use Rattle.model.specs.Classes.{W, class_p}
use Rattle.model.specs.Intervals.{fans_present, setting_of}
use Rattle.model.proofs.Orders.{Fit}
use Rattle.model.proofs.Sequence.{few_classes}
use Rattle.model.proofs.Planner.{W-most, time_most}
use Rattle.order.specs.declared.Order as code
use Rattle.order.specs.Held.{as_order}
use Rattle.order.proofs.Fields.{doses_is}
use Rattle.interval.specs.declared.Instants.{Instants}
use Rattle.interval.specs.Held.{InstantsOf}
use Rattle.interval.proofs.Laws.{count_is, instant_is}
use Rattle.classes.specs.declared.Tally.{Tally}
use Rattle.classes.specs.Answer.{ClassesOf, SharesOf}
use Rattle.classes.specs.Phase.{classes_in}
use Rattle.plan_layout.specs.declared.Tables.{Tables}
use Rattle.plan_layout.specs.Held.{share_at}
use Rattle.plan.specs.Held.{TablesHold, TablesOf}

module _ {o : code.Order} (fit : Fit (as_order o)) {s : Instants} (bounds : InstantsOf o s) {y : Tally} (found : ClassesOf (as_order o) y) {t : Tables}
    (made : TablesOf o.count s y t) where
  few : (i : ℕ) → i < y.class → i < most_doses
  few i l = omega (arith, few_classes (setting_of (as_order o)) (fans_present (as_order o)) y.class (classes_in y) found.classes, fit.few)

  weight_held : (i : ℕ) → i < y.class → get_or t.weight i 0 ≡ W (setting_of (as_order o)) (classes_in y i)
  weight_held i l = omega (arith, made.weight_is i (few i l), found.weight i l, W-most (as_order o) fit y.class (classes_in y) (classes_in y i))

  time_held : (i : ℕ) → i < y.class → get_or t.time i 0 ≡ class_p (setting_of (as_order o)) (fans_present (as_order o)) (classes_in y) i
  time_held i l = omega (arith, made.time_is i (few i l), found.time i l, time_most (as_order o) fit y.class (classes_in y) i)

  -- the tables hold the order's classes and shares
  pub tables_hold : {shares : List ℕ} {rows : List (List ℕ)} → SharesOf (as_order o) y rows shares → TablesHold (as_order o) t shares rows
  unfolding share_at
  tables_hold shared = rw (made.classes_is, made.class_of_is, made.instants_is) (record {
    doses = made.doses_is ∙ doses_is o;
    intervals = omega (arith, made.intervals_is, count_is o s bounds);
    instants = λ j l. instant_is o s bounds j;
    classes = found.classes;
    weight = weight_held;
    time = time_held;
    fans = shared.rows;
    valid = shared.valid;
  })
