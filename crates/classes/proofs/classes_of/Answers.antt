-- `classes_of` meets its contract: the setting stands for the order (OfOrder).
use mathlib.Core.Path.{◌∙◌, ap}
use Rattle.order.specs.declared.Order.{Order}
use Rattle.order.specs.Held.{as_order}
use Rattle.order.proofs.Fields.{fans_is, few_doses}
use Rattle.measure.proofs.OfOrder.{stands_for}
use Rattle.classes.proofs.OnePhase.{blank}
use Rattle.classes.proofs.OfOrder.{of_order}
use Rattle.classes.proofs.classes_of.Goals as goal

pub instants_of-instants-requires : goal.instants_of-instants-requires
instants_of-instants-requires c = few_doses c.args.o.now c.requires

pub phases-requires : goal.phases-requires
phases-requires c = blank

pub returns : goal.returns
returns c =
    let o = c.args.o.now in
    let laid = c.of-setting.result in
    let has = c.of-setting.ensures in
    let read = stands_for o c.instants_of-instants.result laid has.0 has.1 c.requires c.instants_of-instants.ensures has.2 has.3 has.4 in
    let fans = ap (λ (p : Order). p.fans) has.0 ∙ fans_is o in
    of_order (as_order o) c.requires laid read laid.order.fans fans _ _ _ c.phases.ensures.0 c.phases.ensures.1
