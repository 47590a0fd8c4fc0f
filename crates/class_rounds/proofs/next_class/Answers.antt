-- `next_class` meets its contract: of the remaining doses' own marks, the set stays a candidate from round to round, and its weight falls.
use mathlib.Core.Path.{refl}
use Rattle.model.proofs.Same.{agree_refl, next_same}
use Rattle.measure.specs.Arrays.{set_of, row_of}
use Rattle.measure.specs.Held.{as_setting}
use Rattle.class_rounds.proofs.Laws.{own_alike, own_some, own_none_past}
use Rattle.class_rounds.proofs.OneRound.{first_candidate}
use Rattle.class_rounds.proofs.next_class.Goals as goal

pub loop-class-init : goal.loop-class-init
loop-class-init c =
    let A = c.args in
    let h = A.setting.now in
    let own = c.doses_of-set in (
      first_candidate (as_setting h) (row_of A.free.now) _ (own_some h.order.count h.arrays.few_doses A.remaining.now own.result own.ensures c.requires),
      own_none_past h.order.count h.arrays.few_doses A.remaining.now own.result own.ensures,
    )

-- the needs are met: the candidate is the class, of the remaining doses' own marks and so of the remaining doses
pub returns-in-Found : goal.returns-in-Found
returns-in-Found c =
    let A = c.args in
    let h = A.setting.now in
    let own = c.doses_of-set in
    let found = c.in-Found.ensures _ c.loop-class.invariant.0 c.loop-class.invariant.1 in
    let S = as_setting h in
    record {
      measured = found.measured;
      small = found.small;
      chosen = record {
        next = next_same S S (agree_refl S) _ _ (λ j l. refl) (set_of own.result) (set_of A.remaining.now) _ _
            (own_alike h.order.count h.arrays.few_doses A.remaining.now own.result own.ensures) (λ k l. refl) found.chosen.next;
        valid = found.chosen.valid;
        past = found.chosen.past;
        none = found.chosen.none;
      };
    }
