-- `class_numbers` meets its contract: the numbers so far are those of the slots passed (Naming).
use mathlib.Core.Path.{refl}
use lib.ListN.{length-set}
use lib.Seq.{get_or-set_other, get_or-set_same}
use native.Mathlib.Omega.{arith}
use Rattle.judge.proofs.Naming.{numbers_more, numbers_none}
use Rattle.judge.proofs.numbers.class_numbers.Goals as goal
use Rattle.judge.proofs.numbers.class_numbers.Goals.{else-k-lt-MOST_DOSES, then-k-lt-MOST_DOSES}

pub loop-i-init : goal.loop-i-init
loop-i-init c = record { size = refl; named = numbers_none _ _ }

pub loop-i-preserved : goal.loop-i-preserved
loop-i-preserved c =
    let so_far = c.loop-i.invariant in
    let s = c.slot_at-s.result in
    elim c.if-k-lt-MOST_DOSES.branch [
      | then-k-lt-MOST_DOSES w ↦ record {
        size = rw w.numbers-is (simp length-set so_far.size);
        named =
            numbers_more _ _ _ _ _ _ c.slot_at-s.ensures so_far.named
            (λ l. rw w.numbers-is (get_or-set_same c.loop-i.numbers s.dose s.class 0 (omega (arith, so_far.size))))
            (λ k other. rw w.numbers-is (get_or-set_other c.loop-i.numbers s.dose k s.class 0 other))
            c.loop-i.auto.i;
      }
      | else-k-lt-MOST_DOSES w ↦ record {
        size = rw w.numbers-is so_far.size;
        named = numbers_more _ _ _ _ _ _ c.slot_at-s.ensures so_far.named (λ l. absurd (omega arith)) (λ k other. rw w.numbers-is refl) c.loop-i.auto.i;
      }
    ]
