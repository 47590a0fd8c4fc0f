-- `ends_by` meets its contract: ticks first, then products of parts (Places).
use Rattle.judge_clauses.proofs.Tell.{tells_eqb, tells_leb, tells_ltb}
use Rattle.judge_slots.proofs.Places.{ends_earlier, ends_later, ends_parts, ends_together}
use native.Mathlib.Omega.{arith}
use Rattle.judge_pairs.proofs.ends_by.Goals as goal

pub returns-then-s-u : goal.returns-then-s-u
returns-then-s-u c = tells_ltb _ _ (ends_earlier c.requires.0 c.requires.1) (λ e. c.if-s-u.true)

pub returns-then-s-u-2 : goal.returns-then-s-u-2
returns-then-s-u-2 c =
    let by_end = c.product.ensures in
    let by_start = c.product-then-s-u-2.ensures in
    tells_leb c.product.result c.product-then-s-u-2.result
    (λ l. ends_together c.requires.0 c.requires.1 c.if-s-u-2.true (rw (by_end, by_start) at l))
    (λ h. rw (by_end, by_start) (ends_parts c.requires.0 c.requires.1 c.if-s-u-2.true h))

pub returns-else-s-u-2 : goal.returns-else-s-u-2
returns-else-s-u-2 c =
    tells_eqb _ _ (λ e. absurd (c.if-s-u-2.false e)) (λ h. absurd (ends_later c.requires.0 c.requires.1 (omega (arith, c.if-s-u.false, c.if-s-u-2.false)) h))
