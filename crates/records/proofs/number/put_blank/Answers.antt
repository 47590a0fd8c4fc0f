-- `put_blank` meets its contract: the part that is lent holds zeros then (Laws).
use Prim.Native.Nat.{ℕ, ◌+◌, ◌-◌}
use mathlib.Core.Path.{◌≡◌}
use lib.ListN.{length, length-take, length-drop, replicate, length-replicate}
use native.Mathlib.Omega.{arith}
use borrow.Rule.Slice.PartMut.{mid_of}
use Rattle.records.proofs.Laws.{part_written}
use Rattle.records.proofs.number.put_blank.Goals as goal

pub returns : goal.returns
returns c =
    let A = c.args in
    let size : length (mid_of A.at (A.at + A.count - A.at) A.b.now) ≡ A.count = simp (length-take, length-drop) (omega arith) in
    let zeros : c.fill.new.self ≡ replicate A.count 0 = rw (← size) (c.fill.ensures.after (λ y e. e)) in
    part_written A.b.now c.fill.new.self (replicate A.count 0) A.at _ zeros (rw (length-replicate {A = ℕ} A.count 0) (omega arith)) (omega arith)
