-- `put` meets its contract: the part that is lent holds the first bytes of the number then (Laws).
use mathlib.Core.Path.{◌∙◌, ap}
use lib.ListN.{take}
use native.Mathlib.Omega.{arith}
use Rattle.records.proofs.Laws.{length_number, low_bytes, part_written}
use Rattle.records.proofs.number.put.Goals as goal

pub returns : goal.returns
returns g c =
    let A = c.args in
    let low = c.copy_from_slice.ensures.after ∙ ap (take g.row.N) c.to_le_bytes.ensures ∙ low_bytes g.row.N A.v (omega arith) in
    part_written A.b.now c.copy_from_slice.new.self _ A.at _ low (omega (arith, length_number g.row.N A.v)) (omega arith)
