-- `read` meets its contract: from the last byte down, 256 times the number so far and the byte before it (Laws).
use Prim.Native.Nat.{ℕ, ◌+◌, ◌-◌}
use mathlib.Core.Path.{refl, sym, ap, ◌∙◌}
use native.Mathlib.Omega.{arith}
use native.Mathlib.Nat.{sub_self}
use lib.ListN.{get_or}
use Rattle.records.proofs.Laws.{byte_more, number_none, short_enough}
use Rattle.records.proofs.number.read.Goals as goal

pub loop-i-init : goal.loop-i-init
loop-i-init g c = rw sub_self (sym (number_none c.args.s.now (c.args.at + g.row.N) 0 refl), omega arith)

pub overflow_mul-n : goal.overflow_mul-n
overflow_mul-n g c =
    omega (arith, short_enough c.loop-i.n (g.row.N - c.loop-i.i) (omega arith) c.loop-i.invariant.1)

pub overflow_add-n : goal.overflow_add-n
overflow_add-n g c =
    omega (arith, short_enough c.loop-i.n (g.row.N - c.loop-i.i) (omega arith) c.loop-i.invariant.1)

pub loop-i-preserved : goal.loop-i-preserved
loop-i-preserved g c =
    let s = c.args.s.now in
    let byte = c.from.ensures ∙ ap (λ (j : ℕ). get_or s j 0) (omega arith) in
    byte_more s c.loop-i.n _ c.args.at c.loop-i.i g.row.N (omega arith) (omega arith) (omega arith) byte c.loop-i.invariant.0 c.loop-i.invariant.1
