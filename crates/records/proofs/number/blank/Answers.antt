-- `blank` meets its contract: all bytes of the part are zero just where the number in them is 0 (Laws).
use Prim.Native.Nat.{◌+◌, ◌-◌}
use mathlib.Core.Path.{◌≡◌, ◌∙◌}
use native.Mathlib.Omega.{arith}
use lib.Dec.{eqb}
use lib.ListN.{take, drop}
use Rattle.std.proofs.Common.{rules, tests}
use Rattle.std.proofs.lemmas.Iterator.{YieldsList-from_slice}
use Rattle.std.proofs.lemmas.Iterator.Search.{all_from_yields_List}
use Rattle.records.proofs.Laws.{all_zero}
use Rattle.records.proofs.number.blank.Goals as goal

pub returns : goal.returns
returns c =
    let A = c.args in
    let size : A.from + A.count - A.from ≡ A.count = omega arith in
    let part : c.iter.result.rest.now ≡ take A.count (drop A.from A.s.now) = rw (← size) cc in
    let all = all_from_yields_List (λ x. eqb x 0) _ _ _ c.all.ensures.ran (YieldsList-from_slice _ part) (λ x b q k. search (rules, tests)) in
    all ∙ all_zero A.s.now A.from A.count (omega arith)
