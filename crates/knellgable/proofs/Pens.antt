-- A pen that is moved stays at its dose. Assumes nothing.
use mathlib.Core.Path.{◌≡◌, refl}
use mathlib.Core.List.{List}
use Prim.Native.Nat.{ℕ}
use Rattle.model.specs.Answers.{Drawn, Moves, Pen, at_end, moves, no_such_dose, refuses}

pub dose_stays : {order plan : List ℕ} {from to : Pen} {d : Drawn} → Moves order plan from d to → to.dose ≡ from.dose
dose_stays (refuses a j n) = refl
dose_stays (no_such_dose o acc st l) = refl
dose_stays (at_end o acc st l g) = refl
dose_stays (moves o acc st l g) = refl
