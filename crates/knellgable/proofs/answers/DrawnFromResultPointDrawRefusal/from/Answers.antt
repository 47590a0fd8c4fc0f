-- What is drawn, in plain numbers: a refusal has its own, and no point.
use mathlib.Core.Path.{◌∙◌}
use Rattle.draw.specs.Drawing.{as_state}
use Rattle.knellgable.proofs.answers.DrawnFromResultPointDrawRefusal.from.Goals as goal

pub returns-in-Err : goal.returns-in-Err
unfolding as_state
returns-in-Err c =
    let numbers = c.drawn-in-Err.ensures in
    rw c.in-Err.is (record { answer = numbers.answer ∙ c.numbers.ensures; amount = numbers.amount; state = numbers.state; fan = numbers.fan })
