-- What `classes` answers of an order.
use Rattle.std.specs.Prelude.{◌≡◌, false, List, ℕ, ◌<◌, T, get_or, Option, Some, None}
use Rattle.model.specs.Sets.{Doses}
use Rattle.model.specs.Orders.{Order}
use Rattle.model.specs.Classes.{W, class_p, reserved, Classes}
use Rattle.model.specs.Intervals.{setting_of, fans_present}
use Rattle.model.specs.Answers.{Answer, ValidShares, FirstClass, above_top, too_fast}
use Rattle.classes.specs.declared.Tally.{Tally}
use Rattle.classes.specs.declared.TooFast.{TooFast}
use Rattle.classes.specs.declared.numbers.Numbers.{Numbers}
use Rattle.classes.specs.Phase.{row_at, classes_in, shares_in, Past}

-- the tally has the order's classes, their W and P, and no dose remains
pub record ClassesOf (o : Order) (t : Tally) : Type 0 where
  pub classes : Classes (setting_of o) (fans_present o) t.class (classes_in t)
  pub weight : (i : ℕ) → i < t.class → get_or t.weight i 0 ≡ W (setting_of o) (classes_in t i)
  pub time : (i : ℕ) → i < t.class → get_or t.time i 0 ≡ class_p (setting_of o) (fans_present o) (classes_in t) i
  pub classed : t.classed ≡ (setting_of o).doses
  pub no_rest : (k : ℕ) → k < (setting_of o).doses → get_or t.remaining k false ≡ false

-- a row of reserved fans for each class, and valid shares of every class; nothing past the doses, the intervals and the classes
pub record SharesOf (o : Order) (t : Tally) (table : List (List ℕ)) (shares : List ℕ) : Type 0 where
  pub rows : (i j : ℕ) → i < t.class → j < (setting_of o).intervals → row_at table i j ≡ reserved (setting_of o) (fans_present o) (classes_in t) i j
  pub valid : ValidShares o t.class (classes_in t) (shares_in t shares)
  pub past : Past (setting_of o).doses (setting_of o).intervals t table shares

-- refusal 9, as document 01 has it
abbrev pub nine : TooFast → Answer
nine r = record { number = 9; place = 0; set = r.set; weight = r.weight; time = r.time }

-- a refusal in numbers, as an answer
abbrev pub as_numbers : Numbers → Answer
as_numbers n = record { number = n.number; place = n.place; set = n.set; weight = n.weight; time = n.time }

-- r says whether the order's first class is above the top rate
pub record AgainstTop (o : Order) (r : Option TooFast) : Type 0 where
  pub slow : r ≡ None → (A : Doses) → FirstClass o A → T (above_top o A) → ⊥
  pub above : (f : TooFast) → r ≡ Some f → (A : Doses) × FirstClass o A × T (above_top o A) × (nine f ≡ too_fast o A)
