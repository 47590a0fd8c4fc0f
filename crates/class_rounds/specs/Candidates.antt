-- What is filled for a candidate, and what it comes to. Only the contracts of private functions cite this page.
use Rattle.std.specs.Prelude.{◌≡◌, Bool, false, List, ℕ, ◌*◌, ◌/◌, ◌%◌, ◌<◌, get_or}
use Rattle.model.specs.Limits.{cells, most_doses, most_intervals}
use Rattle.model.specs.Sets.{on, Doses}
use Rattle.model.specs.Classes.{Setting, Row}
use Rattle.measure.specs.Arrays.{set_of}
use Rattle.class_rounds.specs.declared.Round.{Round}
use Rattle.class_rounds.specs.declared.Round.TheVariants as is
use Rattle.class_rounds.specs.Rounds.{Candidate, NextOf, NonePast, Onward}

-- "at most L × W units, only where it is active"
abbrev pub Rooms : List Bool → List ℕ → List Bool → ℕ → List ℕ → Type 0
Rooms active lens set w rooms = (i : ℕ) → i < cells → get_or rooms i 0 ≡ on (get_or set (i / most_intervals) false) (on (get_or active i false) (get_or lens (i % most_intervals) 0 * w))

-- "its reserved fans × L × W", interval by interval
abbrev pub Holds : List ℕ → List ℕ → ℕ → List ℕ → Type 0
Holds lens open-fans w holds = (j : ℕ) → j < most_intervals → get_or holds j 0 ≡ get_or open-fans j 0 * (get_or lens j 0 * w)

-- "A dose of w grams in a class with W and P needs w × P units.", for the doses of the set
abbrev pub Needs : List ℕ → List Bool → ℕ → List ℕ → Type 0
Needs grams set p needs = (k : ℕ) → k < most_doses → get_or needs k 0 ≡ on (get_or set k false) (get_or grams k 0 * p)

-- one round over the candidate A, with the shares x: it is the class, or the answer has the next candidate
abbrev pub RoundOf : Setting → Row → Doses → List ℕ → Round → Type 0
RoundOf S row A x (is.Found c) = (rest : Doses) → Candidate S row rest A → NonePast S.doses A → NextOf S row rest c x
RoundOf S row A x (is.Onward part) = Onward S row A (set_of part)
