-- The phases, one for each class.
use Rattle.std.specs.Prelude.{◌≡◌, Bool, true, false, not, ◌&&◌, ◌≢◌, List, [], ℕ, ◌+◌, ◌/◌, ◌<◌, ◌≤◌, T, ltb, length, get_or, replicate}
use Rattle.model.specs.Limits.{cells, most_doses, most_intervals}
use Rattle.model.specs.Sets.{on, Doses}
use Rattle.model.specs.Classes.{Setting, Row, W, class_p, remaining, free}
use Rattle.model.specs.Classes as classes
use Rattle.model.specs.Shares.{Valid}
use Rattle.model.proofs.Sets.{size}
use Rattle.model.proofs.Sequence.{Found}
use Rattle.class_chains.specs.Chains.{cell}
use Rattle.measure.specs.Arrays.{set_of, sets_of}
use Rattle.classes.specs.declared.Tally.{Tally}

-- a where the test holds, and b where not
abbrev pub choose : {A : Type 0} → Bool → A → A → A
choose true a b = a
choose false a b = b

-- the fans that class i reserves in interval j
abbrev pub row_at : List (List ℕ) → ℕ → ℕ → ℕ
row_at table i j = get_or (get_or table i []) j 0

-- the table has the row of class i, and the other rows as before
pub record Reserved (i : ℕ) (reserved : List ℕ) (before after : List (List ℕ)) : Type 0 where
  pub tall : length after ≡ most_doses
  pub own : (j : ℕ) → j < most_intervals → row_at after i j ≡ get_or reserved j 0
  pub others : (l j : ℕ) → l ≢ i → row_at after l j ≡ row_at before l j

-- the classes that the tally has
abbrev pub classes_in : Tally → ℕ → Doses
classes_in t = sets_of t.numbers

-- the shares of class i
abbrev pub shares_in : Tally → List ℕ → ℕ → ℕ → ℕ → ℕ
shares_in t shares i k j = on (classes_in t i k) (cell shares k j)

-- the tally before the first phase: every dose remains
pub record Start (n : ℕ) (t : Tally) : Type 0 where
  pub class : t.class ≡ 0
  pub classed : t.classed ≡ 0
  pub remaining : (k : ℕ) → k < most_doses → get_or t.remaining k false ≡ ltb k n
  pub numbers : t.numbers ≡ replicate most_doses 0
  pub weight : t.weight ≡ replicate most_doses 0
  pub time : t.time ≡ replicate most_doses 0

-- no fan is reserved and no share is given
pub record Blank (table : List (List ℕ)) (shares : List ℕ) : Type 0 where
  pub rows : (i j : ℕ) → row_at table i j ≡ 0
  pub cells : (i : ℕ) → get_or shares i 0 ≡ 0

-- the tally with one class more: its doses, W and P
pub record After (n : ℕ) (members : List Bool) (w p : ℕ) (t r : Tally) : Type 0 where
  pub class : r.class ≡ t.class + 1
  pub classed : r.classed ≡ t.classed + size n (set_of members)
  pub remaining : (k : ℕ) → k < most_doses → get_or r.remaining k false ≡ (get_or t.remaining k false && not (get_or members k false))
  pub numbers : (k : ℕ) → k < most_doses → get_or r.numbers k 0 ≡ choose (get_or members k false) (t.class + 1) (get_or t.numbers k 0)
  pub weight : get_or r.weight t.class 0 ≡ w
  pub time : get_or r.time t.class 0 ≡ p
  pub other_weight : (i : ℕ) → i ≢ t.class → get_or r.weight i 0 ≡ get_or t.weight i 0
  pub other_time : (i : ℕ) → i ≢ t.class → get_or r.time i 0 ≡ get_or t.time i 0

-- the shares of the members are those of x, and the others as before
abbrev pub KeptShares : List Bool → List ℕ → List ℕ → List ℕ → Type 0
KeptShares members x before after = (i : ℕ) → i < cells → get_or after i 0 ≡ choose (get_or members (i / most_intervals) false) (get_or x i 0) (get_or before i 0)

-- nothing stands past the doses, the intervals and the classes so far
pub record Past (n J : ℕ) (t : Tally) (table : List (List ℕ)) (shares : List ℕ) : Type 0 where
  pub no_rest : (k : ℕ) → n ≤ k → k < most_doses → get_or t.remaining k false ≡ false
  pub no_number : (k : ℕ) → n ≤ k → k < most_doses → get_or t.numbers k 0 ≡ 0
  pub no_weight : (i : ℕ) → t.class ≤ i → get_or t.weight i 0 ≡ 0
  pub no_time : (i : ℕ) → t.class ≤ i → get_or t.time i 0 ≡ 0
  pub no_row : (i j : ℕ) → t.class ≤ i → row_at table i j ≡ 0
  pub no_column : (i j : ℕ) → i < t.class → J ≤ j → j < most_intervals → row_at table i j ≡ 0
  pub no_dose : (k j : ℕ) → n ≤ k → k < most_doses → j < most_intervals → cell shares k j ≡ 0
  pub no_interval : (k j : ℕ) → k < most_doses → J ≤ j → j < most_intervals → cell shares k j ≡ 0

-- the tally so far, with the table of reservations and the shares of the classes that it has
pub record SoFar (S : Setting) (F : Row) (t : Tally) (table : List (List ℕ)) (shares : List ℕ) : Type 0 where
  pub tall : length table ≡ most_doses
  pub found : Found S F t.class (classes_in t)
  pub rest : (k : ℕ) → k < S.doses → get_or t.remaining k false ≡ remaining (classes_in t) t.class k
  pub counted : size S.doses (remaining (classes_in t) t.class) + t.classed ≡ S.doses
  pub each : t.class ≤ t.classed
  pub later : (k i : ℕ) → k < S.doses → t.class ≤ i → T (classes_in t i k) → ⊥
  pub weight : (i : ℕ) → i < t.class → get_or t.weight i 0 ≡ W S (classes_in t i)
  pub time : (i : ℕ) → i < t.class → get_or t.time i 0 ≡ class_p S F (classes_in t) i
  pub rows : (i j : ℕ) → i < t.class → j < S.intervals → row_at table i j ≡ classes.reserved S F (classes_in t) i j
  pub valid : (i : ℕ) → i < t.class → Valid S (free S F (classes_in t) i) (classes_in t i) (shares_in t shares i)
  pub past : Past S.doses S.intervals t table shares
