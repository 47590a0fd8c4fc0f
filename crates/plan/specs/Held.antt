-- The classes, shares and plan that the arrays of `plan_layout` hold.
use Rattle.std.specs.Prelude.{◌≡◌, List, [], ◌∷◌, ℕ, ◌+◌, ◌-◌, ◌%◌, ◌<◌, ◌≤◌, get_or}
use Rattle.model.specs.Limits.{most_doses}
use Rattle.model.specs.Sets.{Doses, weight}
use Rattle.model.specs.Lists.{gather}
use Rattle.model.specs.Orders.{Order}
use Rattle.model.specs.Classes.{Classes, W, class_p, reserved}
use Rattle.model.specs.Intervals.{fans_present, instant_at, setting_of}
use Rattle.model.specs.Plans.{Class, plan_of, records_bytes}
use Rattle.model.specs.Layout.{table_slots}
use Rattle.model.specs.Answers.{ValidShares}
use Rattle.interval.specs.declared.Instants.{Instants}
use Rattle.classes.specs.declared.Tally.{Tally}
use Rattle.measure.specs.Arrays.{sets_of}
use Rattle.plan_layout.specs.declared.Tables.{Tables}
use Rattle.plan_layout.specs.Held.{fans_at, share_at, table_from}

-- class i has the doses whose class it is
abbrev pub members_from : Tables → ℕ → Doses
members_from t = sets_of t.class_of

-- "1 class number from 1; 2-3 doses in it; 4-7 W; 8-11 P"
unfoldable pub class_from : Tables → ℕ → Class
class_from t i =
    record { number = i + 1; doses = weight t.doses (λ k. 1) (members_from t i); weight = get_or t.weight i 0; time = get_or t.time i 0 }

abbrev pub classes_from : Tables → List Class
classes_from t = gather t.classes (λ i. class_from t i ∷ [])

-- "Records: classes by number, then slots by interval, fan, start."
abbrev pub bytes_from : Tables → List ℕ → List (List ℕ) → List ℕ
bytes_from t shares reserved = records_bytes (plan_of (classes_from t) (table_slots (table_from t shares reserved)))

-- the arrays hold an order's intervals, its classes, their W, P and reserved fans, and valid shares of them
pub record TablesHold (o : Order) (t : Tables) (shares : List ℕ) (rows : List (List ℕ)) : Type 0 where
  pub doses : t.doses ≡ (setting_of o).doses
  pub intervals : t.intervals ≡ (setting_of o).intervals
  pub instants : (j : ℕ) → j ≤ (setting_of o).intervals → get_or t.instants j 0 ≡ instant_at o j
  pub classes : Classes (setting_of o) (fans_present o) t.classes (members_from t)
  pub weight : (i : ℕ) → i < t.classes → get_or t.weight i 0 ≡ W (setting_of o) (members_from t i)
  pub time : (i : ℕ) → i < t.classes → get_or t.time i 0 ≡ class_p (setting_of o) (fans_present o) (members_from t) i
  pub fans : (i j : ℕ) → i < t.classes → j < (setting_of o).intervals → fans_at rows i j ≡ reserved (setting_of o) (fans_present o) (members_from t) i j
  pub valid : ValidShares o t.classes (members_from t) (share_at t shares)

-- tables of so many doses, with these instants and the classes, W and P of the tally
pub record TablesOf (doses : ℕ) (s : Instants) (y : Tally) (t : Tables) : Type 0 where
  pub doses_is : t.doses ≡ doses
  pub classes_is : t.classes ≡ y.class
  pub intervals_is : t.intervals ≡ s.count - 1
  pub instants_is : t.instants ≡ s.at
  pub class_of_is : t.class_of ≡ y.numbers
  pub weight_is : (i : ℕ) → i < most_doses → get_or t.weight i 0 ≡ get_or y.weight i 0 % 4294967296
  pub time_is : (i : ℕ) → i < most_doses → get_or t.time i 0 ≡ get_or y.time i 0 % 4294967296
