-- Two answers of a function of `measure` are one array: its promise settles every place. Assumes nothing.
use mathlib.Core.Bool.{Bool, false}
use mathlib.Core.List.{List}
use mathlib.Core.Path.{◌≡◌, sym, ◌∙◌}
use Prim.Native.Nat.{ℕ, ◌<◌}
use lib.ListN.{length, get_or}
use Rattle.model.specs.Limits.{cells, most_doses, most_intervals}
use Rattle.order.specs.declared.Order.{Order}
use Rattle.interval.specs.declared.Instants.{Instants}
use Rattle.steps.proofs.Arrays.{filled_one, places_one}
use Rattle.steps.proofs.Tests.{below_or}
use Rattle.measure.specs.Arrays.{ActiveIn, GramsIn, LensIn, intervals_of, sets_of}
use Rattle.measure.specs.Measure.{Opens}

-- ---- an order in arrays

pub grams_one : (o : Order) {r r' : List ℕ} → length r ≡ most_doses → length r' ≡ most_doses → GramsIn o r → GramsIn o r' → r ≡ r'
grams_one o l l' a b =
    places_one 0 most_doses l l' (λ k q. below_or k o.count (λ h. a.doses k h ∙ sym (b.doses k h)) (λ h. a.past k h ∙ sym (b.past k h)))

pub lens_one : (s : Instants) {r r' : List ℕ} → length r ≡ most_intervals → length r' ≡ most_intervals → LensIn s r → LensIn s r' → r ≡ r'
lens_one s l l' a b = filled_one 0 most_intervals l l' a.intervals b.intervals

pub active_one : (o : Order) (s : Instants) (J : ℕ) {r r' : List Bool} → length r ≡ cells → length r' ≡ cells → ActiveIn o s J r → ActiveIn o s J r' → r ≡ r'
active_one o s J l l' a b = filled_one false cells l l' a b

-- ---- the measures of a set

pub set_one : (numbers : List ℕ) (i : ℕ) {r r' : List Bool} → length r ≡ most_doses → length r' ≡ most_doses
    → ((k : ℕ) → k < most_doses → get_or r k false ≡ sets_of numbers i k) → ((k : ℕ) → k < most_doses → get_or r' k false ≡ sets_of numbers i k) → r ≡ r'
set_one numbers i l l' a b = filled_one false most_doses l l' a b

pub opens_one : (o : Order) (s : Instants) (set : List Bool) (free : List ℕ) {r r' : List ℕ} → length r ≡ most_intervals → length r' ≡ most_intervals
    → Opens o s set free r → Opens o s set free r' → r ≡ r'
opens_one o s set free l l' a b =
    places_one 0 most_intervals l l' (λ j q. below_or j (intervals_of s) (λ h. a.smaller j h ∙ sym (b.smaller j h)) (λ h. a.none j h ∙ sym (b.none j h)))
