-- Two answers of `next_class` are one class, with one W, one P and the same open fans. Its shares are left open. Assumes nothing.
use mathlib.Core.Bool.{false}
use mathlib.Core.List.{List}
use mathlib.Core.Path.{◌≡◌, refl, sym, ◌∙◌}
use Prim.Native.Nat.{ℕ}
use lib.ListN.{length}
use Rattle.model.specs.Limits.{most_doses, most_intervals}
use Rattle.model.specs.Sets.{Doses}
use Rattle.model.specs.Classes.{Setting, Row}
use Rattle.model.proofs.Sets.{Alike, weight_alike}
use Rattle.model.proofs.FanTime.{P-alike, open_fans-alike}
use Rattle.model.proofs.NextClass.{next_unique}
use Rattle.steps.proofs.Tests.{below_or}
use Rattle.steps.proofs.Arrays.{places_one}
use Rattle.measure.specs.Arrays.{set_of}
use Rattle.class_rounds.specs.declared.Class.{Class}
use Rattle.class_rounds.specs.Rounds.{NextOf}

module _ (S : Setting) (row : Row) (rest : Doses) {c c' : Class} {x x' : List ℕ} (l : length c.members ≡ most_doses) (l' : length c'.members ≡ most_doses)
    (m : length c.reserved ≡ most_intervals) (m' : length c'.reserved ≡ most_intervals) (a : NextOf S row rest c x) (b : NextOf S row rest c' x') where
  same_set : Alike S.doses (set_of c.members) (set_of c'.members)
  same_set = next_unique S row rest (set_of c.members) (set_of c'.members) a.chosen.next b.chosen.next

  one_set : c.members ≡ c'.members
  one_set = places_one false most_doses l l' (λ k q.
      below_or k S.doses (same_set k) (λ g. a.chosen.past k g q ∙ sym (b.chosen.past k g q)))

  one_row : c.reserved ≡ c'.reserved
  one_row = places_one 0 most_intervals m m' (λ j q.
      below_or j S.intervals
      (λ h. a.measured.fans j h ∙ open_fans-alike S row row _ _ j refl same_set ∙ sym (b.measured.fans j h))
      (λ g. a.measured.no_fans j g q ∙ sym (b.measured.no_fans j g q)))

  one_weight : c.weight ≡ c'.weight
  one_weight = a.measured.weight ∙ weight_alike S.doses S.grams _ _ same_set ∙ sym b.measured.weight

  one_time : c.time ≡ c'.time
  one_time = a.measured.time ∙ P-alike S row _ _ same_set ∙ sym b.measured.time

  pub class_one : c ≡ c'
  class_one = λ i. record { members = one_set i; weight = one_weight i; time = one_time i; reserved = one_row i }
