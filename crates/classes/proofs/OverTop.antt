-- The first class against the top rate. Assumes nothing.
use mathlib.Core.Path.{◌≡◌, ap, ◌∙◌, subst}
use Prim.Native.Nat.{ℕ, ◌*◌, ◌<◌, ◌≤◌}
use native.Mathlib.Omega.{arith}
use lib.Dec.{T, ltb→lt, lt→ltb}
use lib.ListN.{get_or}
use Rattle.std.specs.Prelude.{true, Some, None}
use Rattle.std.proofs.lemmas.Option.{none-some, same_Some}
use Rattle.model.specs.Limits.{most_weight}
use Rattle.model.specs.Sets.{Doses}
use Rattle.model.specs.Classes.{Setting, W, P, set_number}
use Rattle.model.specs.Orders.{Order}
use Rattle.model.specs.Intervals.{setting_of, fans_present}
use Rattle.model.specs.Answers.{FirstClass, above_top, too_fast}
use Rattle.model.proofs.Sets.{weight_alike}
use Rattle.model.proofs.FanTime.{P-alike}
use Rattle.model.proofs.NextClass.{next_unique}
use Rattle.model.proofs.Orders.{Fit}
use Rattle.model.proofs.Answers.{first_next, no_doses}
use Rattle.model.proofs.Answers as model
use Rattle.model.proofs.Planner.{W-most, time_most}
use Rattle.classes.specs.declared.Tally.{Tally}
use Rattle.classes.specs.declared.TooFast.{TooFast}
use Rattle.classes.specs.Phase.{classes_in}
use Rattle.classes.specs.Answer.{ClassesOf, nine, AgainstTop}

module _ {o : Order} (fit : Fit o) where
  abbrev S : Setting
  S = setting_of o

  module _ {t : Tally} (c : ClassesOf o t) where
    -- no class: no dose
    pub no_first : t.class ≡ 0 → (A : Doses) → FirstClass o A → ⊥
    no_first e A f = let r = f.some in omega (arith, r.1, no_doses o t.class (classes_in t) c.classes e)

    module _ (some : 0 < t.class) where
      abbrev C : ℕ → Doses
      C = classes_in t

      first : FirstClass o (C 0)
      first = first_next o t.class C c.classes some

      pub first_weight : get_or t.weight 0 0 ≡ W S (C 0)
      first_weight = c.weight 0 some

      pub first_time : get_or t.time 0 0 ≡ P S (fans_present o) (C 0)
      first_time = c.time 0 some ∙ model.first_time o t.class C c.classes

      pub weight_fit : get_or t.weight 0 0 ≤ most_weight
      weight_fit = omega (arith, first_weight, W-most o fit t.class C (C 0))

      pub time_fit : get_or t.time 0 0 ≤ 1000000000
      time_fit = omega (arith, c.time 0 some, time_most o fit t.class C 0)

      -- any first class is this one
      pub slow_if : get_or t.weight 0 0 * o.top_seconds ≤ get_or t.time 0 0 * o.top_grams → (A : Doses) → FirstClass o A → T (above_top o A) → ⊥
      slow_if h A f u =
          let same = next_unique S (fans_present o) (λ k. true) A (C 0) f first in
          omega (
            arith,
            ltb→lt (P S (fans_present o) A * o.top_grams) (W S A * o.top_seconds) u,
            ap (λ (y : ℕ). y * o.top_seconds) (weight_alike S.doses S.grams A (C 0) same),
            ap (λ (y : ℕ). y * o.top_grams) (P-alike S (fans_present o) A (C 0) same),
            ap (λ (y : ℕ). y * o.top_seconds) first_weight,
            ap (λ (y : ℕ). y * o.top_grams) first_time,
          )

      -- the answer where it is above
      above_if : get_or t.time 0 0 * o.top_grams < get_or t.weight 0 0 * o.top_seconds → T (above_top o (C 0))
      above_if h =
          lt→ltb (P S (fans_present o) (C 0) * o.top_grams) (W S (C 0) * o.top_seconds)
          (omega (arith, ap (λ (y : ℕ). y * o.top_seconds) first_weight, ap (λ (y : ℕ). y * o.top_grams) first_time))

      pub too_fast_above : (set : ℕ) → set ≡ set_number S.doses (C 0) → get_or t.time 0 0 * o.top_grams < get_or t.weight 0 0 * o.top_seconds
          → AgainstTop o (Some (record { set = set; weight = get_or t.weight 0 0; time = get_or t.time 0 0 }))
      too_fast_above set e h = record {
        slow = λ z. absurd (cc);
        above = λ f z. subst (λ (f : TooFast). (A : Doses) × FirstClass o A × T (above_top o A) × (nine f ≡ too_fast o A)) (same_Some _ f z)
            (C 0, first, above_if h, rw (e, first_weight, first_time));
      }

    pub too_fast_not : ((A : Doses) → FirstClass o A → T (above_top o A) → ⊥) → AgainstTop o None
    too_fast_not slow = record { slow = λ z. slow; above = λ f z. absurd (none-some f z) }
