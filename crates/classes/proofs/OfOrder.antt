-- What is found in the arrays of an order is found of the order. Assumes nothing.
use mathlib.Core.List.{List}
use mathlib.Core.Path.{◌≡◌, refl, ◌∙◌}
use Prim.Native.Nat.{ℕ, ◌<◌}
use native.Mathlib.Omega.{arith}
use Rattle.model.specs.Sets.{Doses}
use Rattle.model.specs.Orders as model
use Rattle.model.specs.Classes.{Setting, Row, free}
use Rattle.model.specs.Intervals.{setting_of, fans_present}
use Rattle.model.proofs.Same.{Agree, W-same, fans_same, class_time_same, valid_same, free_same, classes_same}
use Rattle.model.proofs.Orders.{Fit}
use Rattle.measure.specs.declared.arrays.Setting as measure
use Rattle.measure.specs.Arrays.{intervals_of}
use Rattle.measure.specs.Held.{as_setting}
use Rattle.classes.specs.declared.Tally.{Tally}
use Rattle.classes.specs.Phase.{classes_in, shares_in, SoFar}
use Rattle.classes.specs.Answer.{ClassesOf, SharesOf}
use Rattle.classes.proofs.OnePhase.{so_far_end, none_remains}

module _ (o : model.Order) (fit : Fit o) (laid : measure.Setting) (a : Agree (as_setting laid) (setting_of o))
    (fans : ℕ) (ef : fans ≡ o.fans) (t : Tally) (table : List (List ℕ)) (shares : List ℕ)
    (so : SoFar (as_setting laid) (λ j. fans) t table shares) (e : t.classed ≡ laid.order.count) where
  abbrev S : Setting
  S = as_setting laid

  abbrev J : ℕ
  J = intervals_of laid.instants

  abbrev F : Row
  F j = fans

  abbrev C : ℕ → Doses
  C = classes_in t

  -- the fans that the first classes leave
  frees : (i j : ℕ) → j < J → free S F C i j ≡ free (setting_of o) (fans_present o) C i j
  frees = free_same S (setting_of o) a F (fans_present o) (λ j q. ef) C

  classes_found : ClassesOf o t
  classes_found = record {
    classes = classes_same S (setting_of o) a F (fans_present o) (λ j q. ef) C t.class (so_far_end laid F t table shares so e);
    weight = λ i q. so.weight i q ∙ W-same S (setting_of o) a (C i) (C i) (λ k l. refl);
    time = λ i q. so.time i q ∙ class_time_same S (setting_of o) a F (fans_present o) (λ j m. ef) C i;
    classed = e ∙ a.doses;
    no_rest = λ k l. none_remains laid F t table shares so e k (omega (arith, a.doses));
  }

  shares_found : SharesOf o t table shares
  shares_found = record {
    rows = λ i j q m. let j< : j < J = omega (arith, a.intervals) in
        so.rows i j q j< ∙ fans_same S (setting_of o) a (free S F C i) _ (frees i) (C i) (C i) (λ k l. refl) j j<;
    valid = λ i q. valid_same S (setting_of o) a (free S F C i) _ (frees i) (C i) (C i) (λ k l. refl)
        (shares_in t shares i) (shares_in t shares i) (λ k j l m. refl) (so.valid i q);
    past = rw (a.doses, a.intervals) at so.past;
  }

  -- when no dose remains
  pub of_order : ClassesOf o t × SharesOf o t table shares
  of_order = (classes_found, shares_found)
