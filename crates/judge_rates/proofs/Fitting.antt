-- What is worked out for class i of the sets that the slots name: whether its C record fits, and the fans that it leaves. Assumes nothing.
use mathlib.Core.Bool.{Bool, false}
use mathlib.Core.List.{List}
use mathlib.Core.Path.{◌≡◌, ◌∙◌, sym}
use Prim.Native.Nat.{ℕ, ◌+◌, ◌-◌, ◌*◌, ◌<◌, ◌≤◌}
use native.Mathlib.Omega.{arith}
use lib.ListN.{get_or}
use Rattle.model.specs.Limits.{most_doses, most_instants, most_intervals}
use Rattle.model.specs.Sets.{Doses, sum, weight}
use Rattle.model.specs.Classes.{Row, Setting, free}
use Rattle.model.specs.Plans.{Class}
use Rattle.model.proofs.Sets.{Alike, weight_alike}
use Rattle.order.specs.declared.Order.{Order}
use Rattle.interval.specs.declared.Instants.{Instants}
use Rattle.interval.specs.Held.{span_in}
use Rattle.measure.specs.Arrays.{grams_of, intervals_of, set_of, sets_of, setting_by}
use Rattle.measure.specs.Measure.{Measured, Opens}
use Rattle.measure.proofs.Laws.{measured}
use Rattle.measure.proofs.Free.{Frees, frees_next}
use Rattle.judge_clauses.specs.Tests.{ClassFits, Says, Tells, order_held}
use Rattle.judge_clauses.proofs.Tell.{tells_by}

-- what was worked out for class i: `set` marks its doses, `fans` has what the earlier classes leave, and the rest comes of these
pub record WorkedOut (o : Order) (s : Instants) (numbers : List ℕ) (i : ℕ) (fans : List ℕ) (set : List Bool) (open-fans : List ℕ) (size w p : ℕ) : Type 0 where
  pub few_doses : o.count ≤ most_doses
  pub few_instants : s.count ≤ most_instants
  pub left : Frees (setting_by o s) (λ j. o.fans) (sets_of numbers) i fans
  pub marked : (k : ℕ) → k < most_doses → get_or set k false ≡ sets_of numbers i k
  pub opened : Opens o s set fans open-fans
  pub counted : size ≡ weight o.count (λ k. 1) (set_of set)
  pub weighed : w ≡ weight o.count (grams_of o) (set_of set)
  pub timed : p ≡ sum (intervals_of s) (λ j. span_in s j * get_or open-fans j 0)

pub worked_out : (o : Order) (s : Instants) (numbers : List ℕ) {i : ℕ} {fans : List ℕ} {set : List Bool} {open-fans : List ℕ} {size w p : ℕ}
    → o.count ≤ most_doses → s.count ≤ most_instants → Frees (setting_by o s) (λ j. o.fans) (sets_of numbers) i fans
    → ((k : ℕ) → k < most_doses → get_or set k false ≡ sets_of numbers i k) → Opens o s set fans open-fans
    → size ≡ weight o.count (λ k. 1) (set_of set) → w ≡ weight o.count (grams_of o) (set_of set)
    → p ≡ sum (intervals_of s) (λ j. span_in s j * get_or open-fans j 0) → WorkedOut o s numbers i fans set open-fans size w p
worked_out o s numbers few-doses few-instants left marked opened counted weighed timed = record {
  few_doses = few-doses;
  few_instants = few-instants;
  left = left;
  marked = marked;
  opened = opened;
  counted = counted;
  weighed = weighed;
  timed = timed;
}

module _ {o : Order} {s : Instants} {numbers : List ℕ} {i : ℕ} {fans : List ℕ} {set : List Bool} {open-fans : List ℕ} {size w p : ℕ}
    (out : WorkedOut o s numbers i fans set open-fans size w p) where
  abbrev S : Setting
  S = setting_by o s

  abbrev C : ℕ → Doses
  C = sets_of numbers

  abbrev F : Row
  F j = o.fans

  marks : Alike o.count (set_of set) (C i)
  marks k l = out.marked k (omega (arith, out.few_doses))

  measures : Measured S (free S F C i) (C i) w p open-fans
  measures = measured o s (C i) set marks (free S F C i) fans out.left.left open-fans w p out.opened out.weighed out.timed

  -- a C record that says so is the class's
  pub says_fits : {r : Bool} (c : Class) → Tells r (Says c i size w p) → Tells r (ClassFits (order_held o s) numbers i c)
  says_fits c tells =
      let doses = out.counted ∙ weight_alike o.count (λ k. 1) (set_of set) (C i) marks in
      let weight = measures.weight in
      let time = measures.time in
      tells_by tells
      (λ x. record { number = x.number; doses = x.doses ∙ doses; some = x.some; weight = x.weighs ∙ weight; time = x.lasts ∙ time })
      (λ f. record { number = f.number; doses = f.doses ∙ sym doses; some = f.some; weighs = f.weight ∙ sym weight; lasts = f.time ∙ sym time })

  -- and the next class has the fans that are left
  pub frees_after : (next : List ℕ) → ((j : ℕ) → j < most_intervals → get_or next j 0 ≡ get_or fans j 0 - get_or open-fans j 0) → Frees S F C (i + 1) next
  frees_after next e = frees_next S F C i fans open-fans next out.left measures.fans (λ j l. e j (omega (arith, out.few_instants)))
