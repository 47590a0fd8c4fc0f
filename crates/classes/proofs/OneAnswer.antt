-- Two answers of a function of `classes` are equal: tallies, the table of reservations, and refusal 9. The sequence of the first fill is in Ranks.
-- Assumes nothing.
use mathlib.Core.Bool.{Bool, true, false}
use mathlib.Core.List.{List, []}
use mathlib.Core.Path.{◌≡◌, refl, sym, ap, ◌∙◌, fun_ext}
use Prim.Native.Nat.{ℕ, ◌+◌, ◌^◌, ◌<◌}
use native.Mathlib.Omega.{arith}
use lib.Dec.{eqb→eq}
use lib.ListN.{length, get_or}
use Rattle.std.specs.Prelude.{Option, Some, None}
use Rattle.model.specs.Limits.{most_doses, most_intervals}
use Rattle.model.specs.Sets.{Doses}
use Rattle.model.specs.Classes.{Setting, Row, P, free}
use Rattle.model.specs.Orders.{Order}
use Rattle.model.specs.Intervals.{setting_of, fans_present}
use Rattle.model.specs.Answers.{Answer, FirstClass, too_fast}
use Rattle.model.proofs.Sets.{Alike, alike_sub, weight_alike}
use Rattle.model.proofs.FanTime.{P-alike, open_fans-alike}
use Rattle.model.proofs.NextClass.{next_unique}
use Rattle.model.proofs.Sequence.{classes_unique, count_unique, free_alike, all_in_lem, upto_find}
use Rattle.steps.proofs.Tests.{alike, below_or}
use Rattle.steps.proofs.Arrays.{places_one}
use Rattle.classes.specs.declared.Tally.{Tally}
use Rattle.classes.specs.declared.TooFast.{TooFast}
use Rattle.classes.specs.Phase.{row_at, classes_in, Start, After}
use Rattle.classes.specs.Answer.{ClassesOf, SharesOf, nine, AgainstTop}

-- ---- tallies and tables

-- arrays of 24 places
pub record Sized (t : Tally) : Type 0 where
  pub remaining : length t.remaining ≡ most_doses
  pub numbers : length t.numbers ≡ most_doses
  pub weight : length t.weight ≡ most_doses
  pub time : length t.time ≡ most_doses

-- tallies that agree in every place are one
module _ {t t' : Tally} (l : Sized t) (l' : Sized t') where
  tally_one : t.class ≡ t'.class → t.classed ≡ t'.classed → ((k : ℕ) → k < most_doses → get_or t.remaining k false ≡ get_or t'.remaining k false)
      → ((k : ℕ) → k < most_doses → get_or t.numbers k 0 ≡ get_or t'.numbers k 0) → ((i : ℕ) → i < most_doses → get_or t.weight i 0 ≡ get_or t'.weight i 0)
      → ((i : ℕ) → i < most_doses → get_or t.time i 0 ≡ get_or t'.time i 0) → t ≡ t'
  tally_one c d r n g p =
      let r' = places_one false most_doses l.remaining l'.remaining r in
      let n' = places_one 0 most_doses l.numbers l'.numbers n in
      let g' = places_one 0 most_doses l.weight l'.weight g in
      let p' = places_one 0 most_doses l.time l'.time p in
      λ i. record { remaining = r' i; class = c i; classed = d i; numbers = n' i; weight = g' i; time = p' i }

  -- two answers of `Tally::start`
  pub start_one : (n : ℕ) → Start n t → Start n t' → t ≡ t'
  start_one n a b = tally_one
      (a.class ∙ sym b.class)
      (a.classed ∙ sym b.classed)
      (λ k q. a.remaining k q ∙ sym (b.remaining k q))
      (λ k q. ap (λ (m : List ℕ). get_or m k 0) (a.numbers ∙ sym b.numbers))
      (λ i q. ap (λ (m : List ℕ). get_or m i 0) (a.weight ∙ sym b.weight))
      (λ i q. ap (λ (m : List ℕ). get_or m i 0) (a.time ∙ sym b.time))

  -- two answers of `Tally::after`
  pub after_one : (n : ℕ) (members : List Bool) (w p : ℕ) (before : Tally) → After n members w p before t → After n members w p before t' → t ≡ t'
  after_one n members w p before a b = tally_one
      (a.class ∙ sym b.class)
      (a.classed ∙ sym b.classed)
      (λ k q. a.remaining k q ∙ sym (b.remaining k q))
      (λ k q. a.numbers k q ∙ sym (b.numbers k q))
      (λ i q. alike i before.class (λ e. rw e (a.weight ∙ sym b.weight)) (λ e. a.other_weight i e ∙ sym (b.other_weight i e)))
      (λ i q. alike i before.class (λ e. rw e (a.time ∙ sym b.time)) (λ e. a.other_time i e ∙ sym (b.other_time i e)))

-- 24 rows of 47 places
pub record Tabled (table : List (List ℕ)) : Type 0 where
  pub rows : length table ≡ most_doses
  pub places : (i : ℕ) → i < most_doses → length (get_or table i []) ≡ most_intervals

table_one : {table table' : List (List ℕ)} → Tabled table → Tabled table' → ((i j : ℕ) → i < most_doses → j < most_intervals → row_at table i j ≡ row_at table' i j) → table ≡ table'
table_one l l' h = places_one [] most_doses l.rows l'.rows (λ i q. places_one 0 most_intervals (l.places i q) (l'.places i q) (λ j r. h i j q r))

-- ---- the classes of an order

module _ (o : Order) where
  abbrev S : Setting
  S = setting_of o

  abbrev F : Row
  F = fans_present o

  module _ (t t' : Tally) (c : ClassesOf o t) (c' : ClassesOf o t') where
    pub one_count : t.class ≡ t'.class
    one_count = count_unique S F t.class t'.class (classes_in t) (classes_in t') c.classes c'.classes

    one_class : (i : ℕ) → i < t.class → Alike S.doses (classes_in t i) (classes_in t' i)
    one_class i q = classes_unique S F t.class t'.class (classes_in t) (classes_in t') c.classes c'.classes i q (omega (arith, one_count))

    pub one_number : (k : ℕ) → k < S.doses → get_or t.numbers k 0 ≡ get_or t'.numbers k 0
    one_number k q =
        let r = upto_find (classes_in t) t.class k (all_in_lem S F t.class (classes_in t) c.classes k q) in
        eqb→eq (get_or t.numbers k 0) (r.0 + 1) r.2
        ∙ sym (eqb→eq (get_or t'.numbers k 0) (r.0 + 1) (alike_sub S.doses (classes_in t r.0) (classes_in t' r.0) (one_class r.0 r.1) k q r.2))

    pub one_weight : (i : ℕ) → i < t.class → get_or t.weight i 0 ≡ get_or t'.weight i 0
    one_weight i q = c.weight i q ∙ weight_alike S.doses S.grams _ _ (one_class i q) ∙ sym (c'.weight i (omega (arith, one_count)))

    pub one_time : (i : ℕ) → i < t.class → get_or t.time i 0 ≡ get_or t'.time i 0
    one_time i q =
        c.time i q
        ∙ ap (λ (row : Row). P S row (classes_in t i)) (fun_ext (free_alike S F (classes_in t) (classes_in t') i (λ l m. one_class l (omega arith))))
        ∙ P-alike S (free S F (classes_in t') i) (classes_in t i) (classes_in t' i) (one_class i q)
        ∙ sym (c'.time i (omega (arith, one_count)))

    -- and past the doses, the intervals and the classes there is nothing: every cell but the shares is settled
    module _ (table table' : List (List ℕ)) (shares shares' : List ℕ) (s : SharesOf o t table shares) (s' : SharesOf o t' table' shares') where
      one_row : (i j : ℕ) → j < most_intervals → row_at table i j ≡ row_at table' i j
      one_row i j q =
          below_or i t.class
          (λ l. below_or j S.intervals
          (λ m. s.rows i j l m
          ∙ open_fans-alike S (free S F (classes_in t) i) (free S F (classes_in t') i) (classes_in t i) (classes_in t' i) j
          (free_alike S F (classes_in t) (classes_in t') i (λ h g. one_class h (omega arith)) j) (one_class i l)
          ∙ sym (s'.rows i j (omega (arith, one_count)) m))
          (λ g. s.past.no_column i j l g q ∙ sym (s'.past.no_column i j (omega (arith, one_count)) g q)))
          (λ g. s.past.no_row i j g ∙ sym (s'.past.no_row i j (omega (arith, one_count))))

      -- two answers of `classes_of`
      pub one_answer : Sized t → Sized t' → Tabled table → Tabled table' → (t ≡ t') × (table ≡ table')
      one_answer l l' m m' = (
        tally_one l l'
            one_count
            (c.classed ∙ sym c'.classed)
            (λ k q. below_or k S.doses (λ h. c.no_rest k h ∙ sym (c'.no_rest k h)) (λ g. s.past.no_rest k g q ∙ sym (s'.past.no_rest k g q)))
            (λ k q. below_or k S.doses (one_number k) (λ g. s.past.no_number k g q ∙ sym (s'.past.no_number k g q)))
            (λ i q. below_or i t.class (one_weight i) (λ g. s.past.no_weight i g ∙ sym (s'.past.no_weight i (omega (arith, one_count)))))
            (λ i q. below_or i t.class (one_time i) (λ g. s.past.no_time i g ∙ sym (s'.past.no_time i (omega (arith, one_count))))),
        table_one m m' (λ i j q r. one_row i j r),
      )

  -- ---- refusal 9

  same_nine : (A B : Doses) → FirstClass o A → FirstClass o B → too_fast o A ≡ too_fast o B
  same_nine A B f g =
      let e = next_unique S F (λ k. true) A B f g in
      rw (weight_alike S.doses (λ k. 2 ^ k) A B e, weight_alike S.doses S.grams A B e, P-alike S F A B e)

  same_made : {s s' g g' p p' : ℕ} → s ≡ s' → g ≡ g' → p ≡ p'
      → ◌≡◌ {A = TooFast} (record { set = s; weight = g; time = p }) (record { set = s'; weight = g'; time = p' })
  same_made f h q = rw (f, h, q)

  same_parts : (f f' : TooFast) → nine f ≡ nine f' → f ≡ f'
  same_parts f f' e = same_made (ap (λ (a : Answer). a.set) e) (ap (λ (a : Answer). a.weight) e) (ap (λ (a : Answer). a.time) e)

  pub one_nine : (r r' : Option TooFast) → AgainstTop o r → AgainstTop o r' → r ≡ r'
  one_nine None None a a' = refl
  one_nine (Some f) None a a' = let g = a.above f refl in absurd (a'.slow refl g.0 g.1 g.2)
  one_nine None (Some f') a a' = let g = a'.above f' refl in absurd (a.slow refl g.0 g.1 g.2)
  one_nine (Some f) (Some f') a a' =
      let g = a.above f refl in
      let g' = a'.above f' refl in
      ap (λ (f : TooFast). Some f) (same_parts f f' (g.3 ∙ same_nine g.0 g'.0 g.1 g'.1 ∙ sym g'.3))
