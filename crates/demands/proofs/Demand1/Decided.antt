-- Whether plan bytes stand for an order that fits is decided: its classes are known, and each clause of "A plan stands" is a bounded question.
use mathlib.Core.Bool.{Bool, true, false}
use mathlib.Core.Logic.Dec
use mathlib.Core.Logic.{◌⊎◌, inl, inr}
use mathlib.Core.Path.{◌≡◌, refl, sym, ap, subst, ◌∙◌}
use mathlib.Core.List.{List, [], ◌∷◌}
use Prim.Native.Nat.{ℕ, zero, suc, ◌+◌, ◌*◌, ◌≤◌, ◌<◌}
use native.Mathlib.Decide.{dec_le, dec_lt, map_dec, ℕ_discrete}
use native.Mathlib.Omega.{arith}
use lib.Dec.{T}
use lib.ListN.{length, get_or-eq_default}
use Rattle.model.specs.Sets.{Doses}
use Rattle.model.specs.Lists.{All, none, also, Pairs, lone, then, total}
use Rattle.model.specs.Records.{Reading, read, refused}
use Rattle.model.specs.Orders.{Order, dose_at}
use Rattle.model.specs.Classes.{Classes, Setting, W, class_p}
use Rattle.model.specs.Intervals.{fans_present, instant_at, instants, interval_count, setting_of}
use Rattle.model.specs.Plans.{Class, PlanRecord, Slot, class_record, plan_of, plan_records, slot_record, slots_in}
use Rattle.model.specs.Layout.{classes_of}
use Rattle.model.specs.Stands.{Between, EndsBy, InInterval, InOrder, Named, NoOverlap, SlotsStand, Stands, by_fan, by_interval, by_start, ends, starts, units_of}
use Rattle.model.proofs.Sums.{last}
use Rattle.model.proofs.Fractions.{compare≤}
use Rattle.model.proofs.Lists.{All-imp}
use Rattle.model.proofs.Plans.{slots_planned}
use Rattle.model.proofs.Orders.{Fit}
use Rattle.model.proofs.Readings.{no_refusal}
use Rattle.demands.proofs.Existence.{classes_of_lem}
use Rattle.model.proofs.Standing.{same_member, same_rate}
use Rattle.demands.proofs.Demand1.Agreeing.{classes_alike}

-- ---- questions made of questions

module _ {A B : Type 0} where
  -- either
  dec_or : Dec A → Dec B → Dec (A ⊎ B)
  dec_or (yes a) d = yes (inl a)
  dec_or (no h) (yes b) = yes (inr b)
  dec_or (no h) (no g) = no (λ s. elim s [ inl a ↦ h a | inr b ↦ g b ])

  -- if the one, then the other
  dec_then : Dec A → Dec B → Dec (A → B)
  dec_then d (yes b) = yes (λ a. b)
  dec_then (yes a) (no g) = no (λ f. g (f a))
  dec_then (no h) (no g) = yes (λ a. absurd (h a))

-- a test
dec_test : (b : Bool) → Dec (T b)
dec_test true = yes tt
dec_test false = no (λ t. t)

module _ (Q : ℕ → Type 0) (d : (k : ℕ) → Dec (Q k)) where
  -- for some number below n
  dec_some : (n : ℕ) → Dec ((k : ℕ) × (k < n) × Q k)
  dec_some zero = no (λ r. omega (arith, r.1))
  dec_some (suc n) = step (d n) (dec_some n)
    where
      step : Dec (Q n) → Dec ((k : ℕ) × (k < n) × Q k) → Dec ((k : ℕ) × (k < suc n) × Q k)
      step (yes q) e = yes (n, omega arith, q)
      step (no h) (yes r) = yes (r.0, omega (arith, r.1), r.2)
      step (no h) (no g) = no (λ r. elim (last r.1) [ inl z ↦ h (subst Q z r.2) | inr l ↦ g (r.0, l, r.2) ])

  -- for every number below n
  dec_every : (n : ℕ) → Dec ((k : ℕ) → k < n → Q k)
  dec_every zero = yes (λ k l. absurd (omega arith))
  dec_every (suc n) = step (d n) (dec_every n)
    where
      step : Dec (Q n) → Dec ((k : ℕ) → k < n → Q k) → Dec ((k : ℕ) → k < suc n → Q k)
      step (yes q) (yes f) = yes (λ k l. elim (last l) [ inl z ↦ subst Q (sym z) q | inr m ↦ f k m ])
      step (yes q) (no g) = no (λ f. g (λ k l. f k (omega arith)))
      step (no h) e = no (λ f. h (f n (omega arith)))

module _ {A : Type 0} where
  -- of every member of a list, P being known of each
  dec_all : {P Q : A → Type 0} → ((a : A) → P a → Dec (Q a)) → {l : List A} → All P l → Dec (All Q l)
  dec_all f none = yes none
  dec_all {P} {Q} f (also {a = a} {l = l} p h) = step (f a p) (dec_all f h)
    where
      step : Dec (Q a) → Dec (All Q l) → Dec (All Q (a ∷ l))
      step (yes q) (yes r) = yes (also q r)
      step (yes q) (no g) = no (λ r. g (rest r))
        where
          rest : All Q (a ∷ l) → All Q l
          rest (also x y) = y
      step (no g) e = no (λ r. g (first r))
        where
          first : All Q (a ∷ l) → Q a
          first (also x y) = x

  -- of every two
  dec_pairs : {P : A → Type 0} {R : A → A → Type 0} → ((a b : A) → P a → P b → Dec (R a b)) → {l : List A} → All P l → Dec (Pairs R l)
  dec_pairs f none = yes lone
  dec_pairs {P} {R} f (also {a = a} {l = l} p h) = step (dec_all (λ b q. f a b p q) h) (dec_pairs f h)
    where
      step : Dec (All (R a) l) → Dec (Pairs R l) → Dec (Pairs R (a ∷ l))
      step (yes q) (yes r) = yes (then q r)
      step (yes q) (no g) = no (λ r. g (rest r))
        where
          rest : Pairs R (a ∷ l) → Pairs R l
          rest (then x y) = y
      step (no g) e = no (λ r. g (first r))
        where
          first : Pairs R (a ∷ l) → All (R a) l
          first (then x y) = x

-- a list, nothing being known of its members
all_units : {A : Type 0} (l : List A) → All (λ a. Unit {0}) l
all_units [] = none
all_units (a ∷ l) = also tt (all_units l)

-- ---- the records

dec_class : (c c' : Class) → Dec (c ≡ c')
dec_class c c' =
    map_dec
    (λ r. λ t. record { number = r.0 t; doses = r.1.0 t; weight = r.1.1.0 t; time = r.1.1.1 t })
    (λ e. (ap (λ (x : Class). x.number) e, (ap (λ (x : Class). x.doses) e, (ap (λ (x : Class). x.weight) e, ap (λ (x : Class). x.time) e))))
    (Dec.and (ℕ_discrete c.number c'.number) (Dec.and (ℕ_discrete c.doses c'.doses) (Dec.and (ℕ_discrete c.weight c'.weight) (ℕ_discrete c.time c'.time))))

-- records are those classes, and slots behind them
dec_records : (classes : List Class) (rs : List PlanRecord) → Dec ((slots : List Slot) × (rs ≡ plan_of classes slots))
dec_records [] [] = yes ([], refl)
dec_records [] (class_record c ∷ rs) = no (λ r. never r.0 r.1)
  where
    never : (slots : List Slot) → class_record c ∷ rs ≡ plan_of [] slots → ⊥
    never [] e = let z : ◌≡◌ {A = ℕ} 0 1 = cc in omega arith
    never (s ∷ slots) e = let z : ◌≡◌ {A = ℕ} 0 1 = cc in omega arith
dec_records [] (slot_record s ∷ rs) = map_dec (λ r. (s ∷ r.0, ap (λ (l : List PlanRecord). slot_record s ∷ l) r.1)) (λ r. back r.0 r.1) (dec_records [] rs)
  where
    back : (slots : List Slot) → slot_record s ∷ rs ≡ plan_of [] slots → (slots : List Slot) × (rs ≡ plan_of [] slots)
    back [] e = let z : ◌≡◌ {A = ℕ} 0 1 = cc in absurd (omega arith)
    back (u ∷ slots) e = (slots, cc)
dec_records (c ∷ classes) [] = no (λ r. let e = r.1 in let z : ◌≡◌ {A = ℕ} 0 1 = cc in omega arith)
dec_records (c ∷ classes) (slot_record s ∷ rs) = no (λ r. let e = r.1 in let z : ◌≡◌ {A = ℕ} 0 1 = cc in omega arith)
dec_records (c ∷ classes) (class_record c' ∷ rs) =
    map_dec (λ r. let f = r.0 in let g = r.1.1 in (r.1.0, cc)) (λ r. let e = r.1 in (cc, (r.0, cc))) (Dec.and (dec_class c' c) (dec_records classes rs))

-- ---- the slots

dec_between : (from to : ℕ) (s : Slot) → Dec (Between from to s)
dec_between from to s =
    map_dec (λ r. record { low = r.0; high = r.1 }) (λ b. (b.low, b.high)) (Dec.and (dec_le (from * s.weight) (starts s)) (dec_le (ends s) (to * s.weight)))

dec_apart : (s u : Slot) → Dec (NoOverlap s u)
dec_apart s u = dec_or (ends_by s u) (ends_by u s)
  where
    ends_by : (s u : Slot) → Dec (EndsBy s u)
    ends_by s u = map_dec (λ h. record { by = h }) (λ e. e.by) (dec_le (ends s * u.weight) (starts u * s.weight))

module _ (o : Order) where
  abbrev S : Setting
  S = setting_of o

  abbrev J : ℕ
  J = interval_count o

  -- a slot that ends after 0 lies in no interval past the last
  in_intervals : (j : ℕ) (s : Slot) → starts s < ends s → InInterval o j s → j < J
  in_intervals j s l b = elim (compare≤ (length (instants o.doses)) (j + 1)) [
    | inl h ↦ absurd (omega (arith, b.high, ap (λ (t : ℕ). t * s.weight) (get_or-eq_default (instants o.doses) 0 h)))
    | inr h ↦ omega arith
  ]

  module _ (p : ℕ) (C : ℕ → Doses) where
    -- a slot's class
    abbrev OfClass : Slot → ℕ → Type 0
    OfClass s i = (s.class ≡ i + 1) × (T (C i s.dose) × ((s.weight ≡ W S (C i)) × (s.time ≡ class_p S (fans_present o) C i)))

    -- what it has by itself
    abbrev ByItself : Slot → Type 0
    ByItself s =
        (s.dose < S.doses) × ((1 ≤ s.fan) × ((s.fan ≤ o.fans) × ((s.start_part < s.weight) × ((s.end_part < s.weight) × ((starts s < ends s)
        × Between (dose_at o s.dose).release (dose_at o s.dose).deadline s)))))

    dec_named : (s : Slot) → Dec (Named o p C s)
    dec_named s =
        map_dec
        (λ r. record {
          dose = r.0.0;
          class = r.1.0.0;
          number = r.1.0.2.0;
          known = r.1.0.1;
          member = r.1.0.2.1.0;
          weight = r.1.0.2.1.1.0;
          time = r.1.0.2.1.1.1;
          fan_from = r.0.1.0;
          fan_to = r.0.1.1.0;
          start_part = r.0.1.1.1.0;
          end_part = r.0.1.1.1.1.0;
          long = r.0.1.1.1.1.1.0;
          window = r.0.1.1.1.1.1.1;
          interval = r.1.1.0;
          in_order = r.1.1.1;
          in_interval = r.1.1.2;
        })
        (λ n. (
          (n.dose, (n.fan_from, (n.fan_to, (n.start_part, (n.end_part, (n.long, n.window)))))),
          ((n.class, n.known, (n.number, (n.member, (n.weight, n.time)))), (n.interval, n.in_order, n.in_interval)),
        ))
        (Dec.and by_itself (Dec.and (dec_some (OfClass s) of_class_lem p) (dec_some (λ j. InInterval o j s) (λ j. dec_between _ _ s) J)))
      where
        of_class_lem : (i : ℕ) → Dec (OfClass s i)
        of_class_lem i =
            Dec.and (ℕ_discrete s.class (i + 1)) (Dec.and (dec_test (C i s.dose))
            (Dec.and (ℕ_discrete s.weight (W S (C i))) (ℕ_discrete s.time (class_p S (fans_present o) C i))))

        by_itself : Dec (ByItself s)
        by_itself =
            Dec.and (dec_lt s.dose S.doses) (Dec.and (dec_le 1 s.fan) (Dec.and (dec_le s.fan o.fans) (Dec.and (dec_lt s.start_part s.weight)
            (Dec.and (dec_lt s.end_part s.weight) (Dec.and (dec_lt (starts s) (ends s)) (dec_between _ _ s))))))

    -- two slots in one interval, by fan or by start
    abbrev Behind : Slot → Slot → ℕ → Type 0
    Behind s u j =
        InInterval o j s × (InInterval o j u × ((s.fan < u.fan) ⊎ ((s.fan ≡ u.fan) × (starts s * u.weight < starts u * s.weight))))

    -- or in two
    abbrev Later : Slot → Slot → ℕ → ℕ → Type 0
    Later s u i j = (i < j) × (InInterval o i s × InInterval o j u)

    dec_order : (s u : Slot) → Named o p C s → Named o p C u → Dec (InOrder o s u)
    dec_order s u n m =
        map_dec from to
        (dec_or (dec_some (λ i. (j : ℕ) × (j < J) × Later s u i j) (λ i. dec_some (Later s u i) (later i) J) J) (dec_some (Behind s u) behind J))
      where
        at : (j : ℕ) (s : Slot) → Dec (InInterval o j s)
        at j s = dec_between (instant_at o j) (instant_at o (j + 1)) s

        later : (i j : ℕ) → Dec (Later s u i j)
        later i j = Dec.and (dec_lt i j) (Dec.and (at i s) (at j u))

        behind : (j : ℕ) → Dec (Behind s u j)
        behind j =
            Dec.and (at j s) (Dec.and (at j u)
            (dec_or (dec_lt s.fan u.fan) (Dec.and (ℕ_discrete s.fan u.fan) (dec_lt (starts s * u.weight) (starts u * s.weight)))))

        from : ((i : ℕ) × (i < J) × ((j : ℕ) × (j < J) × Later s u i j)) ⊎ ((j : ℕ) × (j < J) × Behind s u j) → InOrder o s u
        from (inl r) = let q = r.2 in by_interval r.0 q.0 q.2.0 q.2.1.0 q.2.1.1
        from (inr r) = elim r.2.1.1 [ inl f ↦ by_fan r.0 r.2.0 r.2.1.0 f | inr f ↦ by_start r.0 r.2.0 r.2.1.0 f.0 f.1 ]

        to : InOrder o s u → ((i : ℕ) × (i < J) × ((j : ℕ) × (j < J) × Later s u i j)) ⊎ ((j : ℕ) × (j < J) × Behind s u j)
        to (by_interval i j l a b) = inl (i, in_intervals i s n.long a, (j, in_intervals j u m.long b, (l, (a, b))))
        to (by_fan j a b f) = inr (j, in_intervals j s n.long a, (a, (b, inl f)))
        to (by_start j a b f g) = inr (j, in_intervals j s n.long a, (a, (b, inr (f, g))))

    -- the totals of all doses
    abbrev Totals : List Slot → ℕ → ℕ → Type 0
    Totals slots i d = T (C i d) → total (units_of d) slots ≡ (dose_at o d).grams * class_p S (fans_present o) C i

    dec_stand : (slots : List Slot) → Dec (SlotsStand o p C slots)
    dec_stand slots = go (dec_all (λ s t. dec_named s) (all_units slots))
      where
        go : Dec (All (Named o p C) slots) → Dec (SlotsStand o p C slots)
        go (no h) = no (λ st. h st.named)
        go (yes named) =
            map_dec
            (λ r. record { named = named; order = r.0; fans_apart = r.1.0; doses_apart = r.1.1.0; totals = λ i d l m. r.1.1.1 i l d m })
            (λ st. (st.order, (st.fans_apart, (st.doses_apart, λ i l d m. st.totals i d l m))))
            (Dec.and (dec_pairs dec_order named) (Dec.and (dec_pairs (λ s u n m. dec_then (ℕ_discrete s.fan u.fan) (dec_apart s u)) named)
            (Dec.and (dec_pairs (λ s u n m. dec_then (ℕ_discrete s.dose u.dose) (dec_apart s u)) named)
            (dec_every (λ i. (d : ℕ) → d < S.doses → Totals slots i d)
            (λ i. dec_every (Totals slots i) (λ d. dec_then (dec_test (C i d)) (ℕ_discrete (total (units_of d) slots) ((dose_at o d).grams * class_p S (fans_present o) C i))) S.doses)
            p))))

  -- ---- one sequence of classes: a plan that stands does so for any

  module _ (p p' : ℕ) (C C' : ℕ → Doses) (c : Classes S (fans_present o) p C) (c' : Classes S (fans_present o) p' C') where
    named_alike : (s : Slot) → Named o p C s → Named o p' C' s
    named_alike s n =
        let m = same_member S (fans_present o) p p' C C' c c' n.class s.dose n.known n.dose n.member in
        let r = same_rate S (fans_present o) p p' C C' c c' n.class n.class s.dose n.known m.0 n.dose n.member m.1 in
        record {
          dose = n.dose;
          class = n.class;
          number = n.number;
          known = m.0;
          member = m.1;
          weight = n.weight ∙ r.0;
          time = n.time ∙ r.1;
          fan_from = n.fan_from;
          fan_to = n.fan_to;
          start_part = n.start_part;
          end_part = n.end_part;
          long = n.long;
          window = n.window;
          interval = n.interval;
          in_order = n.in_order;
          in_interval = n.in_interval;
        }

    stand_alike : (slots : List Slot) → SlotsStand o p C slots → SlotsStand o p' C' slots
    stand_alike slots st = record {
      named = All-imp named_alike st.named;
      order = st.order;
      fans_apart = st.fans_apart;
      doses_apart = st.doses_apart;
      totals = λ i d l m t.
          let b = same_member S (fans_present o) p' p C' C c' c i d l m t in
          st.totals i d b.0 m b.1
          ∙ ap (λ (P : ℕ). (dose_at o d).grams * P) (same_rate S (fans_present o) p p' C C' c c' i i d b.0 l m b.1 t).1;
    }

-- ---- plan bytes

-- whether plan bytes stand for an order that fits
pub dec_stands : (o : Order) → Fit o → (plan : List ℕ) → Dec (Stands o plan)
dec_stands o fit plan = go (plan_records plan) refl
  where
    p : ℕ
    p = (classes_of_lem o fit).0

    C : ℕ → Doses
    C = (classes_of_lem o fit).1

    c : Classes (setting_of o) (fans_present o) p C
    c = (classes_of_lem o fit).2

    go : (x : Reading (List PlanRecord)) → plan_records plan ≡ x → Dec (Stands o plan)
    go (refused number place) e = no (λ st. no_refusal number place _ (sym e ∙ st.records))
    go (read rs) e = records (dec_records (classes_of o p C) rs)
      where
        -- the records of a plan that stands are the classes', and its slots
        slots_of_lem : (st : Stands o plan) → rs ≡ plan_of (classes_of o p C) st.slots
        slots_of_lem st =
            let f = st.records in
            let g : rs ≡ plan_of (classes_of o st.count st.sets) st.slots = cc in
            g ∙ ap (λ (l : List Class). plan_of l st.slots) (classes_alike o st.count p st.sets C st.classes c)

        records : Dec ((slots : List Slot) × (rs ≡ plan_of (classes_of o p C) slots)) → Dec (Stands o plan)
        records (no h) = no (λ st. h (st.slots, slots_of_lem st))
        records (yes r) = map_dec
            (λ st. record { count = p; sets = C; classes = c; slots = r.0; records = e ∙ ap read r.1; stand = st })
            (λ st. subst (λ (l : List Slot). SlotsStand o p C l) (same st) (stand_alike o st.count p st.sets C st.classes c st.slots st.stand))
            (dec_stand o p C r.0)
          where
            same : (st : Stands o plan) → st.slots ≡ r.0
            same st =
                sym (slots_planned (classes_of o p C) st.slots) ∙ ap slots_in (sym (slots_of_lem st) ∙ r.1) ∙ slots_planned (classes_of o p C) r.0
