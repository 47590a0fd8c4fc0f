-- Plan bytes that pass the tests stand for the order.
use mathlib.Core.Path.{◌∙◌, ◌≡◌, ap, refl, sym}
use mathlib.Core.Bool.{not}
use mathlib.Core.Logic.{inl, inr}
use mathlib.Core.List.{List, [], ◌∷◌}
use Prim.Native.Nat.{ℕ, zero, suc, ◌+◌, ◌-◌, ◌/◌, ◌<◌, ◌≤◌}
use native.Mathlib.Nat.{add-zero, mul-lt-mul_of_pos_left}
use native.Mathlib.Numerals.{add-one}
use native.Mathlib.Omega.{arith}
use borrow.Author.Tests.{ne_eqb}
use lib.Dec.{T, T_not, eqb→eq, eqb_refl}
use lib.ListN.{get_or, length}
use Rattle.model.specs.Sets.{Doses, sum}
use Rattle.model.specs.Lists.{All, Pairs, total}
use Rattle.model.specs.Records.{record_size, read, record_at}
use Rattle.model.specs.Orders.{Order}
use Rattle.model.specs.Classes.{Classes, remaining}
use Rattle.model.specs.Intervals.{fans_present, setting_of}
use Rattle.model.specs.Layout.{class_at, classes_of}
use Rattle.model.specs.Plans.{Class, Slot, class_of, plan_of, plan_record_of, plan_records, slot_record}
use Rattle.model.specs.Stands.{InInterval, InOrder, Named, NoOverlap, SlotsStand, Stands, units_of}
use Rattle.model.specs.Stands as stands
use Rattle.model.proofs.Sums.{last, sum_congr}
use Rattle.model.proofs.Fractions.{compare≤}
use Rattle.model.proofs.Sets.{and_both, and_left, and_right, weight_pos}
use Rattle.model.proofs.Certificate.{Falling}
use Rattle.model.proofs.Orders.{Fit}
use Rattle.model.proofs.Lists.{All-of, Pairs-of, gather_at, length_singles, total_at}
use Rattle.model.proofs.PlanPieces.{no_slot}
use Rattle.model.proofs.Judging.{certified_classes, certified_stands}
use Rattle.records.specs.Plan.{class_in, slot_in}
use Rattle.judge_clauses.specs.Tests.{InTurn, Passes, OrderHeld, HeldFrom, SlotFits, by_fan, by_interval, by_time, place_in, units_up_to}
use Rattle.measure.specs.Arrays.{sets_of}
use Rattle.judge.proofs.Rows.{class_row, no_class, no_record, plan_class, plan_length, plan_slot, rows_read, slot_row}
use Rattle.judge_slots.proofs.Places.{ends_apart, turns_all}
use Rattle.judge.proofs.Held.{instants_up, same_weight, same_size, same_time}

-- the slots from record i on, n of them
unfoldable pub slots_from : List ℕ → ℕ → ℕ → List Slot
slots_from b i zero = []
slots_from b i (suc n) = slot_in b i ∷ slots_from b (suc i) n

pub length_slots : (b : List ℕ) (i n : ℕ) → length (slots_from b i n) ≡ n
unfolding slots_from
length_slots b i zero = refl
length_slots b i (suc n) = ap suc (length_slots b (suc i) n)

pub slots_at : (b : List ℕ) (i n k : ℕ) → k < n → get_or (slots_from b i n) k no_slot ≡ slot_in b (i + k)
unfolding slots_from
slots_at b i zero k l = absurd (omega arith)
slots_at b i (suc n) zero l = rw add-zero refl
slots_at b i (suc n) (suc k) l = let z : i + suc k ≡ suc i + k = omega arith in rw z (slots_at b (suc i) n k (omega arith))

-- ---- sets by number

module _ (N : List ℕ) where
  pub in_set : (i k : ℕ) → get_or N k 0 ≡ i + 1 → T (sets_of N i k)
  in_set i k e = rw e (eqb_refl (i + 1))

  stays : (i l k : ℕ) → i ≤ l → get_or N k 0 ≡ l + 1 → T (remaining (sets_of N) i k)
  unfolding remaining
  stays zero l k h e = tt
  stays (suc i) l k h e =
      and_both (remaining (sets_of N) i k) (not (sets_of N i k)) (stays i l k (omega arith) e) (rw (ne_eqb (get_or N k 0) (i + 1) (λ q. omega arith)) tt)

  gone : (i l k : ℕ) → l < i → get_or N k 0 ≡ l + 1 → T (remaining (sets_of N) i k) → ⊥
  unfolding remaining
  gone zero l k h e t = omega arith
  gone (suc i) l k h e t = elim (last h) [
    | inl q ↦ T_not (sets_of N i k) (and_right (remaining (sets_of N) i k) (not (sets_of N i k)) t) (in_set i k (omega arith))
    | inr q ↦ gone i l k q e (and_left (remaining (sets_of N) i k) (not (sets_of N i k)) t)
  ]

-- classes with the same fields are one
same_class_lem : {n d g t n' d' g' t' : ℕ} → n ≡ n' → d ≡ d' → g ≡ g' → t ≡ t'
    → ◌≡◌ {A = Class} (record { number = n; doses = d; weight = g; time = t }) (record { number = n'; doses = d'; weight = g'; time = t' })
same_class_lem a b c e = rw (a, b, c, e)

module _ (o : Order) (fit : Fit o) (h : OrderHeld) (sh : HeldFrom o h) (b : List ℕ) (p : ℕ) (N : List ℕ) (short : p ≤ length b / record_size) (q : Passes h b p N) where
  abbrev m : ℕ
  m = length b / record_size

  abbrev C : ℕ → Doses
  C = sets_of N

  abbrev slots : List Slot
  slots = slots_from b p (m - p)

  falling : Falling (setting_of o) (fans_present o) p C
  falling = record {
    nest = λ l lp k kn t. stays N l l k (omega arith) (eqb→eq _ _ t);
    some = λ i l. let f = q.classes i l in
        weight_pos (setting_of o).doses (λ k. 1) (C i) (omega (arith, f.doses, f.some, same_size o h sh (C i)));
    done = λ k kn t. let r = q.rows.numbered k (omega (arith, sh.doses)) in gone N p (get_or N k 0 - 1) k (omega (arith, r.0, r.1)) (omega (arith, r.0)) t;
    fall = λ i l.
        let c = q.classes i (omega arith) in
        let d = q.classes (suc i) l in
        let f = rw add-one at (q.rows.falls i (omega (arith, add-one i))) in
        rw (← same_weight o h sh (C i), ← same_weight o h sh (C (suc i)), ← same_time o h sh C i, ← same_time o h sh C (suc i), ← c.weight, ← c.time, ← d.weight, ← d.time) f.fall;
  }

  in_place : (i : ℕ) → i < m → p ≤ i → InInterval o (place_in h.instants h.intervals (slot_in b i)) (slot_in b i)
  in_place i l e =
      let f = q.slots i l e in
      let j = place_in h.instants h.intervals (slot_in b i) in
      let inside = f.inside.place in
      rw (sh.instants j (omega arith), sh.instants (j + 1) (omega arith)) at f.inside.interval

  named : (i : ℕ) → i < m → p ≤ i → Named o p C (slot_in b i)
  named i l e =
      let f = q.slots i l e in
      let s = slot_in b i in
      let ν = get_or N s.dose 0 in
      let r = q.rows.numbered s.dose f.dose in
      let one : ν - 1 + 1 ≡ ν = omega (arith, r.0) in
      let c = q.classes (ν - 1) (omega (arith, r.0, r.1)) in
      record {
        dose = omega (arith, f.dose, sh.doses);
        class = ν - 1;
        number = omega (arith, f.names.class);
        known = omega (arith, r.0, r.1);
        member = in_set N (ν - 1) s.dose (sym one);
        weight = f.names.weight ∙ c.weight ∙ same_weight o h sh (C (ν - 1));
        time = f.names.time ∙ c.time ∙ same_time o h sh C (ν - 1);
        fan_from = f.names.fan_from;
        fan_to = omega (arith, f.names.fan_to, sh.fans);
        start_part = f.long.start_part;
        end_part = f.long.end_part;
        long = f.long.long;
        window = rw (sh.release s.dose f.dose, sh.deadline s.dose f.dose) at f.window;
        interval = place_in h.instants h.intervals s;
        in_order = omega (arith, f.inside.place, sh.intervals);
        in_interval = in_place i l e;
      }

  turn : (i l : ℕ) → p ≤ i → i < l → l < m → InTurn h.instants h.intervals (slot_in b i) (slot_in b l)
  turn i l = turns_all h.instants h.intervals (slot_in b) p m (λ k r e. (q.slots k r e).long) q.turns l i

  -- ---- two slots

  module _ (i l : ℕ) (pi : p ≤ i) (il : i < l) (lm : l < m) where
    abbrev s : Slot
    s = slot_in b i

    abbrev u : Slot
    u = slot_in b l

    fs : SlotFits h b N s
    fs = q.slots i (omega arith) pi

    fu : SlotFits h b N u
    fu = q.slots l lm (omega arith)

    inside : InInterval o (place_in h.instants h.intervals s) s
    inside = in_place i (omega arith) pi

    inside' : InInterval o (place_in h.instants h.intervals u) u
    inside' = in_place l lm (omega arith)

    later : place_in h.instants h.intervals s < place_in h.instants h.intervals u → NoOverlap s u
    later a =
        let i = place_in h.instants h.intervals s in
        let j = place_in h.instants h.intervals u in
        let up = instants_up o h sh (i + 1) j (omega arith) (omega (arith, fu.inside.place)) in
        inl (ends_apart _ _ _ _ s u up fs.inside.interval fu.inside.interval)

    ordered : InOrder o s u
    ordered = go (turn i l pi il lm)
      where
        go : InTurn h.instants h.intervals s u → InOrder o s u
        go (by_interval a) = stands.by_interval (place_in h.instants h.intervals s) (place_in h.instants h.intervals u) a inside inside'
        go (by_fan e a) = stands.by_fan (place_in h.instants h.intervals u) (rw e at inside) inside' a
        go (by_time e f a) =
            stands.by_start (place_in h.instants h.intervals u) (rw e at inside) inside' f
            (omega (arith, a.by, mul-lt-mul_of_pos_left {k = u.weight} fs.long.long (omega (arith, fu.long.start_part))))

    fan_apart : s.fan ≡ u.fan → NoOverlap s u
    fan_apart w = go (turn i l pi il lm)
      where
        go : InTurn h.instants h.intervals s u → NoOverlap s u
        go (by_interval a) = later a
        go (by_fan e a) = absurd (omega arith)
        go (by_time e f a) = inl a

    dose_apart : s.dose ≡ u.dose → NoOverlap s u
    dose_apart w = go (turn i l pi il lm)
      where
        go : InTurn h.instants h.intervals s u → NoOverlap s u
        go (by_interval a) = later a
        go (by_fan e a) = ((q.apart i (omega arith) pi).apart l lm il e).clear w
        go (by_time e f a) = ((q.apart i (omega arith) pi).apart l lm il e).clear w

  -- ---- all slots

  slots_all : (P : Slot → Type 0) → ((i : ℕ) → i < m → p ≤ i → P (slot_in b i)) → All P slots
  slots_all P f = All-of slots no_slot (λ i l. let l' : i < m - p = omega (arith, length_slots b p (m - p)) in rw (slots_at b p (m - p) i l') (f (p + i) (omega arith) (omega arith)))

  slots_pairs : (R : Slot → Slot → Type 0) → ((i l : ℕ) → p ≤ i → i < l → l < m → R (slot_in b i) (slot_in b l)) → Pairs R slots
  slots_pairs R f =
      Pairs-of slots no_slot (λ i k il l.
      let l' : k < m - p = omega (arith, length_slots b p (m - p)) in
      rw (slots_at b p (m - p) i (omega arith), slots_at b p (m - p) k l') (f (p + i) (p + k) (omega arith) (omega arith) (omega arith)))

  units : (d : ℕ) → total (units_of d) slots ≡ units_up_to b p m d
  units d =
      total_at (units_of d) slots no_slot ∙ ap (λ (n : ℕ). sum n (λ i. units_of d (get_or slots i no_slot))) (length_slots b p (m - p))
      ∙ sum_congr (m - p) (λ i l. ap (units_of d) (slots_at b p (m - p) i l))

  stand : SlotsStand o p C slots
  stand = record {
    named = slots_all (Named o p C) named;
    order = slots_pairs (InOrder o) ordered;
    fans_apart = slots_pairs (λ s u. s.fan ≡ u.fan → NoOverlap s u) fan_apart;
    doses_apart = slots_pairs (λ s u. s.dose ≡ u.dose → NoOverlap s u) dose_apart;
    totals = λ i d ip dn t.
        let e : get_or N d 0 ≡ i + 1 = eqb→eq _ _ t in
        let f : get_or N d 0 - 1 ≡ i = omega arith in
        let dh : d < h.doses = omega (arith, sh.doses) in
        units d ∙ q.totals d dh ∙ rw (f, sh.grams d dh, (q.classes i ip).time, same_time o h sh C i);
  }

  rows : plan_records b ≡ read (plan_of (classes_of o p C) slots)
  unfolding class_in slot_in
  rows = rows_read b (plan_of (classes_of o p C) slots) q.rows.whole (omega (arith, both)) at_row
    where
      classes_long : length (classes_of o p C) ≡ p
      classes_long = length_singles p (class_at o p C)

      both : length (plan_of (classes_of o p C) slots) ≡ p + (m - p)
      both = omega (arith, plan_length (classes_of o p C) slots, classes_long, length_slots b p (m - p))

      is_class_lem : (k : ℕ) → k < p → class_of (record_at b k) ≡ class_at o p C k
      is_class_lem k l =
          let f = q.classes k l in
          same_class_lem f.number (f.doses ∙ same_size o h sh (C k)) (f.weight ∙ same_weight o h sh (C k)) (f.time ∙ same_time o h sh C k)

      at_row : (k : ℕ) → k < length (plan_of (classes_of o p C) slots) → plan_record_of (record_at b k) k ≡ read (get_or (plan_of (classes_of o p C) slots) k no_record)
      at_row k l = elim (compare≤ p k) [
        | inl g ↦
            let row = slot_row (record_at b k) k (q.rows.slot_rows k (omega (arith, both)) g) in
            let e : length (classes_of o p C) + (k - p) ≡ k = omega (arith, classes_long) in
            let z : p + (k - p) ≡ k = omega arith in
            let own = slots_at b p (m - p) (k - p) (omega (arith, both)) ∙ ap (slot_in b) z in
            let there = rw e at (plan_slot (classes_of o p C) slots no_slot (k - p) (omega (arith, length_slots b p (m - p), both))) in
            row ∙ ap read (ap slot_record (sym own) ∙ sym there)
        | inr g ↦
            class_row (record_at b k) k (q.rows.class_rows k g)
            ∙ ap read (sym (plan_class (classes_of o p C) slots k (omega (arith, classes_long)) _ (gather_at p (class_at o p C) no_class k g ∙ sym (is_class_lem k g))))
      ]

  -- the sets that the slots name are the order's classes
  pub passes_classes : Classes (setting_of o) (fans_present o) p C
  passes_classes = certified_classes o fit p C falling slots stand

  -- plan bytes that pass stand
  pub passes_stands : Stands o b
  passes_stands = certified_stands o fit p C falling slots stand b rows
