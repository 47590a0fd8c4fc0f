-- Plan bytes that stand for the order pass the tests.
use mathlib.Core.Path.{◌∙◌, ◌≡◌, ap, fun_ext, sym, subst}
use mathlib.Core.Logic.{inl, inr}
use mathlib.Core.List.{List}
use Prim.Native.Nat.{ℕ, ◌+◌, ◌-◌, ◌*◌, ◌/◌, ◌%◌, ◌<◌, ◌≤◌}
use native.Mathlib.Nat.{mul-lt-mul_of_pos_left, mul-pos}
use native.Mathlib.Omega.{arith}
use lib.Dec.{T, eqb, eqb→eq}
use lib.ListN.{get_or-eq_default, get_or, length}
use Rattle.model.specs.Sets.{Doses, sum}
use Rattle.model.specs.Lists.{total}
use Rattle.model.specs.Records.{record_size, read, record_at}
use Rattle.model.specs.Orders.{Order}
use Rattle.model.specs.Classes.{P, Row, Setting, class_p, free}
use Rattle.model.specs.Intervals.{fans_present, instant_at, instants, interval_count, setting_of}
use Rattle.model.specs.Layout.{class_at, classes_of}
use Rattle.model.specs.Plans.{Class, Slot, plan_of}
use Rattle.model.specs.Stands.{EndsBy, InInterval, InOrder, Named, NoOverlap, Stands, units_of}
use Rattle.model.specs.Stands as stands
use Rattle.model.proofs.Sums.{sum_congr, sum_pos}
use Rattle.model.proofs.Fractions.{compare≤}
use Rattle.model.proofs.Sets.{Alike, le_weight, on_pos, same_test, weight_alike}
use Rattle.model.proofs.FanTime.{P-alike}
use Rattle.model.proofs.Sequence.{few_classes, free_alike, one_class, rates_fall_lem}
use Rattle.model.proofs.Orders.{Fit}
use Rattle.model.proofs.Lists.{All-at, Pairs-at, gather_at, length_singles, total_at}
use Rattle.model.proofs.ValidShares.{class_open}
use Rattle.model.proofs.DrawnLine.{class_of}
use Rattle.model.proofs.PlanPieces.{no_slot}
use Rattle.records.specs.Plan.{class_in, slot_in}
use Rattle.judge_clauses.specs.Tests.{ClassFits, ClassRow, InTurn, Leads, ClassNumbers, Passes, OrderHeld, HeldFrom, SlotFits, SlotLong, SlotRow, by_fan, by_interval, by_time, place_in, units_up_to}
use Rattle.measure.specs.Arrays.{sets_of}
use Rattle.judge.proofs.Rows.{no_class, plan_class, plan_length, plan_slot, read_rows, row_class, row_slot}
use Rattle.judge_slots.proofs.Places.{place_at, tick_before, tick_from}
use Rattle.judge.proofs.Held.{instants_up, same_weight, same_size, same_time}
use Rattle.judge.proofs.Certified.{in_set}
use Rattle.judge.proofs.Naming.{numbers_named}

-- ---- the interval of a slot

module _ (o : Order) (h : OrderHeld) (sh : HeldFrom o h) (s : Slot) (long : SlotLong s) where
  real_interval : (j : ℕ) → InInterval o j s → j < interval_count o
  real_interval j b = elim (compare≤ (interval_count o) j) [
    | inl l ↦
        let past : instant_at o (j + 1) ≡ 0 = get_or-eq_default (instants o.doses) 0 (omega arith) in
        absurd (omega (arith, b.high, long.long, ap (λ (x : ℕ). x * s.weight) past))
    | inr l ↦ l
  ]

  -- is the one that it lies in
  pub place_is : (j : ℕ) → InInterval o j s → place_in h.instants h.intervals s ≡ j
  place_is j b =
      let l = real_interval j b in
      let low : instant_at o j ≤ s.start_tick = tick_from (instant_at o j) s.start_tick s.start_part s.weight long.start_part b.low in
      let high : s.start_tick < instant_at o (j + 1) = tick_before (instant_at o (j + 1)) s.start_tick s.start_part s.weight (omega (arith, b.high, long.long)) in
      place_at h.instants s.start_tick h.intervals j (omega (arith, sh.intervals))
      (λ i r. omega (arith, instants_up o h sh (i + 1) j (omega arith) (omega (arith, sh.intervals)), sh.instants j (omega (arith, sh.intervals))))
      (omega (arith, sh.instants (j + 1) (omega (arith, sh.intervals))))

module _ (o : Order) (fit : Fit o) (h : OrderHeld) (sh : HeldFrom o h) (b : List ℕ) (p : ℕ) (N : List ℕ) (lead : Leads b p) (num : ClassNumbers b p (length b / record_size) N) (st : Stands o b) where
  abbrev m : ℕ
  m = length b / record_size

  abbrev q : ℕ
  q = st.count

  abbrev D : ℕ → Doses
  D = st.sets

  abbrev S : Setting
  S = setting_of o

  abbrev F : Row
  F = fans_present o

  abbrev cs : List Class
  cs = classes_of o q D

  classes_long : length cs ≡ q
  classes_long = length_singles q (class_at o q D)

  whole : length b % record_size ≡ 0
  whole = (read_rows b (plan_of cs st.slots) st.records).0

  long_enough : q + length st.slots ≡ m
  long_enough = omega (arith, (read_rows b (plan_of cs st.slots) st.records).1, plan_length cs st.slots, classes_long)

  class_at_lem : (k : ℕ) → k < q → ClassRow (record_at b k) × (class_in b k ≡ class_at o q D k)
  unfolding class_in
  class_at_lem k l =
      row_class (record_at b k) k (class_at o q D k)
      ((read_rows b (plan_of cs st.slots) st.records).2 k (omega (arith, plan_length cs st.slots, classes_long))
      ∙ ap read (plan_class cs st.slots k (omega (arith, classes_long)) _ (gather_at q (class_at o q D) no_class k l)))

  slot_at : (k : ℕ) → k < length st.slots → SlotRow (record_at b (q + k)) × (slot_in b (q + k) ≡ get_or st.slots k no_slot)
  unfolding slot_in
  slot_at k l =
      row_slot (record_at b (q + k)) (q + k) (get_or st.slots k no_slot)
      ((read_rows b (plan_of cs st.slots) st.records).2 (q + k) (omega (arith, plan_length cs st.slots, classes_long))
      ∙ ap read (rw classes_long at (plan_slot cs st.slots no_slot k l)))

  same_p : p ≡ q
  same_p = elim (compare≤ p q) [
    | inl l ↦ elim (compare≤ q p) [
      | inl g ↦ omega arith
      | inr g ↦ absurd (lead.stops (omega (arith, long_enough)) (class_at_lem p g).0.kind)
    ]
    | inr l ↦
        let z : q + 0 ≡ q = omega arith in
        let row : SlotRow (record_at b q) = rw z at (slot_at 0 (omega (arith, long_enough, lead.short))).0 in
        absurd (omega (arith, row.kind, lead.classes q l))
  ]

  -- record i, from p on
  at : (i : ℕ) → i < m → p ≤ i → SlotRow (record_at b i) × (slot_in b i ≡ get_or st.slots (i - p) no_slot)
  at i l g =
      let z : q + (i - p) ≡ i = omega (arith, same_p) in
      subst (λ (x : ℕ). SlotRow (record_at b x) × (slot_in b x ≡ get_or st.slots (i - p) no_slot)) z (slot_at (i - p) (omega (arith, long_enough, same_p)))

  listed : (i : ℕ) → i < m → p ≤ i → i - p < length st.slots
  listed i l g = omega (arith, long_enough, same_p)

  named : (i : ℕ) → i < m → p ≤ i → Named o q D (slot_in b i)
  named i l g = rw (at i l g).1 (All-at no_slot st.stand.named (i - p) (listed i l g))

  long : (i : ℕ) → i < m → p ≤ i → SlotLong (slot_in b i)
  long i l g = let n = named i l g in record { start_part = n.start_part; end_part = n.end_part; long = n.long }

  -- ---- the sets

  units : (k : ℕ) → units_up_to b p m k ≡ total (units_of k) st.slots
  units k =
      sum_congr (m - p) (λ i l. let z : p + i - p ≡ i = omega arith in ap (units_of k) (rw z at (at (p + i) (omega arith) (omega arith)).1))
      ∙ ap (λ (n : ℕ). sum n (λ i. units_of k (get_or st.slots i no_slot))) (omega (arith, long_enough, same_p)) ∙ sym (total_at (units_of k) st.slots no_slot)

  -- a dose has a slot
  has_slot : (k : ℕ) → k < S.doses → (i : ℕ) × (i < m) × (p ≤ i) × ((slot_in b i).dose ≡ k)
  has_slot k kn =
      let c = class_of o fit q D st.classes st.slots st.stand k kn in
      let need = st.stand.totals c.class k c.known kn c.member in
      let some : 0 < units_up_to b p m k =
      omega (arith, units k, need, mul-pos (fit.some_grams k kn) (class_open o q D st.classes fit c.class c.known)) in
      let r = sum_pos (m - p) (λ l. units_of k (slot_in b (p + l))) some in
      (p + r.0, omega (arith, r.1), omega arith, sym (eqb→eq _ _ (on_pos (eqb k (slot_in b (p + r.0)).dose) _ r.2)))

  -- and its number is its class's
  number_of : (k : ℕ) → k < S.doses → (c : ℕ) × (c < q) × T (D c k) × (get_or N k 0 ≡ c + 1)
  number_of k kn =
      let r = has_slot k kn in
      let w = numbers_named num r.0 r.1 r.2 (omega (arith, r.3, fit.few)) in
      let n = named w.0 w.1 w.2 in
      let same : (slot_in b w.0).dose ≡ k = w.3 ∙ r.3 in
      (n.class, n.known, rw same at n.member, ap (λ (d : ℕ). get_or N d 0) (sym r.3) ∙ sym w.4 ∙ n.number)

  its_class : (k i : ℕ) → k < S.doses → i < q → T (D i k) → get_or N k 0 ≡ i + 1
  its_class k i kn iq t =
      let r = number_of k kn in
      omega (arith, r.3, one_class S F q D st.classes r.0 i k r.1 iq kn r.2 t)

  alike : (i : ℕ) → i < q → Alike S.doses (D i) (sets_of N i)
  alike i iq k kn =
      let r = number_of k kn in
      same_test (D i k) (sets_of N i k) (λ t. in_set N i k (its_class k i kn iq t))
      (λ t. let e : r.0 ≡ i = omega (arith, r.3, eqb→eq (get_or N k 0) (i + 1) t) in rw e at r.2)

  same_P : (i : ℕ) → i < q → class_p S F D i ≡ class_p S F (sets_of N) i
  same_P i iq =
      P-alike S (free S F D i) (D i) (sets_of N i) (alike i iq)
      ∙ ap (λ (row : Row). P S row (sets_of N i)) (fun_ext (free_alike S F D (sets_of N) i (λ l r. alike l (omega arith))))

  class_fits : (i : ℕ) → i < q → ClassFits h N i (class_in b i)
  class_fits i iq =
      let e = (class_at_lem i iq).1 in
      let x = (st.classes.next i iq).some in
      record {
        number = ap (λ (c : Class). c.number) e;
        doses = ap (λ (c : Class). c.doses) e ∙ weight_alike S.doses (λ k. 1) (D i) (sets_of N i) (alike i iq) ∙ sym (same_size o h sh (sets_of N i));
        some = rw e (le_weight S.doses (λ k. 1) (D i) x.0 x.1 x.2);
        weight = ap (λ (c : Class). c.weight) e ∙ weight_alike S.doses S.grams (D i) (sets_of N i) (alike i iq) ∙ sym (same_weight o h sh (sets_of N i));
        time = ap (λ (c : Class). c.time) e ∙ same_P i iq ∙ sym (same_time o h sh (sets_of N) i);
      }

  -- ---- the slots

  slot_fits_lem : (i : ℕ) → i < m → p ≤ i → SlotFits h b N (slot_in b i)
  slot_fits_lem i l g =
      let s = slot_in b i in
      let n = named i l g in
      let ν : get_or N s.dose 0 ≡ n.class + 1 = its_class s.dose n.class n.dose n.known n.member in
      let back : get_or N s.dose 0 - 1 ≡ n.class = omega arith in
      let e = (class_at_lem n.class n.known).1 in
      let place = place_is o h sh s (long i l g) n.interval n.in_interval in
      let dh : s.dose < h.doses = omega (arith, n.dose, sh.doses) in
      record {
        dose = dh;
        names = record {
          class = ν ∙ sym n.number;
          weight = n.weight ∙ sym (rw (back, e));
          time = n.time ∙ sym (rw (back, e));
          fan_from = n.fan_from;
          fan_to = omega (arith, n.fan_to, sh.fans);
        };
        long = long i l g;
        window = rw (sh.release s.dose dh, sh.deadline s.dose dh) n.window;
        inside = record {
          place = omega (arith, place, n.in_order, sh.intervals);
          interval =
              rw (place, sh.instants n.interval (omega (arith, n.in_order, sh.intervals)), sh.instants (n.interval + 1) (omega (arith, n.in_order, sh.intervals))) n.in_interval;
        };
      }

  -- two of them
  pair : (R : Slot → Slot → Type 0) → ((k l : ℕ) → k < l → l < length st.slots → R (get_or st.slots k no_slot) (get_or st.slots l no_slot))
      → (i l : ℕ) → l < m → p ≤ i → i < l → R (slot_in b i) (slot_in b l)
  pair R f i l lm g il = rw ((at i (omega arith) g).1, (at l lm (omega arith)).1) (f (i - p) (l - p) (omega arith) (listed l lm (omega arith)))

  turn : (i l : ℕ) → l < m → p ≤ i → i < l → InTurn h.instants h.intervals (slot_in b i) (slot_in b l)
  turn i l lm g il = go (pair (InOrder o) (Pairs-at no_slot st.stand.order) i l lm g il)
    where
      s : Slot
      s = slot_in b i

      u : Slot
      u = slot_in b l

      ls : SlotLong (slot_in b i)
      ls = long i (omega arith) g

      lu : SlotLong (slot_in b l)
      lu = long l lm (omega arith)

      go : InOrder o (slot_in b i) (slot_in b l) → InTurn h.instants h.intervals (slot_in b i) (slot_in b l)
      go (stands.by_interval x y xy bx by) = by_interval (omega (arith, place_is o h sh _ ls x bx, place_is o h sh _ lu y by))
      go (stands.by_fan j bx by f) = by_fan (place_is o h sh _ ls j bx ∙ sym (place_is o h sh _ lu j by)) f
      go (stands.by_start j bx by f t) =
          by_time (place_is o h sh _ ls j bx ∙ sym (place_is o h sh _ lu j by)) f
          (first (pair (λ s u. s.fan ≡ u.fan → NoOverlap s u) (Pairs-at no_slot st.stand.fans_apart) i l lm g il f))
        where
          first : NoOverlap (slot_in b i) (slot_in b l) → EndsBy (slot_in b i) (slot_in b l)
          first (inl e) = e
          first (inr e) = absurd (omega (arith, e.by, t, mul-lt-mul_of_pos_left {k = (slot_in b i).weight} lu.long (omega (arith, ls.start_part))))

  -- plan bytes that stand pass
  pub stands_passes : Passes h b p N
  stands_passes = record {
    rows = record {
      whole = whole;
      few = omega (arith, same_p, sh.doses, few_classes S F q D st.classes);
      class_rows = λ i l. (class_at_lem i (omega (arith, same_p))).0;
      slot_rows = λ i l g. (at i l g).0;
      numbered = λ k l. let r = number_of k (omega (arith, sh.doses)) in (omega (arith, r.3), omega (arith, r.3, r.1, same_p));
      falls = λ i l. record {
        fall = rw ((class_at_lem i (omega (arith, same_p))).1, (class_at_lem (i + 1) (omega (arith, same_p))).1) (rates_fall_lem S F q D st.classes i (i + 1) (omega arith) (omega (arith, same_p)));
      };
    };
    classes = λ i l. class_fits i (omega (arith, same_p));
    slots = slot_fits_lem;
    turns = λ i l g. turn i (i + 1) l g (omega arith);
    apart = λ i l g. record { apart = λ k km ik e. record { clear = pair (λ s u. s.dose ≡ u.dose → NoOverlap s u) (Pairs-at no_slot st.stand.doses_apart) i k km g ik } };
    totals = λ k l.
        let kn : k < S.doses = omega (arith, sh.doses) in
        let r = number_of k kn in
        let back : get_or N k 0 - 1 ≡ r.0 = omega (arith, r.3) in
        units k ∙ st.stand.totals r.0 k r.1 kn r.2 ∙ sym (rw (back, sh.grams k l, (class_at_lem r.0 r.1).1));
  }
