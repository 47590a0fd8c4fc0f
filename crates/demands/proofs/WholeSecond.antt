-- Dosing by the whole second (document 02, C-12), sentence by sentence, for every plan that stands.
pub mod OfAnswers
use mathlib.Core.Bool.{Bool}
use mathlib.Core.Logic.{◌↔◌, ◌⊎◌, inl, inr}
use mathlib.Core.Path.{◌∙◌, ◌≡◌, ap, refl, sym}
use mathlib.Core.List.{List}
use Prim.Native.Nat.{ℕ, ◌+◌, ◌*◌, ◌-◌, ◌≤◌, ◌<◌, max, min}
use native.Mathlib.Nat.{eq-or-lt_of_le, lt_of_mul-lt-mul_right, mul-le-mul_right, mul-lt-mul_of_pos_right}
use native.Mathlib.Omega.{arith}
use lib.Dec.{eqb, eqb_refl}
use lib.ListN.{length, get_or}
use Rattle.model.specs.Sets.{weight}
use Rattle.model.specs.Records.{read}
use Rattle.model.specs.Orders.{Order, dose_at, read_order}
use Rattle.model.specs.Intervals.{setting_of}
use Rattle.model.specs.Plans.{Slot, plan_records, slots_read}
use Rattle.model.specs.Stands.{Named, Stands, ends, starts}
use Rattle.model.specs.Line.{Covers, HasFan, OneOf, State, dosing, drawn, finished, idle, shut, state_at, units_before}
use Rattle.model.proofs.DrawnLine.{Line}
use Rattle.model.proofs.Fractions.{compare≤}
use Rattle.model.proofs.Lists.{total_at}
use Rattle.model.proofs.Orders.{read_fits}
use Rattle.model.proofs.PlanPieces.{no_slot, slot_at}
use Rattle.model.proofs.Sets.{weight_tight}
use Rattle.model.proofs.Standing.{plan_line}
use Rattle.demands.proofs.Demand2.Standing.{slot_named, slots_apart}
use Rattle.demands.proofs.Demand3.WithoutFan.{rests}
use Rattle.demands.proofs.Demand3.States.{Earliest, FedOn, FeedsIn, HasFanIn, InSecond, IsDosing, StateMeans, is_dosing, is_finished, is_idle, is_shut}
use Rattle.demands.proofs.Demand3.States.{fan_feeds, finished_first, idle_means, some_weight, state_means}

-- the dose gains nothing over [t, t+1): neither its exact amount, which is the units divided by P, nor its drawn one
pub record Still (slots : List Slot) (d t : ℕ) : Type 0 where
  pub units_same : units_before slots d (t + 1) ≡ units_before slots d t
  pub drawn_same : drawn slots d (t + 1) ≡ drawn slots d t

module _ (last : ℕ) (order : List ℕ) (o : Order) (e : read_order last order ≡ read o) (plan : List ℕ) (st : Stands o plan) (d : ℕ) (dn : d < (setting_of o).doses) (t : ℕ) where
  -- the slots of the plan
  abbrev slots : List Slot
  slots = slots_read (plan_records plan)

  -- the state of the dose
  abbrev state : State
  state = state_at o slots d t

  -- what it means
  means : StateMeans o slots d t state
  means = state_means o slots d t

  -- each slot is named
  named : (s : Slot) → OneOf slots s → Named o st.count st.sets s
  named = slot_named o plan st

  -- a slot lies inside its dose's window, so that a second of it does
  inside : (s : Slot) → FeedsIn slots d t s → ((dose_at o d).release ≤ t) × (t < (dose_at o d).deadline)
  inside s f =
      let w = rw f.dose at (named s f.one).window in
      let opened : (dose_at o d).release < t + 1 = lt_of_mul-lt-mul_right s.weight (omega (arith, w.low, f.before)) in
      (omega arith, lt_of_mul-lt-mul_right s.weight (omega (arith, w.high, f.after)))

  -- ---- "Dosing from now on means that some slot starts before t+1 and ends after t"

  -- Dosing is by the earliest slot that has time in the second
  fed_if_dosing : (fan : ℕ) → state ≡ dosing fan → FedOn slots d t fan
  fed_if_dosing fan z = go (rw z at means)
    where
      go : StateMeans o slots d t (dosing fan) → FedOn slots d t fan
      go (is_dosing r k f) = f

  -- and where one has, the state is Dosing
  dosing_if_fed : (s : Slot) → FeedsIn slots d t s → {z : State} → StateMeans o slots d t z → (fan : ℕ) × (z ≡ dosing fan) × FedOn slots d t fan
  dosing_if_fed s f (is_finished k) = absurd (omega (arith, inside s f))
  dosing_if_fed s f (is_shut k l) = absurd (omega (arith, inside s f))
  dosing_if_fed s f (is_idle r k n) = absurd (n s f)
  dosing_if_fed s f (is_dosing {fan = fan} r k h) = (fan, refl, h)

  -- Dosing is exactly where a slot of the dose has time in the second
  pub dosing_exactly_with_slot_time : IsDosing state ↔ ((s : Slot) × FeedsIn slots d t s)
  dosing_exactly_with_slot_time = (
    λ z. let f = fed_if_dosing z.0 z.1 in (f.slot, f.earliest.feeds),
    λ f. let r = dosing_if_fed f.0 f.1 means in (r.0, r.1),
  )

  -- and exactly where it has a fan at some moment of the second
  pub dosing_exactly_with_a_fan : IsDosing state ↔ HasFanIn slots d t
  dosing_exactly_with_a_fan = (
    λ z. let f = dosing_exactly_with_slot_time.0 z in has_fan f.0 f.1,
    λ h. let u = h.has in
        dosing_exactly_with_slot_time.1 (u.slot, fan_feeds h.within u (omega (arith, (named u.slot u.one).start_part))),
  )
    where
      -- at the start of the slot, or of the second if that is later
      has_fan : (s : Slot) → FeedsIn slots d t s → HasFanIn slots d t
      has_fan s f =
          let some = some_weight f in
          let long = (named s f.one).long in
          record {
            q = s.weight;
            x = max (starts s) (t * s.weight);
            within = record { low = omega arith; high = omega (arith, f.before) };
            has = record {
              slot = s;
              one = f.one;
              dose = f.dose;
              covers = record { from = mul-le-mul_right s.weight (omega arith); after = mul-lt-mul_of_pos_right (omega (arith, f.after)) some };
            };
          }

  -- ---- "the fan is that of the earliest such slot"

  -- two earliest slots would both cover the moment at which they start
  never_before : (s u : Slot) (a : Earliest slots d t s) (b : Earliest slots d t u) → a.feeds.one.index < b.feeds.one.index → ⊥
  never_before s u a b l =
      let x = a.feeds.one in
      let y = b.feeds.one in
      let some = some_weight a.feeds in
      let s_covers : Covers s.weight (starts s) s = record { from = omega arith; after = mul-lt-mul_of_pos_right (named s x).long some } in
      let u_covers : Covers s.weight (starts s) u = record {
        from = b.first s a.feeds;
        after = omega (arith, a.first u b.feeds, mul-lt-mul_of_pos_right (named u y).long some);
      } in
      (slots_apart o plan st s.weight (starts s) x.index y.index s l y.listed (rw (x.there s) s_covers) (rw (y.there s) u_covers)).1
      (rw (x.there s, y.there s, a.feeds.dose, b.feeds.dose))

  -- there is one earliest slot: two have one place in the plan
  pub one_earliest : (s u : Slot) (a : Earliest slots d t s) (b : Earliest slots d t u) → (a.feeds.one.index ≡ b.feeds.one.index) × (s ≡ u)
  one_earliest s u a b =
      let x = a.feeds.one in
      let y = b.feeds.one in
      let same : x.index ≡ y.index = elim (compare≤ x.index y.index) [
        | inl h ↦ elim (eq-or-lt_of_le h) [ inl q ↦ q | inr l ↦ absurd (never_before s u a b l) ]
        | inr l ↦ absurd (never_before u s b a l)
      ] in
      (same, sym (x.there s) ∙ ap (λ (i : ℕ). get_or slots i s) same ∙ y.there s)

  -- Dosing with a fan is exactly where that slot is on that fan
  pub dosing_exactly_by_the_earliest : (fan : ℕ) → (state ≡ dosing fan) ↔ FedOn slots d t fan
  dosing_exactly_by_the_earliest fan = (fed_if_dosing fan, back)
    where
      back : FedOn slots d t fan → state ≡ dosing fan
      back f =
          let r = dosing_if_fed f.slot f.earliest.feeds means in
          let same = (one_earliest f.slot r.2.slot f.earliest r.2.earliest).1 in
          cc

  -- ---- "Finished and Shut still come first"

  -- "Finished if t is at or past the deadline"
  pub finished_exactly : (state ≡ finished) ↔ ((dose_at o d).deadline ≤ t)
  finished_exactly = (λ z. go (rw z at means), finished_first o slots d t)
    where
      go : StateMeans o slots d t finished → (dose_at o d).deadline ≤ t
      go (is_finished l) = l

  -- "else Shut before the release"
  pub shut_exactly : (state ≡ shut) ↔ (t < (dose_at o d).release)
  shut_exactly = (λ z. go (rw z at means), back means)
    where
      go : StateMeans o slots d t shut → t < (dose_at o d).release
      go (is_shut k l) = l

      back : {z : State} → StateMeans o slots d t z → t < (dose_at o d).release → z ≡ shut
      back (is_finished k) l = absurd (omega (arith, (read_fits last order o e).window d dn))
      back (is_shut k m) l = refl
      back (is_idle r k n) l = absurd (omega arith)
      back (is_dosing r k f) l = absurd (omega arith)

  -- so Dosing is inside the window
  pub dosing_inside_its_window : IsDosing state → ((dose_at o d).release ≤ t) × (t < (dose_at o d).deadline)
  dosing_inside_its_window z = let f = dosing_exactly_with_slot_time.0 z in inside f.0 f.1

  -- and Idle is the rest of it
  pub idle_exactly : (state ≡ idle) ↔ (((dose_at o d).release ≤ t) × (t < (dose_at o d).deadline) × ((s : Slot) → FeedsIn slots d t s → ⊥))
  idle_exactly = (idle_means o slots d t, back means)
    where
      back : {z : State} → StateMeans o slots d t z → ((dose_at o d).release ≤ t) × (t < (dose_at o d).deadline) × ((s : Slot) → FeedsIn slots d t s → ⊥) → z ≡ idle
      back (is_finished k) h = absurd (omega arith)
      back (is_shut k m) h = absurd (omega arith)
      back (is_idle r k n) h = refl
      back (is_dosing r k f) h = absurd (h.2 f.slot f.earliest.feeds)

  -- ---- "A bay was fed and the chart said Idle": now Dosing is a second in which the dose gains, and Idle one in which it doesn't

  -- the units of slot i before tick x
  abbrev units : ℕ → ℕ → ℕ
  units x i = let s = slot_at slots i in min (ends s) (x * s.weight) - starts s

  -- whether slot i is the dose's
  abbrev own : ℕ → Bool
  own i = eqb d (slot_at slots i).dose

  -- a slot that has time in the second has units in it
  gains : (s : Slot) → FeedsIn slots d t s → units_before slots d t < units_before slots d (t + 1)
  unfolding units_before weight
  gains s f = elim (compare≤ (units_before slots d (t + 1)) (units_before slots d t)) [
    | inr l ↦ l
    | inl l ↦
        let i = f.one.index in
        let is : slot_at slots i ≡ s = f.one.there no_slot in
        let by_slot : (x : ℕ) → units_before slots d x ≡ weight (length slots) (units x) own = λ x. total_at _ slots no_slot in
        let no_more : weight (length slots) (units (t + 1)) own ≤ weight (length slots) (units t) own = omega (arith, by_slot t, by_slot (t + 1)) in
        let still = weight_tight (length slots) (units t) (units (t + 1)) own (λ i l z. omega arith) no_more i f.one.listed (rw (is, f.dose) (eqb_refl d)) in
        absurd (omega (arith, rw is at still, (named s f.one).long, f.before, f.after, some_weight f))
  ]

  -- without such a slot there are none
  none_gained : ((s : Slot) → FeedsIn slots d t s → ⊥) → units_before slots d (t + 1) ≡ units_before slots d t
  none_gained n = rests slots d t 1 (λ s one same. elim (compare≤ (ends s) (t * s.weight)) [
    | inl l ↦ inl l
    | inr l ↦ elim (compare≤ ((t + 1) * s.weight) (starts s)) [
      | inl k ↦ inr k
      | inr k ↦ absurd (n s (record { one = one; dose = same; before = k; after = l }))
    ]
  ])

  -- in any second the dose is Dosing, or it gains nothing
  pub dosing_or_still : IsDosing state ⊎ Still slots d t
  unfolding drawn
  dosing_or_still = go means
    where
      line : Line o slots d
      line = plan_line o plan st (read_fits last order o e) d dn

      still : units_before slots d (t + 1) ≡ units_before slots d t → Still slots d t
      still r = record { units_same = r; drawn_same = rw r }

      go : {z : State} → StateMeans o slots d t z → IsDosing z ⊎ Still slots d t
      go (is_finished k) = inr (still (line.late (t + 1) (omega arith) ∙ sym (line.late t k)))
      go (is_shut k l) = inr (still (line.early (t + 1) (omega arith) ∙ sym (line.early t (omega arith))))
      go (is_idle r k n) = inr (still (none_gained n))
      go (is_dosing {fan = fan} r k f) = inl (fan, refl)

  -- Dosing is exactly where the dose gains any amount over [t, t+1): the exact one, which is these units divided by P
  pub dosing_exactly_while_gaining : IsDosing state ↔ (units_before slots d t < units_before slots d (t + 1))
  dosing_exactly_while_gaining = (
    λ z. let f = dosing_exactly_with_slot_time.0 z in gains f.0 f.1,
    λ l. elim dosing_or_still [ inl z ↦ z | inr r ↦ absurd (omega (arith, r.units_same)) ],
  )

  -- no state is both
  idle_not_dosing : state ≡ idle → IsDosing state → ⊥
  idle_not_dosing z f = let k = f.1 in let none : ◌≡◌ {A = ℕ} 0 1 = cc in omega arith

  -- Idle means that it gains nothing in the second
  pub idle_gains_nothing : state ≡ idle → Still slots d t
  idle_gains_nothing z = elim dosing_or_still [ inl f ↦ absurd (idle_not_dosing z f) | inr r ↦ r ]

  -- and that it has a fan at no moment of it
  pub idle_without_a_fan : state ≡ idle → (q x : ℕ) → InSecond t q x → HasFan slots q x d → ⊥
  idle_without_a_fan z q x w h = idle_not_dosing z (dosing_exactly_with_a_fan.1 (record { q = q; x = x; within = w; has = h }))
