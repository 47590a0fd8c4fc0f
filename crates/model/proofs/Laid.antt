-- Valid shares give slots that stand: over the classes of an interval, over the intervals, and for an order and its classes.
pub mod Wrap
pub mod Lanes
use mathlib.Core.Logic.{inl, inr}
use mathlib.Core.Path.{◌∙◌, ◌≡◌}
use mathlib.Core.List.{List}
use Prim.Native.Nat.{ℕ, suc, zero, ◌+◌, ◌*◌, ◌≤◌, ◌<◌}
use native.Mathlib.Nat.{eq-or-lt_of_le, mul-le-mul_right, mul-lt-mul_of_pos_right}
use native.Mathlib.Numerals.{add-one}
use native.Mathlib.Omega.{arith}
use lib.Dec.{T, leb, leb→le}
use Rattle.model.specs.Sets.{Doses, sum}
use Rattle.model.specs.Lists.{All, Pairs, total}
use Rattle.model.specs.Orders.{Order, dose_at}
use Rattle.model.specs.Classes.{Classes, Setting, class_p, reserved}
use Rattle.model.specs.Intervals.{active_at, fans_present, instant_at, interval_count, setting_of}
use Rattle.model.specs.Plans.{Slot}
use Rattle.model.specs.Layout.{Table, interval_slots, lane, lane_slots, slots_of, table_of, table_slots}
use Rattle.model.specs.Stands.{Between, EndsBy, InInterval, InOrder, Named, NoOverlap, SlotsStand, by_fan, by_interval, by_start, ends, starts, units_of}
use Rattle.model.specs.Answers.{ValidShares}
use Rattle.model.proofs.Sums.{last, one_term, sum_congr}
use Rattle.model.proofs.Sets.{and_left, and_right}
use Rattle.model.proofs.Orders.{Fit}
use Rattle.model.proofs.Intervals.{instants_rise}
use Rattle.model.proofs.Lists.{All-gather, All-imp, Pairs-gather, Pairs-imp, Pairs-with, sum_before, total_gather}
use Rattle.model.proofs.Laid.Lanes.{laid, laid_next, laid_units}
use Rattle.model.proofs.Slots.{Runs, open_share, other, runs}

-- what ends by a tick ends before what starts at that tick or later
ticks : {a b c d : ℕ} {s u : Slot} → Between a b s → Between c d u → b ≤ c → EndsBy s u
ticks {s = s} {u = u} h g l = record {
  by = omega (arith, mul-le-mul_right u.weight h.high, mul-le-mul_right (s.weight * u.weight) l, mul-le-mul_right s.weight g.low);
}

-- and starts before it
rises : {s u : Slot} → starts s < ends s → 0 < u.weight → EndsBy s u → starts s * u.weight < starts u * s.weight
rises {s} {u} long heavy e = omega (arith, e.by, mul-lt-mul_of_pos_right {k = u.weight} long heavy)

-- a slot between two ticks is between any two further out
inside : {a b c d : ℕ} {s : Slot} → c ≤ a → b ≤ d → Between a b s → Between c d s
inside {s = s} l r h = record { low = omega (arith, h.low, mul-le-mul_right s.weight l); high = omega (arith, h.high, mul-le-mul_right s.weight r) }

-- ---- the classes of one interval of a table

module _ (t : Table) (C : ℕ → Doses) (F j : ℕ) where
  open t use {n, p, start, len, weight, time, fans, share}

  -- a slot of class i there
  pub record Own (i : ℕ) (s : Slot) : Type 0 where
    pub class : i < p
    pub number : s.class ≡ i + 1
    pub weight_of : s.weight ≡ weight i
    pub time_of : s.time ≡ time i
    pub within : Between (start j) (start j + len j) s
    pub start_part : s.start_part < s.weight
    pub end_part : s.end_part < s.weight
    pub long : starts s < ends s
    pub dose : s.dose < n
    pub some : 0 < share i s.dose j
    pub member : T (C i s.dose)
    pub fan_from : sum i (λ h. fans h j) < s.fan
    pub fan_to : s.fan ≤ sum i (λ h. fans h j) + fans i j

  -- s stands before u
  pub record Before (s u : Slot) : Type 0 where
    pub order : s.fan ≤ u.fan
    pub same_fan : s.fan ≡ u.fan → EndsBy s u
    pub same_dose : s.dose ≡ u.dose → NoOverlap s u

  module _ (v : Runs t C F j) where
    abbrev of_class : ℕ → List Slot
    of_class i = lane_slots (lane t i j) (λ k. share i k j) n

    own : (i : ℕ) → i < p → All (Own i) (of_class i)
    own i l = All-imp (λ s h. record {
      class = l;
      number = h.class;
      weight_of = h.weight;
      time_of = h.time;
      within = h.within;
      start_part = h.start_part;
      end_part = h.end_part;
      long = h.long;
      dose = h.dose;
      some = h.some;
      member = v.mine i s.dose l h.dose h.some;
      fan_from = h.above_fan;
      fan_to = h.most_fan;
    }) (laid (lane t i j) (λ k. share i k j) n (fans i j) (v.heavy i l) v.wide (λ k r. v.most i k l r) (v.full i l))

    before_class : (i : ℕ) → i < p → Pairs Before (of_class i)
    before_class i l = Pairs-imp (λ s u f. record { order = f.order; same_fan = f.same_fan; same_dose = λ e. inr (f.same_dose e) })
        (laid_next (lane t i j) (λ k. share i k j) n (fans i j) (v.heavy i l) v.wide (λ k r. v.most i k l r) (v.full i l))

    -- every slot is of a class
    pub interval_own : All (λ s. (i : ℕ) × Own i s) (interval_slots t j)
    unfolding interval_slots
    interval_own = All-gather p _ (λ i l. All-imp (λ s h. (i, h)) (own i l))

    -- slots by fan, start; no two of one fan or of one dose overlap
    pub interval_before : Pairs Before (interval_slots t j)
    unfolding interval_slots
    interval_before =
        Pairs-gather Own p _ own (λ i k l r s u h g.
        let up : s.fan < u.fan = omega (arith, h.fan_to, g.fan_from, sum_before k (λ h. fans h j) i l) in
        record {
          order = omega arith;
          same_fan = λ e. absurd (omega arith);
          same_dose = λ e. absurd (omega (arith, v.once i k s.dose h.class r h.dose h.member (rw e g.member)));
        }) before_class

    -- the slots of a dose have its class's share
    pub interval_units : (i d : ℕ) → i < p → d < n → T (C i d) → total (units_of d) (interval_slots t j) ≡ share i d j
    unfolding interval_slots
    interval_units i d l r a =
        total_gather (units_of d) p _
        ∙ sum_congr p (λ h q. laid_units (lane t h j) (λ k. share h k j) n (fans h j) (v.heavy h q) v.wide (λ k r. v.most h k q r) (v.full h q) d r)
        ∙ one_term p i (λ h. share h d j) l (λ h q f. other t C F j v i h d l q r a f)

-- ---- an order, its classes, and valid shares

-- no interval of an order starts before an earlier one has ended
instants_up : (o : Order) (i j : ℕ) → i < j → j < interval_count o → instant_at o (i + 1) ≤ instant_at o j
instants_up o i zero l q = absurd (omega arith)
instants_up o i (suc j) l q = elim (last l) [
  | inl e ↦ rw (e, add-one) (omega arith)
  | inr r ↦ omega (arith, instants_up o i j r (omega arith), rw add-one at (instants_rise o j (omega arith)))
]

module _ (o : Order) (fit : Fit o) (p : ℕ) (C : ℕ → Doses) (c : Classes (setting_of o) (fans_present o) p C) (x : ℕ → ℕ → ℕ → ℕ)
    (v : ValidShares o p C x) where
  abbrev S : Setting
  S = setting_of o

  abbrev table : Table
  table = table_of o p C x

  -- the order's fans can run the shares of an interval
  can_run : (j : ℕ) → j < S.intervals → Runs table C o.fans j
  can_run = runs o fit p C c x v

  -- interval j ends where the next one starts
  ends_at : (j : ℕ) → j < S.intervals → instant_at o j + S.len j ≡ instant_at o (j + 1)
  ends_at j r = omega (arith, instants_rise o j r)

  -- a slot of interval j
  record At (j : ℕ) (s : Slot) : Type 0 where
    pub within : InInterval o j s
    pub long : starts s < ends s
    pub heavy : 0 < s.weight
    pub named : Named o p C s

  -- every slot of an interval's part of the list is one
  at : (j : ℕ) → j < S.intervals → All (At j) (interval_slots table j)
  at j r = All-imp (λ s own. go s own.0 own.1) (interval_own table C o.fans j (can_run j r))
    where
      go : (s : Slot) (i : ℕ) → Own table C o.fans j i s → At j s
      go s i h =
          let here : InInterval o j s = rw (ends_at j r) at h.within in
          let a : T (active_at o s.dose j) = and_right (C i s.dose) (active_at o s.dose j) (open_share o fit p C c x v i s.dose j h.class h.dose r h.some) in
          let opened = leb→le (dose_at o s.dose).release (instant_at o j) (and_left (leb (dose_at o s.dose).release (instant_at o j)) (leb (instant_at o (j + 1)) (dose_at o s.dose).deadline) a) in
          let closed = leb→le (instant_at o (j + 1)) (dose_at o s.dose).deadline (and_right (leb (dose_at o s.dose).release (instant_at o j)) (leb (instant_at o (j + 1)) (dose_at o s.dose).deadline) a) in
          record {
            within = here;
            long = h.long;
            heavy = omega (arith, h.start_part);
            named = record {
              dose = h.dose;
              class = i;
              number = h.number;
              known = h.class;
              member = h.member;
              weight = h.weight_of;
              time = h.time_of;
              fan_from = omega (arith, h.fan_from);
              fan_to = omega (arith, h.fan_to, sum_before p (λ h. reserved S (fans_present o) C h j) i h.class, (can_run j r).room);
              start_part = h.start_part;
              end_part = h.end_part;
              long = h.long;
              window = inside opened closed here;
              interval = j;
              in_order = r;
              in_interval = here;
            };
          }

  -- s stands before u
  record Apart (s u : Slot) : Type 0 where
    pub order : InOrder o s u
    pub same_fan : s.fan ≡ u.fan → NoOverlap s u
    pub same_dose : s.dose ≡ u.dose → NoOverlap s u

  apart : Pairs Apart (slots_of o p C x)
  unfolding table_slots
  apart =
      Pairs-gather At S.intervals _ at (λ i j l r s u h g.
      let e : EndsBy s u = ticks h.within g.within (instants_up o i j l r) in
      record { order = by_interval i j l h.within g.within; same_fan = λ z. inl e; same_dose = λ z. inl e }) (λ j r.
      Pairs-with (λ s u h g f. record {
        order = elim (eq-or-lt_of_le {n = s.fan} {m = u.fan} f.order) [
          | inl e ↦ by_start j h.within g.within e (rises h.long g.heavy (f.same_fan e))
          | inr q ↦ by_fan j h.within g.within q
        ];
        same_fan = λ e. inl (f.same_fan e);
        same_dose = f.same_dose;
      }) (at j r) (interval_before table C o.fans j (can_run j r)))

  -- the slots of a dose in all intervals
  dose_total_lem : (i d : ℕ) → i < p → d < S.doses → T (C i d) → total (units_of d) (slots_of o p C x) ≡ (dose_at o d).grams * class_p S (fans_present o) C i
  unfolding table_slots
  dose_total_lem i d l q t =
      total_gather (units_of d) S.intervals _
      ∙ sum_congr S.intervals (λ j r. interval_units table C o.fans j (can_run j r) i d l q t)
      ∙ (v i l).met d q t

  -- the slots of valid shares stand
  pub laid_stand : SlotsStand o p C (slots_of o p C x)
  unfolding table_slots
  laid_stand = record {
    named = All-gather S.intervals _ (λ j r. All-imp (λ s h. h.named) (at j r));
    order = Pairs-imp (λ s u h. h.order) apart;
    fans_apart = Pairs-imp (λ s u h. h.same_fan) apart;
    doses_apart = Pairs-imp (λ s u h. h.same_dose) apart;
    totals = dose_total_lem;
  }
