-- Valid shares as slots: the fans can run them, and how many slots there are.
use mathlib.Core.Bool.{◌&&◌}
use mathlib.Core.Logic.{inl, inr}
use mathlib.Core.Path.{◌≡◌, ap}
use mathlib.Core.List.{List}
use Prim.Native.Nat.{ℕ, ◌+◌, ◌*◌, ◌-◌, ◌≤◌, ◌<◌, min}
use native.Mathlib.Nat.{eq-zero-or-pos, mul-pos}
use native.Mathlib.Omega.{arith}
use lib.Dec.{T}
use lib.ListN.{length, length-map}
use Rattle.model.specs.Sets.{Doses, sum}
use Rattle.model.specs.Orders.{Order}
use Rattle.model.specs.Classes.{Classes, Setting, W, open_fans}
use Rattle.model.specs.Intervals.{active_at, fans_present, interval_count, setting_of}
use Rattle.model.specs.Plans.{Slot}
use Rattle.model.specs.Layout.{Table, interval_slots, lane, lane_slots, slots_of, table_of, table_slots, Lane, line, piece_slot}
use Rattle.model.specs.Answers.{ValidShares}
use Rattle.model.proofs.Sums.{one_term, sum_add, sum_le, sum_swap}
use Rattle.model.proofs.Sets.{and_left, on_pos, on_below}
use Rattle.model.proofs.FanTime.{weighs}
use Rattle.model.proofs.Sequence.{all_in_lem, nested, one_class, prefix_interval, upto_find}
use Rattle.model.proofs.Orders.{Fit}
use Rattle.model.proofs.Intervals.{few_intervals, instants_rise}
use Rattle.model.proofs.Lists.{length_gather, sum_const, sum_pred}
use Rattle.model.proofs.Wrap.{above, line_few}

-- shares of m × L × W in all, on m fans: a slot for each share above zero, and one for each fan but the first
laid_few : (l : Lane) (x : ℕ → ℕ) (n m : ℕ) → 0 < l.weight → 0 < l.len → sum n x ≡ m * (l.len * l.weight) → length (lane_slots l x n) ≤ above n x + (m - 1)
unfolding lane_slots
laid_few l x n m heavy wide full =
    omega (
      arith,
      length-map (line (l.len * l.weight) x n) (piece_slot l),
      line_few (l.len * l.weight) (mul-pos wide heavy) x n m full,
    )

-- ---- the classes of one interval of a table

module _ (t : Table) (C : ℕ → Doses) (F j : ℕ) where
  open t use {n, p, len, weight, fans, share}

  -- shares in interval j that F fans can run, of doses of the classes C
  pub record Runs : Type 0 where
    pub heavy : (i : ℕ) → i < p → 0 < weight i
    pub wide : 0 < len j
    pub most : (i k : ℕ) → i < p → k < n → share i k j ≤ len j * weight i
    pub full : (i : ℕ) → i < p → sum n (λ k. share i k j) ≡ fans i j * (len j * weight i)
    pub room : sum p (λ i. fans i j) ≤ F
    pub mine : (i k : ℕ) → i < p → k < n → 0 < share i k j → T (C i k)
    pub known : (k : ℕ) → k < n → (i : ℕ) × (i < p) × T (C i k)
    pub once : (i h k : ℕ) → i < p → h < p → k < n → T (C i k) → T (C h k) → i ≡ h

  module _ (v : Runs) where
    abbrev of_class : ℕ → List Slot
    of_class i = lane_slots (lane t i j) (λ k. share i k j) n

    -- only its own class gives a dose a share
    pub other : (i h k : ℕ) → i < p → h < p → k < n → T (C i k) → (h ≡ i → ⊥) → share h k j ≡ 0
    other i h k l q r t f = elim (eq-zero-or-pos (share h k j)) [ inl e ↦ e | inr a ↦ absurd (f (v.once h i k q l r (v.mine h k q r a) t)) ]

    one_share : (k : ℕ) → k < n → sum p (λ i. min 1 (share i k j)) ≤ 1
    one_share k r =
        let c = v.known k r in
        omega (arith, one_term p c.0 (λ i. min 1 (share i k j)) c.1 (λ h q f. ap (min 1) (other c.0 h k c.1 q r c.2 f)))

    -- a slot for each dose, and one for each fan but the first
    pub interval_few : length (interval_slots t j) ≤ n + (F - 1)
    unfolding interval_slots
    interval_few =
        omega (
          arith,
          length_gather p of_class,
          sum_le p (λ i l. laid_few (lane t i j) (λ k. share i k j) n (fans i j) (v.heavy i l) v.wide (v.full i l)),
          sum_add p (λ i. above n (λ k. share i k j)) (λ i. fans i j - 1),
          sum_pred p (λ i. fans i j),
          v.room,
          sum_swap p n (λ i k. min 1 (share i k j)),
          sum_le n {f = λ k. sum p (λ i. min 1 (share i k j))} {g = λ k. 1} one_share,
          sum_const n 1,
        )

-- ---- an order, its classes, and valid shares

module _ (o : Order) (fit : Fit o) (p : ℕ) (C : ℕ → Doses) (c : Classes (setting_of o) (fans_present o) p C) (x : ℕ → ℕ → ℕ → ℕ)
    (v : ValidShares o p C x) where
  abbrev S : Setting
  S = setting_of o

  abbrev table : Table
  table = table_of o p C x

  -- a share is of a dose of the class, where it is active
  pub open_share : (i k j : ℕ) → i < p → k < S.doses → j < S.intervals → 0 < x i k j → T (C i k && active_at o k j)
  open_share i k j l q r h = on_pos (C i k && active_at o k j) (S.len j * W S (C i)) (omega (arith, (v i l).roomy k j q r))

  -- and every dose is in a class
  every_class : (k : ℕ) → k < S.doses → (i : ℕ) × (i < p) × T (C i k)
  every_class k q = upto_find C p k (all_in_lem S (fans_present o) p C c k q)

  -- the order's fans can run the shares of an interval
  pub runs : (j : ℕ) → j < interval_count o → Runs (table_of o p C x) C o.fans j
  unfolding open_fans
  runs j r = record {
    heavy = λ i l. weighs S fit.some_grams (C i) (c.next i l).some;
    wide = omega (arith, instants_rise o j r);
    most = λ i k l q. omega (arith, (v i l).roomy k j q r, on_below (C i k && active_at o k j) (S.len j * W S (C i)));
    full = λ i l. (v i l).full j r;
    room = omega (arith, prefix_interval S (fans_present o) C p (nested S (fans_present o) p C c p (omega arith)) j);
    mine = λ i k l q h. and_left (C i k) (active_at o k j) (open_share i k j l q r h);
    known = every_class;
    once = λ i h k l m q. one_class S (fans_present o) p C c i h k l m q;
  }

  -- at most 31 slots in an interval: one for each dose, and one for each fan but the first
  pub few_in_interval : (j : ℕ) → j < interval_count o → length (interval_slots (table_of o p C x) j) ≤ 31
  few_in_interval j r = omega (arith, interval_few table C o.fans j (runs j r), fit.few, fit.fans_most)

  -- "1,457 slots"
  pub few_slots : length (slots_of o p C x) ≤ 1457
  unfolding table_slots
  few_slots =
      omega (
        arith,
        length_gather S.intervals (interval_slots table),
        sum_le S.intervals {f = λ j. length (interval_slots table j)} {g = λ j. 31} few_in_interval,
        sum_const S.intervals 31,
        few_intervals o fit,
      )
