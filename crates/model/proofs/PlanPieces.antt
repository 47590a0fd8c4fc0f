-- The slots of a plan as pieces of fan time on a grid on which every slot starts and ends: they run where they may, and each dose has its time.
use mathlib.Core.Bool.{Bool, false, true}
use mathlib.Core.Logic.{inl, inr}
use mathlib.Core.Path.{◌∙◌, ◌≡◌, ap, fun_ext, refl, sym}
use mathlib.Core.List.{List}
use Prim.Native.Nat.{ℕ, suc, ◌+◌, ◌*◌, ◌-◌, ◌≤◌, ◌<◌, min}
use native.Mathlib.Nat.{le_of_lt, le_of_mul-le-mul_left, lt_of_mul-lt-mul_left, min-eq_left, min-eq_right, mul-le-mul_left, mul-pos, mul-sub}
use native.Mathlib.Numerals.{add-one}
use native.Mathlib.Omega.{arith}
use borrow.Author.Tests.{eqb-true}
use lib.Dec.{T, eqb, eqb_refl, eqb→eq, leb, leb→le, ltb, ltb→lt}
use lib.ListN.{length, get_or}
use Rattle.model.specs.Sets.{Doses, on, weight}
use Rattle.model.specs.Lists.{total}
use Rattle.model.specs.Orders.{Order, dose_at}
use Rattle.model.specs.Classes.{Row, Setting, W, class_p}
use Rattle.model.specs.Intervals.{fans_present, instant_at, interval_count, setting_of}
use Rattle.model.specs.Plans.{Slot}
use Rattle.model.specs.Stands.{EndsBy, Named, NoOverlap, SlotsStand, ends, starts, units_of}
use Rattle.model.specs.Line.{Covers, units_before}
use Rattle.model.proofs.Sums.{sum_congr, sum_scale}
use Rattle.model.proofs.Sets.{and_left, and_right, same_test, size_all}
use Rattle.model.proofs.Fractions.{compare≤, pos_left}
use Rattle.model.proofs.Sequence.{Nested, nested_one}
use Rattle.model.proofs.Cells.{cover}
use Rattle.model.proofs.Moments.{House, Pieces, Runs, crew}
use Rattle.model.proofs.Amounts.{ran}
use Rattle.model.proofs.Certificate.{Totals}
use Rattle.model.proofs.Products.{others, others_times, product, product_pos}
use Rattle.model.proofs.Intervals.{instants_rise}
use Rattle.model.proofs.Lists.{All-at, Pairs-at, total_at}
use Rattle.model.proofs.Windows.{active_there, first_instant, last_instant}

-- ---- the house of an order

-- an interval ends its length after its start
pub interval_edges : (o : Order) (j : ℕ) → j < interval_count o → instant_at o (suc j) ≡ instant_at o j + (instant_at o (j + 1) - instant_at o j)
interval_edges o j l = rw (← add-one j) (omega (arith, instants_rise o j l))

-- all fans of the order, in every interval
abbrev pub house_of : (o : Order) → House (setting_of o)
house_of o = record { τ = instant_at o; edges = interval_edges o; fans = o.fans; present = λ f j. true }

-- its fans are the order's
pub crew_all : (o : Order) → crew (house_of o) ≡ fans_present o
crew_all o = fun_ext (λ j. size_all o.fans)

-- ---- slots by place

-- what stands for a slot past the last
abbrev pub no_slot : Slot
no_slot = record { fan = 0; dose = 0; start_tick = 0; start_part = 0; end_tick = 0; end_part = 0; weight = 0; time = 0; class = 0 }

-- slot i
abbrev pub slot_at : List Slot → ℕ → Slot
slot_at slots i = get_or slots i no_slot

-- the same test
pub eqb_flip : (d k : ℕ) → eqb d k ≡ eqb k d
eqb_flip d k = same_test (eqb d k) (eqb k d) (λ t. rw (eqb→eq d k t) (eqb_refl k)) (λ t. rw (eqb→eq k d t) (eqb_refl d))

-- a number of dose d's pieces against one of its slots
on_dose : (d k y z R : ℕ) → (d ≡ k → y ≡ R * z) → on (eqb d k) y ≡ R * on (eqb k d) z
on_dose d k y z R h = go (eqb d k) refl ∙ ap (λ (b : Bool). R * on b z) (eqb_flip d k)
  where
    go : (b : Bool) → eqb d k ≡ b → on b y ≡ R * on b z
    go true e = h (eqb-true d k e)
    go false e = omega arith

-- R times a difference, and times what lies before a limit
times_less : (R a b : ℕ) → a * R - b * R ≡ R * (a - b)
times_less R a b = rw (mul-sub R a b) (omega arith)

times_before : (R a c b : ℕ) → min (a * R) (c * R) - b * R ≡ R * (min a c - b)
times_before R a c b = elim (compare≤ a c) [
  | inl h ↦ rw (min-eq_left h, min-eq_left {n = a * R} {m = c * R} (omega (arith, mul-le-mul_left R h))) (times_less R a b)
  | inr h ↦ rw (min-eq_right (le_of_lt h), min-eq_right {n = c * R} {m = a * R} (omega (arith, mul-le-mul_left R (le_of_lt h)))) (times_less R c b)
]

-- ---- the grid: a tick has q times the product of the classes' W cells

module _ (o : Order) (p : ℕ) (C : ℕ → Doses) (q : ℕ) where
  abbrev S : Setting
  S = setting_of o

  abbrev Wl : ℕ → ℕ
  Wl l = W S (C l)

  -- the cells of 1/q tick
  abbrev pub cells : ℕ
  cells = product p Wl

  -- and those of a tick
  abbrev pub grid : ℕ
  grid = q * cells

  -- the cells of a unit of class l, 1/W tick
  abbrev pub unit : ℕ → ℕ
  unit l = q * others p Wl l

  -- the cells of a unit of a slot
  abbrev pub scale : Slot → ℕ
  scale s = unit (s.class - 1)

  -- the pieces of the slots
  abbrev pub pieces_of : List Slot → Pieces
  pieces_of slots = record {
    Q = grid;
    m = length slots;
    s = λ i. starts (slot_at slots i) * scale (slot_at slots i);
    e = λ i. ends (slot_at slots i) * scale (slot_at slots i);
    fan = λ i. (slot_at slots i).fan - 1;
    dose = λ i. (slot_at slots i).dose;
  }

  -- a class has W units to the tick
  pub class_grid : (l : ℕ) → l < p → Wl l * unit l ≡ grid
  class_grid l h = omega (arith, ap (λ (y : ℕ). q * y) (others_times p Wl l h))

  module _ (some : (l : ℕ) → l < p → 0 < Wl l) (pos : 0 < q) where
    -- 1/q tick has cells
    pub cells_pos : 0 < cells
    cells_pos = product_pos p Wl some

    -- and a tick has some
    pub grid_pos : 0 < grid
    grid_pos = mul-pos pos cells_pos

    -- and so has a unit of a class
    pub unit_pos : (l : ℕ) → l < p → 0 < unit l
    unit_pos l h = pos_left 0 (unit l) (Wl l) (omega (arith, class_grid l h, grid_pos))

  -- ---- one slot

  module _ (s : Slot) (n : Named o p C s) where
    -- its units are those of its class
    pub scale_class : scale s ≡ unit n.class
    scale_class = ap (λ (c : ℕ). unit c) (omega (arith, n.number))

    -- W of them to the tick
    pub slot_grid : scale s * s.weight ≡ grid
    slot_grid = rw (scale_class, n.weight) (omega (arith, class_grid n.class n.known))

    others_grid : others p Wl (s.class - 1) * s.weight ≡ cells
    others_grid = let e : s.class - 1 ≡ n.class = omega (arith, n.number) in rw (e, n.weight) (others_times p Wl n.class n.known)

    -- after a tick
    pub slot_from : (a : ℕ) → a * s.weight ≤ starts s → grid * a ≤ starts s * scale s
    slot_from a h = omega (arith, mul-le-mul_left (scale s) h, ap (λ (y : ℕ). a * y) slot_grid)

    -- and before one
    pub slot_to : (b : ℕ) → ends s ≤ b * s.weight → ends s * scale s ≤ grid * b
    slot_to b h = omega (arith, mul-le-mul_left (scale s) h, ap (λ (y : ℕ). b * y) slot_grid)

    module _ (some : (l : ℕ) → l < p → 0 < Wl l) where
      others_pos : 0 < others p Wl (s.class - 1)
      others_pos = pos_left 0 (others p Wl (s.class - 1)) s.weight (omega (arith, others_grid, product_pos p Wl some))

      -- it covers the moment x/q where it has the cell
      pub cell_covers : (x : ℕ) → T (cover (starts s * scale s) (ends s * scale s) (x * cells)) → Covers q x s
      cell_covers x t =
          let k = others p Wl (s.class - 1) in
          let low = leb→le (starts s * scale s) (x * cells) (and_left (leb (starts s * scale s) (x * cells)) (ltb (x * cells) (ends s * scale s)) t) in
          let high = ltb→lt (x * cells) (ends s * scale s) (and_right (leb (starts s * scale s) (x * cells)) (ltb (x * cells) (ends s * scale s)) t) in
          record {
            from = le_of_mul-le-mul_left {k = k} (omega (arith, low, ap (λ (y : ℕ). x * y) others_grid)) others_pos;
            after = lt_of_mul-lt-mul_left k (omega (arith, high, ap (λ (y : ℕ). x * y) others_grid));
          }

  -- ---- two slots

  -- one ends in a cell before the other starts
  pub ends_by : (s u : Slot) → Named o p C s → Named o p C u → 0 < grid → EndsBy s u → ends s * scale s ≤ starts u * scale u
  ends_by s u n m pos e =
      le_of_mul-le-mul_left {k = grid} (omega (
        arith,
        mul-le-mul_left (scale s * scale u) e.by,
        ap (λ (y : ℕ). ends s * scale s * y) (slot_grid u m),
        ap (λ (y : ℕ). starts u * scale u * y) (slot_grid s n),
      )) pos

  -- slots that do not overlap do not share a cell
  pub no_shared_cell : (s u : Slot) → Named o p C s → Named o p C u → 0 < grid → NoOverlap s u
      → (x : ℕ) → T (cover (starts s * scale s) (ends s * scale s) x) → T (cover (starts u * scale u) (ends u * scale u) x) → ⊥
  no_shared_cell s u n m pos apart x t t' =
      let a = leb→le (starts s * scale s) x (and_left (leb (starts s * scale s) x) (ltb x (ends s * scale s)) t) in
      let b = ltb→lt x (ends s * scale s) (and_right (leb (starts s * scale s) x) (ltb x (ends s * scale s)) t) in
      let c = leb→le (starts u * scale u) x (and_left (leb (starts u * scale u) x) (ltb x (ends u * scale u)) t') in
      let d = ltb→lt x (ends u * scale u) (and_right (leb (starts u * scale u) x) (ltb x (ends u * scale u)) t') in
      elim apart [ inl e ↦ omega (arith, ends_by s u n m pos e) | inr e ↦ omega (arith, ends_by u s m n pos e) ]

  -- ---- all slots

  module _ (slots : List Slot) (st : SlotsStand o p C slots) where
    -- slot i is named
    pub named_at : (i : ℕ) → i < length slots → Named o p C (slot_at slots i)
    named_at = All-at no_slot st.named

    -- the pieces run where they may
    pub pieces_run : 0 < grid → Runs S (house_of o) (pieces_of slots)
    pieces_run pos = record {
      doses_apart = λ x i i' l l' t t' e.
          no_shared_cell (slot_at slots i) (slot_at slots i') (named_at i (omega arith)) (named_at i' l') pos
          (Pairs-at no_slot st.doses_apart i i' l l' e) x t t';
      fans_apart = λ x i i' l l' t t' e.
          no_shared_cell (slot_at slots i) (slot_at slots i') (named_at i (omega arith)) (named_at i' l') pos
          (Pairs-at no_slot st.fans_apart i i' l l' (omega (arith, (named_at i (omega arith)).fan_from, (named_at i' l').fan_from))) x t t';
      in_dose = λ i l. (named_at i l).dose;
      in_fan = λ i l. omega (arith, (named_at i l).fan_from, (named_at i l).fan_to);
      from = λ i l. omega (arith, opened i l, mul-le-mul_left grid (first_instant o (slot_at slots i).dose (named_at i l).dose));
      to = λ i l. omega (arith, closed i l, mul-le-mul_left grid (last_instant o (slot_at slots i).dose (named_at i l).dose));
      awake = λ j x i l r at t.
          active_there o (slot_at slots i).dose (named_at i r).dose grid x
          (omega (arith, opened i r, leb→le (begins i) x (and_left (leb (begins i) x) (ltb x (stops i)) t)))
          (omega (arith, closed i r, ltb→lt x (stops i) (and_right (leb (begins i) x) (ltb x (stops i)) t)))
          j l at.low (rw (add-one j) at.high);
      there = λ j x i l r at t. tt;
    }
      where
        begins : ℕ → ℕ
        begins i = starts (slot_at slots i) * scale (slot_at slots i)

        stops : ℕ → ℕ
        stops i = ends (slot_at slots i) * scale (slot_at slots i)

        opened : (i : ℕ) → i < length slots → grid * (dose_at o (slot_at slots i).dose).release ≤ begins i
        opened i l = slot_from (slot_at slots i) (named_at i l) _ (named_at i l).window.low

        closed : (i : ℕ) → i < length slots → stops i ≤ grid * (dose_at o (slot_at slots i).dose).deadline
        closed i l = slot_to (slot_at slots i) (named_at i l) _ (named_at i l).window.high

    -- ---- one dose of class l

    module _ (nest : Nested S.doses C p) (l k : ℕ) (lp : l < p) (kn : k < S.doses) (mine : T (C l k)) where
      -- its slots name class l
      pub class_at_lem : (i : ℕ) (h : i < length slots) → (slot_at slots i).dose ≡ k → (named_at i h).class ≡ l
      class_at_lem i h e = let n = named_at i h in nested_one S.doses C p nest n.class l k n.known lp kn (rw e at n.member) mine

      -- what is a unit's cells times as much for each of its pieces is so for all
      by_slots : (g : ℕ → ℕ) (f : Slot → ℕ)
          → ((i : ℕ) (h : i < length slots) → scale (slot_at slots i) ≡ unit l → g i ≡ unit l * f (slot_at slots i))
          → weight (length slots) g (λ i. eqb (slot_at slots i).dose k) ≡ unit l * total (λ s. on (eqb k s.dose) (f s)) slots
      unfolding weight
      by_slots g f h =
          sum_congr (length slots) (λ i r. on_dose (slot_at slots i).dose k (g i) (f (slot_at slots i)) (unit l)
          (λ e. h i r (scale_class (slot_at slots i) (named_at i r) ∙ ap (λ (c : ℕ). unit c) (class_at_lem i r e))))
          ∙ sum_scale (length slots) (unit l) _
          ∙ ap (λ (y : ℕ). unit l * y) (sym (total_at (λ s. on (eqb k s.dose) (f s)) slots no_slot))

      -- its pieces have its units
      pub units_cells : weight (length slots) (λ i. (pieces_of slots).e i - (pieces_of slots).s i) (λ i. eqb (slot_at slots i).dose k) ≡ unit l * total (units_of k) slots
      units_cells =
          by_slots _ (λ s. ends s - starts s) (λ i r e. rw e (times_less (unit l) (ends (slot_at slots i)) (starts (slot_at slots i))))

      -- and before tick t its units before t
      pub before_cells : (t : ℕ) → ran (pieces_of slots) k (grid * t) ≡ unit l * units_before slots k t
      unfolding units_before
      before_cells t =
          by_slots _ (λ s. min (ends s) (t * s.weight) - starts s) (λ i r e.
          let u = slot_at slots i in
          let edge : grid * t ≡ t * u.weight * unit l = omega (arith, ap (λ (y : ℕ). t * y) (slot_grid u (named_at i r)), ap (λ (y : ℕ). t * u.weight * y) e) in
          rw (e, edge) (times_before (unit l) (ends u) (t * u.weight) (starts u)))

    -- each dose's pieces last what its grams say
    pub pieces_total : Nested S.doses C p → Totals S (house_of o) (pieces_of slots) p C
    pieces_total nest l k lp kn mine =
        omega (
          arith,
          ap (λ (y : ℕ). Wl l * y) (units_cells nest l k lp kn mine),
          ap (λ (y : ℕ). Wl l * unit l * y) (st.totals l k lp kn mine),
          ap (λ (y : ℕ). y * (S.grams k * class_p S (fans_present o) C l)) (class_grid l lp),
          ap (λ (F : Row). grid * S.grams k * class_p S F C l) (crew_all o),
        )
