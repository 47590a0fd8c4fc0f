-- Any plan at all, as pieces of fan time and back: none where some set is above the top rate, and one where the first class is not.
use mathlib.Core.Bool.{Bool}
use mathlib.Core.Logic.{inl, inr}
use mathlib.Core.Path.{◌∙◌, ◌≡◌, ap, refl, subst, sym}
use mathlib.Core.List.{List, [], ◌∷◌}
use Prim.Native.Nat.{ℕ, ◌*◌, ◌-◌, ◌≤◌, ◌<◌}
use native.Mathlib.Nat.{add-zero, mul-le-mul_left, mul-lt-mul_of_pos_right}
use native.Mathlib.Numerals.{add-one}
use native.Mathlib.Omega.{arith}
use lib.Dec.{T, eqb, leb, leb→le, ltb, ltb→lt}
use lib.ListN.{length, get_or}
use Rattle.model.specs.Sets.{Doses, on, weight}
use Rattle.model.specs.Lists.{Pairs, also, gather, lone, none, then, total}
use Rattle.model.specs.Orders.{Order, dose_at}
use Rattle.model.specs.Classes.{Classes, P, Row, Setting, W}
use Rattle.model.specs.Intervals.{fans_present, setting_of}
use Rattle.model.specs.Plans.{Slot}
use Rattle.model.specs.Stands.{NoOverlap, SlotsStand, ends, starts}
use Rattle.model.specs.FreePlans.{FreeNamed, FreeNoOverlap, FreePlan, FreeSlot}
use Rattle.model.proofs.Sums.{sum_congr}
use Rattle.model.proofs.Sets.{and_left, and_right}
use Rattle.model.proofs.Sequence.{nested}
use Rattle.model.proofs.Cells.{cover}
use Rattle.model.proofs.Moments.{Pieces, Runs}
use Rattle.demands.proofs.Demand2.FreeBound.{Delivers}
use Rattle.model.proofs.Orders.{Fit}
use Rattle.model.proofs.Lists.{All-at, All-gather, Pairs-at, Pairs-gather, total_at, total_gather}
use Rattle.model.proofs.Windows.{active_there, first_instant, last_instant, starts_open}
use Rattle.model.proofs.PlanPieces.{crew_all, ends_by, eqb_flip, grid, grid_pos, house_of, named_at, no_slot, pieces_run, pieces_total, pieces_of, scale, scale_class, slot_from, slot_to, slot_at, unit_pos}
use Rattle.model.proofs.ValidShares.{class_weighs}
use Rattle.demands.proofs.Demand2.Refusal as Theory

-- what stands for a slot past the last
abbrev no_free : FreeSlot
no_free = record { fan = 0; dose = 0; start = 0; end = 0; rate = 0 }

-- ---- from a free plan to pieces

module _ (o : Order) (f : FreePlan o) where
  abbrev at : ℕ → FreeSlot
  at i = get_or f.slots i no_free

  abbrev pieces : Pieces
  pieces = record {
    Q = f.q;
    m = length f.slots;
    s = λ i. (at i).start;
    e = λ i. (at i).end;
    fan = λ i. (at i).fan - 1;
    dose = λ i. (at i).dose;
  }

  named : (i : ℕ) → i < length f.slots → FreeNamed o f.q f.r (at i)
  named = All-at no_free f.named

  apart : (s u : FreeSlot) → FreeNoOverlap s u → (x : ℕ) → T (cover s.start s.end x) → T (cover u.start u.end x) → ⊥
  apart s u h x t t' =
      let a = leb→le s.start x (and_left (leb s.start x) (ltb x s.end) t) in
      let b = ltb→lt x s.end (and_right (leb s.start x) (ltb x s.end) t) in
      let c = leb→le u.start x (and_left (leb u.start x) (ltb x u.end) t') in
      let d = ltb→lt x u.end (and_right (leb u.start x) (ltb x u.end) t') in
      elim h [ inl e ↦ omega arith | inr e ↦ omega arith ]

  runs : Runs (setting_of o) (house_of o) pieces
  runs = record {
    doses_apart = λ x i i' l l' t t' e. apart (at i) (at i') (Pairs-at no_free f.doses_apart i i' l l' e) x t t';
    fans_apart = λ x i i' l l' t t' e.
        apart (at i) (at i') (Pairs-at no_free f.fans_apart i i' l l' (omega (arith, (named i (omega arith)).fan_from, (named i' l').fan_from))) x t t';
    in_dose = λ i l. (named i l).dose;
    in_fan = λ i l. omega (arith, (named i l).fan_from, (named i l).fan_to);
    from = λ i l. omega (arith, (named i l).opened, mul-le-mul_left f.q (first_instant o (at i).dose (named i l).dose));
    to = λ i l. omega (arith, (named i l).closed, mul-le-mul_left f.q (last_instant o (at i).dose (named i l).dose));
    awake = λ j x i l r c t.
        active_there o (at i).dose (named i r).dose f.q x
        (omega (arith, (named i r).opened, leb→le (at i).start x (and_left (leb (at i).start x) (ltb x (at i).end) t)))
        (omega (arith, (named i r).closed, ltb→lt x (at i).end (and_right (leb (at i).start x) (ltb x (at i).end) t)))
        j l c.low (rw (add-one j) c.high);
    there = λ j x i l r c t. tt;
  }

  -- a free plan, piece by piece
  pub as_pieces : Theory.FreePlan (setting_of o) (house_of o) o.top_grams o.top_seconds
  unfolding weight
  as_pieces = record {
    pieces = pieces;
    runs = runs;
    cells = f.ticks;
    rate = λ i. (at i).rate;
    denominator = f.r;
    whole = f.whole;
    delivers = λ k l.
        sum_congr (length f.slots) (λ i r. ap (λ (b : Bool). on b (((at i).end - (at i).start) * (at i).rate)) (eqb_flip (at i).dose k))
        ∙ sym (total_at (λ s. on (eqb k s.dose) ((s.end - s.start) * s.rate)) f.slots no_free) ∙ f.delivers k l;
    slow = λ i l. (named i l).slow;
  }

-- no plan within the top rate, if any set is above it
pub none_above : (o : Order) (A : Doses) → P (setting_of o) (fans_present o) A * o.top_grams < W (setting_of o) A * o.top_seconds → FreePlan o → ⊥
none_above o A h f =
    Theory.none_if_refused (setting_of o) (house_of o) o.top_grams o.top_seconds A
    (subst (λ (F : Row). P (setting_of o) F A * o.top_grams < W (setting_of o) A * o.top_seconds) (sym (crew_all o)) h) (as_pieces o f)

-- ---- from a plan of the classes to a free plan

singles_pairs : {R : FreeSlot → FreeSlot → Type 0} (m : ℕ) (f : ℕ → FreeSlot) → ((i k : ℕ) → i < k → k < m → R (f i) (f k)) → Pairs R (gather m (λ i. f i ∷ []))
singles_pairs m f h =
    Pairs-gather (λ i a. a ≡ f i) m _ (λ i l. also refl none) (λ i k l r a b e g. rw (e, g) (h i k l r)) (λ i l. then none lone)

module _ (o : Order) (fit : Fit o) (p : ℕ) (C : ℕ → Doses) (c : Classes (setting_of o) (fans_present o) p C) (slots : List Slot) (st : SlotsStand o p C slots)
    (first : 0 < p → W (setting_of o) (C 0) * o.top_seconds ≤ P (setting_of o) (fans_present o) (C 0) * o.top_grams) where
  abbrev S : Setting
  S = setting_of o

  some : (l : ℕ) → l < p → 0 < W S (C l)
  some = class_weighs o p C c fit

  pos : 0 < grid o p C 1
  pos = grid_pos o p C 1 some (omega arith)

  own : (g : Theory.FreePlan S (house_of o) o.top_grams o.top_seconds) × (g.pieces ≡ pieces_of o p C 1 slots)
  own =
      let F = sym (crew_all o) in
      let c' = subst (λ (F : Row). Classes S F p C) F c in
      let open_first : 0 < p → 0 < P S _ (C 0) = λ l. subst (λ (F : Row). 0 < P S F (C 0)) F (starts_open o fit (C 0) (c.next 0 l).some) in
      let slow = subst (λ (F : Row). 0 < p → W S (C 0) * o.top_seconds ≤ P S F (C 0) * o.top_grams) F first in
      let totals = pieces_total o p C 1 slots st (nested S (fans_present o) p C c p (omega arith)) in
      let g = Theory.one_if_accepted S (house_of o) o.top_grams o.top_seconds p C c' open_first (pieces_of o p C 1 slots) (pieces_run o p C 1 slots st pos) pos totals in
      (g slow, Theory.own_pieces S (house_of o) o.top_grams o.top_seconds p C c' open_first (pieces_of o p C 1 slots) (pieces_run o p C 1 slots st pos) pos totals slow)

  -- slot i at its class's rate
  abbrev freely : ℕ → FreeSlot
  freely i = record {
    fan = (slot_at slots i).fan;
    dose = (slot_at slots i).dose;
    start = starts (slot_at slots i) * scale o p C 1 (slot_at slots i);
    end = ends (slot_at slots i) * scale o p C 1 (slot_at slots i);
    rate = own.0.rate i;
  }

  free_named : (i : ℕ) → i < length slots → FreeNamed o (grid o p C 1) own.0.denominator (freely i)
  free_named i l =
      let s = slot_at slots i in
      let n = named_at o p C 1 slots st i l in
      record {
        dose = n.dose;
        fan_from = n.fan_from;
        fan_to = n.fan_to;
        long = mul-lt-mul_of_pos_right n.long (rw (scale_class o p C 1 s n) (unit_pos o p C 1 some (omega arith) n.class n.known));
        opened = slot_from o p C 1 s n _ n.window.low;
        closed = slot_to o p C 1 s n _ n.window.high;
        slow = own.0.slow i (rw own.1 l);
      }

  free_apart : (i k : ℕ) → i < k → k < length slots → NoOverlap (slot_at slots i) (slot_at slots k) → FreeNoOverlap (freely i) (freely k)
  free_apart i k l h a =
      let n = named_at o p C 1 slots st i (omega arith) in
      let m = named_at o p C 1 slots st k h in
      elim a [ inl e ↦ inl (ends_by o p C 1 _ _ n m pos e) | inr e ↦ inr (ends_by o p C 1 _ _ m n pos e) ]

  free_delivers : (d : ℕ) → d < S.doses
      → total (λ s. on (eqb d s.dose) ((s.end - s.start) * s.rate)) (gather (length slots) (λ i. freely i ∷ [])) ≡ grid o p C 1 * own.0.denominator * (dose_at o d).grams
  unfolding weight total
  free_delivers d l =
      total_gather _ (length slots) (λ i. freely i ∷ [])
      ∙ sum_congr (length slots) (λ i r. add-zero _ ∙ ap (λ (b : Bool). on b (((freely i).end - (freely i).start) * (freely i).rate)) (eqb_flip d (freely i).dose))
      ∙ subst (λ (Z : Pieces). Delivers S Z own.0.rate own.0.denominator) own.1 own.0.delivers d l

  -- the slots of a plan of the classes, each at its class's rate, are a plan within the top rate if the first class is
  pub free_plan : FreePlan o
  free_plan = record {
    q = grid o p C 1;
    r = own.0.denominator;
    ticks = pos;
    whole = own.0.whole;
    slots = gather (length slots) (λ i. freely i ∷ []);
    named = All-gather (length slots) _ (λ i l. also (free_named i l) none);
    fans_apart = singles_pairs (length slots) freely (λ i k l h e. free_apart i k l h (Pairs-at no_slot st.fans_apart i k l h e));
    doses_apart = singles_pairs (length slots) freely (λ i k l h e. free_apart i k l h (Pairs-at no_slot st.doses_apart i k l h e));
    delivers = free_delivers;
  }
