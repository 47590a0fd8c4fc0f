-- A dose that stays where none of its slots lies, and who runs while it has no fan.
use mathlib.Core.Bool.{Bool, false, true}
use mathlib.Core.Logic.{◌⊎◌, inl, inr}
use mathlib.Core.Path.{◌∙◌, ◌≡◌, refl, subst, sym}
use mathlib.Core.List.{List, [], ◌∷◌}
use Prim.Native.Nat.{ℕ, zero, suc, ◌+◌, ◌*◌, ◌-◌, ◌≤◌, ◌<◌}
use native.Mathlib.Nat.{mul-le-mul_left, mul-lt-mul_of_pos_left}
use native.Mathlib.Numerals.{add-one}
use native.Mathlib.Omega.{arith}
use lib.Dec.{T, eqb, eqb→eq}
use lib.ListN.{length, get_or}
use Rattle.model.specs.Sets.{Doses, on}
use Rattle.model.specs.Orders.{Order, dose_at}
use Rattle.model.specs.Classes.{Classes, Row, Setting, W, class_p}
use Rattle.model.specs.Intervals.{fans_present, instant_at, setting_of}
use Rattle.model.specs.Plans.{Slot}
use Rattle.model.specs.Stands.{SlotsStand, ends, starts}
use Rattle.model.specs.Line.{HasFan, OneOf, RunsAt, weight_of, time_of, units_before}
use Rattle.model.proofs.Sums.{sum_congr}
use Rattle.model.proofs.Sequence.{nested}
use Rattle.model.proofs.Moments.{InInterval, Pieces, Runs, runs_at}
use Rattle.model.proofs.Certificate.{Exact, exact}
use Rattle.demands.proofs.Demand3.Waiting.{waiting}
use Rattle.model.proofs.Orders.{Fit}
use Rattle.model.proofs.Lists.{total_at}
use Rattle.model.proofs.Windows.{active_there, heavy, moment_interval}
use Rattle.model.proofs.ValidShares.{class_weighs}
use Rattle.model.proofs.PlanPieces.{cell_covers, cells, cells_pos, crew_all, grid, grid_pos, house_of, named_at, no_slot, pieces_run, pieces_total, pieces_of, slot_at}
use Rattle.model.proofs.DrawnLine.{class_of, dose_rate, names_class}

-- slot i is one of the slots, whatever stands past the last
get_d_any : (l : List Slot) (i : ℕ) → i < length l → (u v : Slot) → get_or l i u ≡ get_or l i v
get_d_any [] i h u v = absurd (omega arith)
get_d_any (s ∷ l) zero h u v = refl
get_d_any (s ∷ l) (suc i) h u v = get_d_any l i (omega arith) u v

one_of : (slots : List Slot) (i : ℕ) → i < length slots → OneOf slots (slot_at slots i)
one_of slots i h = record { index = i; listed = h; there = λ u. get_d_any slots i h u no_slot }

on_agree : (b : Bool) (x y : ℕ) → (T b → x ≡ y) → on b x ≡ on b y
on_agree true x y h = h tt
on_agree false x y h = refl

-- a dose's units stay where none of its slots lies
pub rests : (slots : List Slot) (d t h : ℕ) → ((s : Slot) → OneOf slots s → s.dose ≡ d → (ends s ≤ t * s.weight) ⊎ ((t + h) * s.weight ≤ starts s))
    → units_before slots d (t + h) ≡ units_before slots d t
unfolding units_before
rests slots d t h g =
    total_at _ slots no_slot
    ∙ sum_congr (length slots) (λ i r. let s = slot_at slots i in on_agree (eqb d s.dose) _ _ (λ b.
    elim (g s (one_of slots i r) (sym (eqb→eq d s.dose b))) [ inl e ↦ omega arith | inr e ↦ omega arith ]))
    ∙ sym (total_at _ slots no_slot)

-- ---- a dose without a fan, at the moment x/q inside its window

module _ (o : Order) (fit : Fit o) (p : ℕ) (C : ℕ → Doses) (c : Classes (setting_of o) (fans_present o) p C) (slots : List Slot) (st : SlotsStand o p C slots)
    (d : ℕ) (dn : d < (setting_of o).doses) (q x : ℕ) (some-q : 0 < q) (opened : q * (dose_at o d).release ≤ x) (closes : x < q * (dose_at o d).deadline) where
  abbrev S : Setting
  S = setting_of o

  some : (l : ℕ) → l < p → 0 < W S (C l)
  some = class_weighs o p C c fit

  abbrev Zq : Pieces
  Zq = pieces_of o p C q slots

  fine : 0 < grid o p C q
  fine = grid_pos o p C q some some-q

  runs_q : Runs S (house_of o) Zq
  runs_q = pieces_run o p C q slots st fine

  takes : Exact S (house_of o) Zq p C
  takes = exact S (house_of o) Zq runs_q p C (pieces_total o p C q slots st (nested S (fans_present o) p C c p (omega arith))) (heavy o fit) (λ i h. (c.next i h).some)

  here : (j : ℕ) × (j < S.intervals) × (q * instant_at o j ≤ x) × (x < q * instant_at o (j + 1))
  here = moment_interval o d dn q x opened closes

  in_cell : InInterval (grid o p C q) (instant_at o) here.0 (x * cells o p C q)
  in_cell = record {
    low = omega (arith, mul-le-mul_left (cells o p C q) here.2);
    high = rw (← add-one here.0) (omega (arith, mul-lt-mul_of_pos_left here.3 (cells_pos o p C q some some-q)));
  }

  -- every fan runs, at its rate or above
  pub runs_others : (HasFan slots q x d → ⊥) → (f : ℕ) → 1 ≤ f → f ≤ o.fans → RunsAt slots q x f (weight_of slots d) (time_of slots d)
  runs_others waits f low high =
      let m = class_of o fit p C c slots st d dn in
      let c' = subst (λ (F : Row). Classes S F p C) (sym (crew_all o)) c in
      let without : (i : ℕ) → i < length slots → T (runs_at Zq (x * cells o p C q) i) → (slot_at slots i).dose ≡ d → ⊥ = λ i h t e.
      waits (record { slot = slot_at slots i; one = one_of slots i h; dose = e; covers = cell_covers o p C q (slot_at slots i) (named_at o p C q slots st i h) some x t }) in
      let r = waiting S (house_of o) Zq runs_q p C c' takes m.class d m.known dn m.member here.0 (x * cells o p C q) here.1 in_cell
      (active_there o d dn q x opened closes here.0 here.1 here.2 here.3) without (f - 1) (omega arith) tt in
      let s = slot_at slots r.piece in
      let n = named_at o p C q slots st r.piece r.listed in
      let own = dose_rate o fit p C c slots st d dn m in
      let his = names_class o fit p C c slots st s.dose n.dose (record { class = r.class; known = omega (arith, r.no_later, m.known); member = r.of_class }) r.piece r.listed refl in
      let faster = subst (λ (F : Row). W S (C m.class) * class_p S F C r.class ≤ W S (C r.class) * class_p S F C m.class) (crew_all o) r.no_slower_than in
      record {
        slot = s;
        one = one_of slots r.piece r.listed;
        fan = omega (arith, r.by_fan, n.fan_from);
        covers = cell_covers o p C q s n some x r.covers;
        rate = rw (own.0, own.1, his.0, his.1) faster;
      }
