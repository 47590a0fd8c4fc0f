-- Laws of shares and seen stations: sums under one store, what a search leaves alone, and what no way leads on from.
-- Assumes nothing.
use Prim.Native.Nat.{ℕ, zero, suc, ◌+◌, ◌-◌, ◌*◌, ◌<◌, ◌≤◌}
use mathlib.Core.List.{List, [], ◌∷◌}
use mathlib.Core.Bool.{Bool, true, false}
use mathlib.Core.Path.{◌≡◌, refl, sym, ap, ◌∙◌}
use mathlib.Core.Logic.{◌≢◌}
use lib.ListN.{length, get_or, set}
use lib.Seq.{get_or-set_other}
use native.Mathlib.Omega.{arith}
use Rattle.model.specs.Limits.{cells, most_doses, most_intervals}
use Rattle.model.specs.Sets.{sum}
use Rattle.model.proofs.Sums.{sum_congr, sum_up}
use Rattle.steps.proofs.Tests.{not_both, alike}
use Rattle.steps.proofs.Loops.{sum_none, sum_more}
use Rattle.class_chains.specs.Chains.{unseen_count, cell, Seen, Unseen, got, given, Bounded, Written, Kept, Exhausted, DoseUp, IntervalDown}
use Rattle.class_chains.proofs.Cells.{at_same, at_other_row, at_other_col, row_change, col_change, row_other, col_other}

-- ---- sums as a loop makes them

-- the first i of the n terms of f are added up to s
pub record Added (n : ℕ) (f : ℕ → ℕ) (i s : ℕ) : Type 0 where
  pub within : i ≤ n
  pub adds : s ≡ sum i f

module _ {n : ℕ} {f : ℕ → ℕ} where
  pub added_none : Added n f 0 0
  added_none = record { within = omega arith; adds = sum_none f }

  module _ {i s : ℕ} (so_far : Added n f i s) where
    pub added_next : i < n → Added n f (i + 1) (s + f i)
    added_next h = record { within = omega arith; adds = sum_more f i s (f i) so_far.adds refl }

    -- one term more is at most the whole sum
    pub added_most : i < n → s + f i ≤ sum n f
    added_most h = omega (arith, (added_next h).adds, sum_up f (i + 1) n (omega arith))

    pub added_all : n ≤ i → s ≡ sum n f
    added_all h = let e : i ≡ n = omega (arith, so_far.within) in rw e at so_far.adds

pub given_sum : (x : List ℕ) (j : ℕ) → sum most_doses (λ k. cell x k j) ≡ given x j
unfolding given
given_sum x j = refl

pub got_sum : (x : List ℕ) (k : ℕ) → sum most_intervals (λ j. cell x k j) ≡ got x k
unfolding got
got_sum x k = refl

-- the cells of a row stand side by side
pub got_side_by_side : (x : List ℕ) (d : ℕ) → sum most_intervals (λ i. get_or x (i * 1 + d * most_intervals) 0) ≡ got x d
unfolding got
got_side_by_side x d = sum_congr most_intervals (λ i h. ap (λ (n : ℕ). get_or x n 0) (omega arith))

-- ---- one cell is written

pub cell_written : (x : List ℕ) (d j v : ℕ) → d < most_doses → j < most_intervals → length x ≡ cells → Written d j v x (set x (d * most_intervals + j) v)
cell_written x d j v hd hj sized = record {
  own = at_same x most_doses most_intervals d j v hd hj sized;
  doses = at_other_row x most_doses most_intervals d j v hd hj sized;
  intervals = at_other_col x most_doses most_intervals d j v hd hj sized;
}

module _ {x y : List ℕ} (k j : ℕ) {v : ℕ} (hk : k < most_doses) (hj : j < most_intervals) (wrote : Written k j v x y) where
  pub got_own : got y k + cell x k j ≡ got x k + v
  unfolding got
  got_own = row_change x y most_doses most_intervals k j v hk hj wrote.own wrote.intervals

  pub given_own : given y j + cell x k j ≡ given x j + v
  unfolding given
  given_own = col_change x y most_doses most_intervals k j v hk hj wrote.own wrote.doses

  pub got_else : (e : ℕ) → e ≢ k → got y e ≡ got x e
  unfolding got
  got_else e d = row_other x y most_doses most_intervals k j v hk hj wrote.own wrote.doses e d

  pub given_else : (i : ℕ) → i < most_intervals → i ≢ j → given y i ≡ given x i
  unfolding given
  given_else i h d = col_other x y most_doses most_intervals k j v hk hj wrote.own wrote.intervals i h d

  -- every cell is within its room after the write, if this one is
  pub cells_after : (rooms : List ℕ) → ((e i : ℕ) → e < most_doses → i < most_intervals → cell x e i ≤ cell rooms e i) → v ≤ cell rooms k j
      → (e i : ℕ) → e < most_doses → i < most_intervals → cell y e i ≤ cell rooms e i
  cells_after rooms all own e i he hi =
      alike e k
      (λ p. alike i j (λ q. rw (p, q) (omega (arith, wrote.own))) (λ q. omega (arith, all e i he hi, wrote.intervals e i hi q)))
      (λ p. omega (arith, all e i he hi, wrote.doses e i hi p))

-- ---- marks

-- a station that is marked is one less
pub fewer : (l : List Bool) (i : ℕ) → i < length l → Unseen l i → unseen_count (set l i true) < unseen_count l
unfolding unseen_count
fewer [] i h e = absurd (let z : ⊥ = omega arith in z)
fewer (true ∷ l) zero h e = absurd (not_both refl e)
fewer (false ∷ l) zero h e = omega arith
fewer (true ∷ l) (suc i) h e = fewer l i (omega arith) e
fewer (false ∷ l) (suc i) h e = let q : unseen_count (set l i true) < unseen_count l = fewer l i (omega arith) e in omega arith

-- what is marked stays marked
pub marked : (l : List Bool) (i k : ℕ) → Seen l k → Seen (set l i true) k
marked [] i k e = e
marked (x ∷ l) zero zero e = refl
marked (x ∷ l) zero (suc k) e = e
marked (x ∷ l) (suc i) zero e = e
marked (x ∷ l) (suc i) (suc k) e = marked l i k e

-- ---- what a search leaves alone

pub kept_refl : (s : List Bool) (x : List ℕ) → Kept s x s x
kept_refl s x = record { more = λ k h. h; fewer = omega arith; doses = λ d j hd hj h. refl; intervals = λ d j hd hj h. refl }

pub kept_trans : {s t u : List Bool} {x y z : List ℕ} → Kept s x t y → Kept t y u z → Kept s x u z
kept_trans p q = record {
  more = λ k h. q.more k (p.more k h);
  fewer = omega arith;
  doses = λ d j hd hj h. q.doses d j hd hj (p.more d h) ∙ p.doses d j hd hj h;
  intervals = λ d j hd hj h. q.intervals d j hd hj (p.more (most_doses + j) h) ∙ p.intervals d j hd hj h;
}

-- a station is marked
pub kept_mark : (s : List Bool) (x : List ℕ) (i : ℕ) → i < length s → Unseen s i → Kept s x (set s i true) x
kept_mark s x i q e = record {
  more = λ k h. marked s i k h;
  fewer = let h : unseen_count (set s i true) < unseen_count s = fewer s i q e in omega arith;
  doses = λ d j hd hj h. refl;
  intervals = λ d j hd hj h. refl;
}

-- a cell whose dose and interval were not visited is written
pub kept_write : {s t : List Bool} {x y z : List ℕ} {d j v : ℕ} → Kept s x t y → Written d j v y z → (Seen s d → ⊥) → (Seen s (most_doses + j) → ⊥) → Kept s x t z
kept_write {s = s} p wrote e f = record {
  more = p.more;
  fewer = p.fewer;
  doses = λ d' j' hd' hj' h. wrote.doses d' j' hj' (λ q. e (ap (λ (n : ℕ). get_or s n false) (sym q) ∙ h)) ∙ p.doses d' j' hd' hj' h;
  intervals = λ d' j' hd' hj' h. wrote.intervals d' j' hj' (λ q. f (ap (λ (n : ℕ). get_or s (most_doses + n) false) (sym q) ∙ h)) ∙ p.intervals d' j' hd' hj' h;
}

-- a search that starts by a mark has fewer stations left at each call
pub falls_to : (s : List Bool) (i t : ℕ) {m : List Bool} {x y : List ℕ} → i < length s → Unseen s i → unseen_count s ≡ t → Kept (set s i true) x m y → unseen_count m < t
falls_to s i t h e q k = let w : unseen_count (set s i true) < unseen_count s = fewer s i h e in omega (arith, k.fewer)

-- ---- what no way leads on from

pub exhausted_none : (rooms holds : List ℕ) (least : ℕ) (x : List ℕ) (s : List Bool) → Exhausted rooms holds least x s s
exhausted_none rooms holds least x s = record {
  doses = λ e j he hj f t h. absurd (not_both t f);
  spares = λ j hj f t. absurd (not_both t f);
  intervals = λ e j he hj f t h. absurd (not_both t f);
}

-- the dose that was marked first is shut too
pub exhausted_dose : {rooms holds x : List ℕ} {least : ℕ} {m : List Bool} (s : List Bool) (d : ℕ) → d < most_doses → Exhausted rooms holds least x (set s d true) m
    → ((j : ℕ) → j < most_intervals → cell x d j + least ≤ cell rooms d j → Seen m (most_doses + j)) → Exhausted rooms holds least x s m
exhausted_dose s d hd p all = record {
  doses = λ e j he hj f h l. alike e d (λ q. all j hj (rw q at l)) (λ q. p.doses e j he hj (get_or-set_other s d e true false q ∙ f) h l);
  spares = λ j hj f h. p.spares j hj (get_or-set_other s d (most_doses + j) true false (λ z. omega arith) ∙ f) h;
  intervals = λ e j he hj f h l. p.intervals e j he hj (get_or-set_other s d (most_doses + j) true false (λ z. omega arith) ∙ f) h l;
}

-- and the interval
pub exhausted_interval : {rooms holds x : List ℕ} {least : ℕ} {m : List Bool} (s : List Bool) (i : ℕ) → i < most_intervals → Exhausted rooms holds least x (set s (most_doses + i) true) m
    → get_or holds i 0 < given x i + least → ((e : ℕ) → e < most_doses → least ≤ cell x e i → Seen m e) → Exhausted rooms holds least x s m
exhausted_interval s i hi p none all = record {
  doses = λ e j he hj f h l. p.doses e j he hj (get_or-set_other s (most_doses + i) e true false (λ z. omega arith) ∙ f) h l;
  spares = λ j hj f h. alike j i (λ q. rw q none) (λ q. p.spares j hj (get_or-set_other s (most_doses + i) (most_doses + j) true false (λ z. q (omega arith)) ∙ f) h);
  intervals = λ e j he hj f h l. alike j i (λ q. all e he (rw q at l)) (λ q. p.intervals e j he hj (get_or-set_other s (most_doses + i) (most_doses + j) true false (λ z. q (omega arith)) ∙ f) h l);
}

-- ---- totals

pub bounded_same : {rooms holds x y : List ℕ} → Bounded rooms holds x → y ≡ x → Bounded rooms holds y
bounded_same f e = rw e f

pub dose_still : {rooms holds x y : List ℕ} (d : ℕ) → Bounded rooms holds x → y ≡ x → DoseUp rooms holds d 0 x y
dose_still d f e = record { bounded = bounded_same f e; own = rw e (omega arith); others = λ k h q. rw e }

pub interval_still : {rooms holds x y : List ℕ} (j a : ℕ) → Bounded rooms holds x → y ≡ x → given x j + a ≤ get_or holds j 0 → IntervalDown rooms holds j a x y
interval_still j a f e h = record {
  roomy = λ k i hk hi. rw e (f.roomy k i hk hi);
  own = rw e h;
  others = λ i hi q. rw e (f.held i hi);
  doses = λ k hk. rw e;
}

pub interval_none : {rooms holds x y : List ℕ} (j : ℕ) → j < most_intervals → Bounded rooms holds x → y ≡ x → IntervalDown rooms holds j 0 x y
interval_none j hj f e = interval_still j 0 f e (omega (arith, f.held j hj))

-- the shares before are the same
pub down_from : {rooms holds x y z : List ℕ} {j a : ℕ} → x ≡ z → IntervalDown rooms holds j a x y → IntervalDown rooms holds j a z y
down_from e p = rw e at p

pub up_from : {rooms holds x y z : List ℕ} {d a : ℕ} → x ≡ z → DoseUp rooms holds d a x y → DoseUp rooms holds d a z y
up_from e p = rw e at p

-- dose d takes a in interval j, which could hold a more
pub dose_write : {rooms holds x y z : List ℕ} (d j a : ℕ) → d < most_doses → j < most_intervals → IntervalDown rooms holds j a x y → cell y d j + a ≤ cell rooms d j
    → Written d j (cell y d j + a) y z → DoseUp rooms holds d a x z
dose_write {rooms} d j a hd hj p room wrote = record {
  bounded = record {
    roomy = cells_after d j hd hj wrote rooms p.roomy room;
    held = λ i hi. alike i j
        (λ q. rw q (omega (arith, p.own, given_own d j hd hj wrote)))
        (λ q. omega (arith, p.others i hi q, given_else d j hd hj wrote i hi q));
  };
  own = omega (arith, p.doses d hd, got_own d j hd hj wrote);
  others = λ k hk q. got_else d j hd hj wrote k q ∙ p.doses k hk;
}

-- dose d, which has a more elsewhere, gives a back in interval j
pub interval_write : {rooms holds x y z : List ℕ} (d j a : ℕ) → d < most_doses → j < most_intervals → DoseUp rooms holds d a x y → a ≤ cell y d j
    → Written d j (cell y d j - a) y z → IntervalDown rooms holds j a x z
interval_write {rooms} d j a hd hj p less wrote = record {
  roomy = cells_after d j hd hj wrote rooms p.bounded.roomy (omega (arith, p.bounded.roomy d j hd hj));
  own = omega (arith, p.bounded.held j hj, given_own d j hd hj wrote);
  others = λ i hi q. omega (arith, p.bounded.held i hi, given_else d j hd hj wrote i hi q);
  doses = λ k hk. alike k d
      (λ q. rw q (omega (arith, p.own, got_own d j hd hj wrote)))
      (λ q. got_else d j hd hj wrote k q ∙ p.others k hk q);
}

-- dose d takes a, for which there is room and spare time
pub dose_takes : {rooms holds x y : List ℕ} (d j a : ℕ) → d < most_doses → j < most_intervals → Bounded rooms holds x → cell x d j + a ≤ cell rooms d j
    → given x j + a ≤ get_or holds j 0 → Written d j (cell x d j + a) x y → DoseUp rooms holds d a x y
dose_takes d j a hd hj f room spare wrote = dose_write d j a hd hj (interval_still j a f refl spare) room wrote

-- and gives a back: interval j could hold as much more
pub dose_gives : {rooms holds x y : List ℕ} (d j a : ℕ) → d < most_doses → j < most_intervals → Bounded rooms holds x → a ≤ cell x d j
    → Written d j (cell x d j - a) x y → Bounded rooms holds y
dose_gives {rooms} d j a hd hj f less wrote = record {
  roomy = cells_after d j hd hj wrote rooms f.roomy (omega (arith, f.roomy d j hd hj));
  held = λ i hi. alike i j
      (λ q. rw q (omega (arith, f.held j hj, given_own d j hd hj wrote)))
      (λ q. omega (arith, f.held i hi, given_else d j hd hj wrote i hi q));
}
