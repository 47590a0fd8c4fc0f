-- Laws of the two searches: what a loop over the ways on has tried so far, and what a search promises where it stops, fails or pushes.
-- Assumes nothing.
use Prim.Native.Nat.{ℕ, ◌+◌, ◌-◌, ◌<◌, ◌≤◌, min}
use mathlib.Core.List.{List}
use mathlib.Core.Bool.{Bool, true, false}
use mathlib.Core.Path.{◌≡◌, refl}
use lib.ListN.{length, get_or, set}
use lib.Seq.{get_or-set_same}
use native.Mathlib.Omega.{arith}
use Rattle.model.specs.Limits.{most_doses, most_intervals}
use Rattle.steps.proofs.Tests.{not_both}
use Rattle.class_chains.specs.Chains.{cell, Seen, Unseen, given, Bounded, Written, Kept, Exhausted, Pushed, FromDose, FromInterval}
use Rattle.class_chains.proofs.Laws.{kept_refl, kept_trans, kept_mark, kept_write, exhausted_none, exhausted_dose, exhausted_interval}
use Rattle.class_chains.proofs.Laws.{dose_still, interval_still, interval_none, dose_write, interval_write, down_from, up_from}

-- ---- what a loop has tried

-- Nothing was pushed along the first n of `most` ways, and those that are open lead to stations seen by now: s and x at the loop's start,
-- t and y now.
pub record Tried (rooms holds : List ℕ) (least most : ℕ) (Way : ℕ → Type 0) (to : ℕ → ℕ) (s : List Bool) (x : List ℕ) (t : List Bool) (y : List ℕ) (n : ℕ) : Type 0 where
  pub within : n ≤ most
  pub kept : Kept s x t y
  pub same : y ≡ x
  pub exhausted : Exhausted rooms holds least x s t
  pub passed : (i : ℕ) → i < n → Way i → Seen t (to i)

module _ {rooms holds : List ℕ} {least most : ℕ} {Way : ℕ → Type 0} {to : ℕ → ℕ} {s : List Bool} {x : List ℕ} where
  -- no way was tried yet
  pub tried_none : Tried rooms holds least most Way to s x s x 0
  tried_none = record {
    within = omega arith;
    kept = kept_refl s x;
    same = refl;
    exhausted = exhausted_none rooms holds least x s;
    passed = λ i h. absurd (let z : ⊥ = omega arith in z);
  }

-- the loop over the intervals, from dose d: a way is open where its share is below its room
abbrev pub DoseTried : (rooms holds : List ℕ) (least d : ℕ) (s : List Bool) (x : List ℕ) (t : List Bool) (y : List ℕ) → ℕ → Type 0
DoseTried rooms holds least d s x t y j = Tried rooms holds least most_intervals (λ i. cell x d i + least ≤ cell rooms d i) (λ i. most_doses + i) s x t y j

-- the loop over the doses, from interval j: a way is open where a dose has a share
abbrev pub IntervalTried : (rooms holds : List ℕ) (least j : ℕ) (s : List Bool) (x : List ℕ) (t : List Bool) (y : List ℕ) → ℕ → Type 0
IntervalTried rooms holds least j s x t y d = Tried rooms holds least most_doses (λ e. least ≤ cell x e j) (λ e. e) s x t y d

-- ---- the searches called, whose rooms and reserved time are the caller's

module _ {rooms holds rooms' holds' : List ℕ} (same_rooms : rooms' ≡ rooms) (same_holds : holds' ≡ holds) where
  pub dose_called : {least d w a : ℕ} {s t : List Bool} {x y : List ℕ} → FromDose rooms' holds' least d w s x a t y → FromDose rooms holds least d w s x a t y
  dose_called p = rw (same_rooms, same_holds) at p

  pub interval_called : {least j w a : ℕ} {s t : List Bool} {x y : List ℕ} → FromInterval rooms' holds' least j w s x a t y → FromInterval rooms holds least j w s x a t y
  interval_called p = rw (same_rooms, same_holds) at p

-- ---- what both searches promise

-- a search may mark its station k: s and x as it finds them
pub record New (rooms holds : List ℕ) (s : List Bool) (x : List ℕ) (k : ℕ) : Type 0 where
  pub bounded : Bounded rooms holds x
  pub inside : k < length s
  pub unseen : Unseen s k

pub new_station : {rooms holds : List ℕ} {s : List Bool} {x : List ℕ} (k : ℕ) → Bounded rooms holds x → Unseen s k → k < length s → New rooms holds s x k
new_station k bounded unseen inside = record { bounded = bounded; inside = inside; unseen = unseen }

module _ {rooms holds : List ℕ} {s : List Bool} {x : List ℕ} {k : ℕ} (new : New rooms holds s x k) where
  mark_kept : Kept s x (set s k true) x
  mark_kept = kept_mark s x k new.inside new.unseen

  mark_seen : Seen (set s k true) k
  mark_seen = get_or-set_same s k true false new.inside

  -- and after the loop
  module _ {least most : ℕ} {Way : ℕ → Type 0} {to : ℕ → ℕ} {t : List Bool} {y : List ℕ} {n : ℕ} (tried : Tried rooms holds least most Way to (set s k true) x t y n) where
    tried_kept : Kept s x t y
    tried_kept = kept_trans mark_kept tried.kept

    tried_seen : Seen t k
    tried_seen = tried.kept.more k mark_seen

module _ {rooms holds : List ℕ} {least k want : ℕ} {s : List Bool} {x : List ℕ} where
  -- something is pushed from a station that was not seen before
  pushed_some : {a : ℕ} {t : List Bool} {y : List ℕ} → Unseen s k → Kept s x t y → Seen t k → a ≤ want → 0 < a → Pushed rooms holds least k want s x a t y
  pushed_some new kept seen h some = record {
    within = h;
    none = λ q. absurd (not_both q new);
    kept = kept;
    marks = λ q. seen;
    same = λ z. absurd (let w : ⊥ = omega arith in w);
    exhausted = λ z. absurd (let w : ⊥ = omega arith in w);
  }

  -- every way was tried
  pushed_in_vain : {t : List Bool} {y : List ℕ} → Kept s x t y → Seen t k → y ≡ x → Exhausted rooms holds least x s t → Pushed rooms holds least k want s x 0 t y
  pushed_in_vain kept seen e shut = record { within = omega arith; none = λ h. refl; kept = kept; marks = λ h. seen; same = λ h. e; exhausted = λ h. shut }

-- ---- the search from a dose

module _ {rooms holds : List ℕ} {least d : ℕ} {s : List Bool} {x : List ℕ} (want : ℕ) (hd : d < most_doses) where
  module _ (new : New rooms holds s x d) {t : List Bool} {y : List ℕ} {j : ℕ} (tried : DoseTried rooms holds least d (set s d true) x t y j) where
    -- every interval was tried
    pub dose_fails : most_intervals ≤ j → FromDose rooms holds least d want s x 0 t y
    dose_fails h = record {
      pushed = pushed_in_vain (tried_kept new tried) (tried_seen new tried) tried.same (exhausted_dose s d hd tried.exhausted (λ i l. tried.passed i (omega arith)));
      up = dose_still d new.bounded tried.same;
    }

    module _ {w a : ℕ} (room : ℕ) {u : List Bool} {z : List ℕ} (hj : j < most_intervals) (free : room + cell y d j ≡ cell rooms d j) (capped : w ≡ min want room)
        (called : FromInterval rooms holds least j w t y a u z) (some : 0 < a) where
      -- what is pushed fits the room of the dose
      pub dose_fits_lem : cell z d j + a ≤ cell rooms d j
      dose_fits_lem = omega (arith, called.pushed.within, called.pushed.kept.doses d j hd hj (tried_seen new tried))

      -- the dose takes what the interval found
      pub dose_pushes : {y' : List ℕ} → Written d j (cell z d j + a) z y' → FromDose rooms holds least d want s x a u y'
      dose_pushes wrote =
          let kept : Kept s x t y = tried_kept new tried in
          record {
            pushed = pushed_some new.unseen
                (kept_write (kept_trans kept called.pushed.kept) wrote (λ h. not_both h new.unseen) (λ h. omega (arith, called.pushed.none (kept.more (most_doses + j) h))))
                (called.pushed.kept.more d (tried_seen new tried)) (omega (arith, called.pushed.within)) some;
            up = dose_write d j a hd hj (down_from tried.same called.down) dose_fits_lem wrote;
          }

-- ---- the search from an interval

module _ {rooms holds : List ℕ} {least j : ℕ} {s : List Bool} {x : List ℕ} (want : ℕ) (hj : j < most_intervals) where
  module _ (new : New rooms holds s x (most_doses + j)) where
    module _ (spare : ℕ) (left : spare + given x j ≡ get_or holds j 0) where
      -- the interval has spare time
      pub interval_spares : {a : ℕ} → a ≡ min want spare → 0 < a → FromInterval rooms holds least j want s x a (set s (most_doses + j) true) x
      interval_spares capped some = record {
        pushed = pushed_some new.unseen (mark_kept new) (mark_seen new) (omega arith) some;
        down = interval_still j _ new.bounded refl (omega arith);
      }

      -- it has too little, and every dose was tried
      pub interval_fails : {t : List Bool} {y : List ℕ} {d : ℕ} → spare < least → IntervalTried rooms holds least j (set s (most_doses + j) true) x t y d → most_doses ≤ d
          → FromInterval rooms holds least j want s x 0 t y
      interval_fails short tried h = record {
        pushed = pushed_in_vain (tried_kept new tried) (tried_seen new tried) tried.same (exhausted_interval s j hj tried.exhausted (omega arith) (λ e l. tried.passed e (omega arith)));
        down = interval_none j hj new.bounded tried.same;
      }

    module _ {t u : List Bool} {y z : List ℕ} {d w a : ℕ} (tried : IntervalTried rooms holds least j (set s (most_doses + j) true) x t y d) (hd : d < most_doses)
        (capped : w ≡ min want (cell y d j)) (called : FromDose rooms holds least d w t y a u z) where
      -- the dose has as much there as it found elsewhere
      pub interval_has : a ≤ cell z d j
      interval_has = omega (arith, called.pushed.within, called.pushed.kept.intervals d j hd hj (tried_seen new tried))

      -- the dose gives it back
      pub interval_pushes : {y' : List ℕ} → 0 < a → Written d j (cell z d j - a) z y' → FromInterval rooms holds least j want s x a u y'
      interval_pushes some wrote =
          let kept : Kept s x t y = tried_kept new tried in
          record {
            pushed = pushed_some new.unseen
                (kept_write (kept_trans kept called.pushed.kept) wrote (λ h. omega (arith, called.pushed.none (kept.more d h))) (λ h. not_both h new.unseen))
                (called.pushed.kept.more (most_doses + j) (tried_seen new tried)) (omega (arith, called.pushed.within)) some;
            down = interval_write d j a hd hj (up_from tried.same called.up) interval_has wrote;
          }
