-- Laws of shares that are raised dose by dose, and of the first shares. Assumes nothing.
use Prim.Native.Nat.{ℕ, ◌+◌, ◌-◌, ◌*◌, ◌<◌, ◌≤◌, min}
use mathlib.Core.List.{List}
use mathlib.Core.Bool.{Bool, false}
use mathlib.Core.Path.{◌≡◌}
use lib.ListN.{get_or}
use native.Mathlib.Omega.{arith}
use Rattle.model.specs.Limits.{cells, most_doses, most_intervals}
use Rattle.model.proofs.Sums.{sum_congr, sum_zero}
use Rattle.steps.proofs.Tests.{not_both, known, alike}
use Rattle.class_chains.specs.Chains.{cell, Seen, Unseen, got, given, Bounded, Written, Kept, Exhausted}
use Rattle.class_chains.proofs.Laws.{dose_takes}
use Rattle.class_shares.specs.Share.{DoseRaised, Dead, Within, Took, Raised}

-- ---- from search to search

pub given_kept : {s t : List Bool} {x y : List ℕ} (j : ℕ) → j < most_intervals → Kept s x t y → Seen s (most_doses + j) → given y j ≡ given x j
unfolding given
given_kept j hj k m = sum_congr most_doses (λ e he. k.intervals e j he hj m)

-- what is dead stays dead, and what a search in vain saw is dead too
pub dead_step : {rooms holds x y : List ℕ} {least : ℕ} {s t : List Bool} → Kept s x t y → Exhausted rooms holds least y s t → Dead rooms holds least x s → Dead rooms holds least y t
dead_step {s = s} k p d = record {
  doses = λ e j he hj i h. known (get_or s e false) (λ m. k.more (most_doses + j) (d.doses e j he hj m (omega (arith, k.doses e j he hj m)))) (λ m. p.doses e j he hj m i h);
  spares = λ j hj i. known (get_or s (most_doses + j) false) (λ m. omega (arith, d.spares j hj m, given_kept j hj k m)) (λ m. p.spares j hj m i);
  intervals = λ e j he hj i h. known (get_or s (most_doses + j) false) (λ m. k.more e (d.intervals e j he hj m (omega (arith, k.intervals e j he hj m)))) (λ m. p.intervals e j he hj m i h);
}

pub raised_none : {rooms holds needs x : List ℕ} {s : List Bool} (least : ℕ) → ((k : ℕ) → Unseen s k) → Within rooms holds needs x → Raised rooms holds needs least 0 s x
raised_none least off g = record {
  within = g;
  dead = record {
    doses = λ e j he hj i h. absurd (not_both i (off e));
    spares = λ j hj i. absurd (not_both i (off (most_doses + j)));
    intervals = λ e j he hj i h. absurd (not_both i (off (most_doses + j)));
  };
  met = λ k h. absurd (let z : ⊥ = omega arith in z);
}

pub raised_step : {rooms holds needs x y : List ℕ} {s t : List Bool} (least d : ℕ) → Raised rooms holds needs least d s x → DoseRaised rooms holds least d (get_or needs d 0) s x t y
    → d < most_doses → Raised rooms holds needs least (d + 1) t y
raised_step least d p f hd = record {
  within = record {
    bounded = f.bounded;
    needed = λ k hk. alike k d (λ q. rw q f.own) (λ q. omega (arith, p.within.needed k hk, f.others k hk q));
  };
  dead = dead_step f.kept f.exhausted p.dead;
  met = λ k hk h. alike k d (λ q. rw q (f.met (rw q at h))) (λ q. f.kept.more k (p.met k (omega arith) (omega (arith, f.others k (omega arith) q))));
}

-- ---- first shares

pub within_none : {rooms holds needs x : List ℕ} → ((i : ℕ) → i < cells → get_or x i 0 ≡ 0) → Within rooms holds needs x
unfolding got given
within_none {rooms} {holds} {needs} {x} z = record {
  bounded = record {
    roomy = λ k j hk hj. omega (arith, z (k * most_intervals + j) (omega arith));
    held = λ j hj. omega (arith, sum_congr most_doses {f = λ k. cell x k j} {g = λ k. 0} (λ k hk. z (k * most_intervals + j) (omega arith)), sum_zero most_doses);
  };
  needed = λ k hk. omega (arith, sum_congr most_intervals {f = λ j. cell x k j} {g = λ j. 0} (λ j hj. z (k * most_intervals + j) (omega arith)), sum_zero most_intervals);
}

-- dose d takes in interval j the smallest, a, of what it misses, its room and the spare time
pub took_smallest : {rooms holds x y : List ℕ} (d j miss room spare low a : ℕ) → d < most_doses → j < most_intervals → Bounded rooms holds x → low ≡ min miss room
    → a ≡ min low spare → room + cell x d j ≡ cell rooms d j → spare + given x j ≡ get_or holds j 0 → Written d j (cell x d j + a) x y
    → Took rooms holds d miss x (miss - a) y
took_smallest d j miss room spare low a hd hj f e g left free wrote =
    let up = dose_takes d j a hd hj f (omega arith) (omega arith) wrote in
    record { bounded = up.bounded; own = omega (arith, up.own); others = up.others }

-- no dose has more than it needs where one takes no more than it misses
pub needed_took : {rooms holds x y : List ℕ} (needs : List ℕ) (d miss rest : ℕ) → ((k : ℕ) → k < most_doses → got x k ≤ get_or needs k 0) → got x d + miss ≤ get_or needs d 0
    → Took rooms holds d miss x rest y → (k : ℕ) → k < most_doses → got y k ≤ get_or needs k 0
needed_took needs d miss rest needed e t k hk = alike k d (λ q. rw q (omega (arith, t.own, e))) (λ q. omega (arith, t.others k hk q, needed k hk))
