-- Tables that agree wherever they are looked at give the same slots. Assumes nothing.
use mathlib.Core.Path.{◌∙◌, ◌≡◌, refl}
use mathlib.Core.List.{List}
use Prim.Native.Nat.{ℕ, suc, zero, ◌*◌, ◌<◌}
use native.Mathlib.Omega.{arith}
use Rattle.model.specs.Sets.{sum}
use Rattle.model.specs.Lists.{gather}
use Rattle.model.specs.Layout.{Lane, Table, cut, interval_slots, lane, lane_slots, line, table_slots}
use Rattle.model.proofs.Sums.{sum_congr}

-- lists that are gathered from the same lists
pub gather_same : {A : Type 0} (n : ℕ) {f g : ℕ → List A} → ((k : ℕ) → k < n → f k ≡ g k) → gather n f ≡ gather n g
unfolding gather
gather_same zero h = refl
gather_same (suc n) h = rw (gather_same n (λ k l. h k (omega arith)), h n (omega arith))

-- shares that are the same are laid alike
pub lane_shares_same : (l : Lane) {x y : ℕ → ℕ} (n : ℕ) → ((k : ℕ) → k < n → x k ≡ y k) → lane_slots l x n ≡ lane_slots l y n
unfolding lane_slots line
lane_shares_same l {x} {y} n h =
    let each : (k : ℕ) → k < n → cut (l.len * l.weight) k (sum k x) (x k) ≡ cut (l.len * l.weight) k (sum k y) (y k) =
    λ k q. rw (sum_congr k {f = x} {g = y} (λ i r. h i (omega arith)), h k q) in
    rw (gather_same n each)

gather_alike : {A : Type 0} {n m : ℕ} {f g : ℕ → List A} → n ≡ m → ((k : ℕ) → k < n → f k ≡ g k) → gather n f ≡ gather m g
gather_alike {n = n} e h = rw (← e) (gather_same n h)

-- tables that agree wherever they are looked at
pub record SameTables (s t : Table) : Type 0 where
  pub n : s.n ≡ t.n
  pub p : s.p ≡ t.p
  pub J : s.J ≡ t.J
  pub start : (j : ℕ) → j < s.J → s.start j ≡ t.start j
  pub len : (j : ℕ) → j < s.J → s.len j ≡ t.len j
  pub weight : (i : ℕ) → i < s.p → s.weight i ≡ t.weight i
  pub time : (i : ℕ) → i < s.p → s.time i ≡ t.time i
  pub fans : (i j : ℕ) → i < s.p → j < s.J → s.fans i j ≡ t.fans i j
  pub share : (i k j : ℕ) → i < s.p → k < s.n → j < s.J → s.share i k j ≡ t.share i k j

module _ {s t : Table} (h : SameTables s t) where
  lanes_same : (i j : ℕ) → i < s.p → j < s.J → lane s i j ≡ lane t i j
  lanes_same i j l r =
      rw (h.start j r, h.len j r, h.weight i l, h.time i l, sum_congr i {f = λ a. s.fans a j} {g = λ a. t.fans a j} (λ a q. h.fans a j (omega arith) r))

  -- give the same slots in each interval
  pub interval_same : (j : ℕ) → j < s.J → interval_slots s j ≡ interval_slots t j
  unfolding interval_slots
  interval_same j r =
      gather_alike h.p (λ i l. lane_shares_same (lane s i j) s.n (λ k q. h.share i k j l q r) ∙ rw (lanes_same i j l r, h.n))

  -- and in all
  pub slots_same : table_slots s ≡ table_slots t
  unfolding table_slots
  slots_same = gather_alike h.J interval_same
