-- Shares of up to 24 doses in up to 47 intervals, in one array, and what the searches that raise them promise (document 01, "From classes to
-- slots"). The stations of a chain are the doses, 0 to 23, and the intervals, 24 to 70.
use Rattle.std.specs.Prelude.{ℕ, suc, ◌+◌, ◌*◌, ◌<◌, ◌≤◌, List, [], ◌∷◌, Bool, true, false, ◌≡◌, ◌≢◌, get_or}
use Rattle.model.specs.Limits.{most_doses, most_intervals}
use Rattle.model.specs.Sets.{sum}

-- how many stations are not yet seen
unfoldable pub unseen_count : List Bool → ℕ
unseen_count [] = 0
unseen_count (true ∷ l) = unseen_count l
unseen_count (false ∷ l) = suc (unseen_count l)

-- the number of dose k in interval j: its share, or its room
abbrev pub cell : List ℕ → ℕ → ℕ → ℕ
cell x k j = get_or x (k * most_intervals + j) 0

-- station k was seen
abbrev pub Seen : List Bool → ℕ → Type 0
Seen s k = get_or s k false ≡ true

-- it was not
abbrev pub Unseen : List Bool → ℕ → Type 0
Unseen s k = get_or s k false ≡ false

-- what dose k has in all intervals
unfoldable pub got : List ℕ → ℕ → ℕ
got x k = sum most_intervals (λ j. cell x k j)

-- what is given out in interval j
unfoldable pub given : List ℕ → ℕ → ℕ
given x j = sum most_doses (λ k. cell x k j)

-- every share is within its room, and every interval within its reserved time
pub record Bounded (rooms holds x : List ℕ) : Type 0 where
  pub roomy : (k j : ℕ) → k < most_doses → j < most_intervals → cell x k j ≤ cell rooms k j
  pub held : (j : ℕ) → j < most_intervals → given x j ≤ get_or holds j 0

-- the cell of dose d and interval j holds v, and the others what they held: x before, y after
pub record Written (d j v : ℕ) (x y : List ℕ) : Type 0 where
  pub own : cell y d j ≡ v
  pub doses : (e i : ℕ) → i < most_intervals → e ≢ d → cell y e i ≡ cell x e i
  pub intervals : (e i : ℕ) → i < most_intervals → i ≢ j → cell y e i ≡ cell x e i

-- a search leaves the shares of stations that were seen before it alone: s and x before it, t and y after
pub record Kept (s : List Bool) (x : List ℕ) (t : List Bool) (y : List ℕ) : Type 0 where
  pub more : (k : ℕ) → Seen s k → Seen t k
  pub fewer : unseen_count t ≤ unseen_count s
  pub doses : (d j : ℕ) → d < most_doses → j < most_intervals → Seen s d → cell y d j ≡ cell x d j
  pub intervals : (d j : ℕ) → d < most_doses → j < most_intervals → Seen s (most_doses + j) → cell y d j ≡ cell x d j

-- of the stations that s lacks and t has, every way on leads to one that t has; what is less than `least` is no way on
pub record Exhausted (rooms holds : List ℕ) (least : ℕ) (x : List ℕ) (s t : List Bool) : Type 0 where
  pub doses : (e j : ℕ) → e < most_doses → j < most_intervals → Unseen s e → Seen t e → cell x e j + least ≤ cell rooms e j → Seen t (most_doses + j)
  pub spares : (j : ℕ) → j < most_intervals → Unseen s (most_doses + j) → Seen t (most_doses + j) → get_or holds j 0 < given x j + least
  pub intervals : (e j : ℕ) → e < most_doses → j < most_intervals → Unseen s (most_doses + j) → Seen t (most_doses + j) → least ≤ cell x e j → Seen t e

-- what both searches promise, from station k for at most w: the amount a was pushed along a chain, or none is left
pub record Pushed (rooms holds : List ℕ) (least k w : ℕ) (s : List Bool) (x : List ℕ) (a : ℕ) (t : List Bool) (y : List ℕ) : Type 0 where
  pub within : a ≤ w
  pub none : Seen s k → a ≡ 0
  pub kept : Kept s x t y
  pub marks : least ≤ w → Seen t k
  pub same : a ≡ 0 → y ≡ x
  pub exhausted : a ≡ 0 → Exhausted rooms holds least x s t

-- dose d has a more, the other doses what they had
pub record DoseUp (rooms holds : List ℕ) (d a : ℕ) (x y : List ℕ) : Type 0 where
  pub bounded : Bounded rooms holds y
  pub own : got y d ≡ got x d + a
  pub others : (k : ℕ) → k < most_doses → k ≢ d → got y k ≡ got x k

-- every dose has what it had, and interval j could hold a more
pub record IntervalDown (rooms holds : List ℕ) (j a : ℕ) (x y : List ℕ) : Type 0 where
  pub roomy : (k i : ℕ) → k < most_doses → i < most_intervals → cell y k i ≤ cell rooms k i
  pub own : given y j + a ≤ get_or holds j 0
  pub others : (i : ℕ) → i < most_intervals → i ≢ j → given y i ≤ get_or holds i 0
  pub doses : (k : ℕ) → k < most_doses → got y k ≡ got x k

-- the search from a dose
pub record FromDose (rooms holds : List ℕ) (least d w : ℕ) (s : List Bool) (x : List ℕ) (a : ℕ) (t : List Bool) (y : List ℕ) : Type 0 where
  pub pushed : Pushed rooms holds least d w s x a t y
  pub up : DoseUp rooms holds d a x y

-- the search from an interval
pub record FromInterval (rooms holds : List ℕ) (least j w : ℕ) (s : List Bool) (x : List ℕ) (a : ℕ) (t : List Bool) (y : List ℕ) : Type 0 where
  pub pushed : Pushed rooms holds least (most_doses + j) w s x a t y
  pub down : IntervalDown rooms holds j a x y
