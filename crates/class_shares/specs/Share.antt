-- Shares that chains raise as far as they go (document 01, "From classes to slots").
use Rattle.std.specs.Prelude.{ℕ, ◌+◌, ◌<◌, ◌≤◌, List, Bool, true, false, ◌≡◌, ◌≢◌, get_or}
use Rattle.model.specs.Limits.{most_doses, most_intervals}
use Rattle.class_chains.specs.Chains.{cell, Seen, got, given, Bounded, Kept, Exhausted}

-- shares are within their bounds, and no dose has more than it needs
pub record Within (rooms holds needs x : List ℕ) : Type 0 where
  pub bounded : Bounded rooms holds x
  pub needed : (k : ℕ) → k < most_doses → got x k ≤ get_or needs k 0

-- dose d took some of what it missed: `miss` before, `rest` after; the other doses have what they had
pub record Took (rooms holds : List ℕ) (d miss : ℕ) (x : List ℕ) (rest : ℕ) (y : List ℕ) : Type 0 where
  pub bounded : Bounded rooms holds y
  pub own : got y d + rest ≡ got x d + miss
  pub others : (k : ℕ) → k < most_doses → k ≢ d → got y k ≡ got x k

-- dose d is raised as far as it goes: s is dead before, t after
pub record DoseRaised (rooms holds : List ℕ) (least d need : ℕ) (s : List Bool) (x : List ℕ) (t : List Bool) (y : List ℕ) : Type 0 where
  pub bounded : Bounded rooms holds y
  pub kept : Kept s x t y
  pub exhausted : Exhausted rooms holds least y s t
  pub own : got y d ≤ need
  pub others : (k : ℕ) → k < most_doses → k ≢ d → got y k ≡ got x k
  pub met : got y d + least ≤ need → Seen t d

-- no way leads on from what is dead
pub record Dead (rooms holds : List ℕ) (least : ℕ) (x : List ℕ) (s : List Bool) : Type 0 where
  pub doses : (e j : ℕ) → e < most_doses → j < most_intervals → Seen s e → cell x e j + least ≤ cell rooms e j → Seen s (most_doses + j)
  pub spares : (j : ℕ) → j < most_intervals → Seen s (most_doses + j) → get_or holds j 0 < given x j + least
  pub intervals : (e j : ℕ) → e < most_doses → j < most_intervals → Seen s (most_doses + j) → least ≤ cell x e j → Seen s e

-- shares that no chain raises by `least` or more: every dose below n is met, but for less than that, or dead
pub record Raised (rooms holds needs : List ℕ) (least n : ℕ) (s : List Bool) (x : List ℕ) : Type 0 where
  pub within : Within rooms holds needs x
  pub dead : Dead rooms holds least x s
  pub met : (k : ℕ) → k < n → got x k + least ≤ get_or needs k 0 → Seen s k

-- r: every dose has what it needs
pub record Met (needs x : List ℕ) (r : Bool) : Type 0 where
  pub all : r ≡ true → (k : ℕ) → k < most_doses → got x k ≡ get_or needs k 0
  pub some : r ≡ false → (k : ℕ) × (k < most_doses) × (got x k < get_or needs k 0)
