-- From doses to classes (document 01, "From doses to classes").
use Rattle.std.specs.Prelude.{Bool, true, not, ◌&&◌, ℕ, zero, suc, ◌*◌, ◌-◌, ◌^◌, ◌<◌, min, T, leb}
use Rattle.model.specs.Sets.{sum, on, Doses, weight, Sub, Nonempty}

-- what the classes are worked out from: doses and intervals by number, which dose is active where, lengths, grams
pub record Setting : Type 0 where
  pub doses : ℕ
  pub intervals : ℕ
  pub active : ℕ → ℕ → Bool
  pub len : ℕ → ℕ
  pub grams : ℕ → ℕ

-- a number of fans for each interval
abbrev pub Row : Type 0
Row = ℕ → ℕ

-- the doses that the first i classes leave
unfoldable pub remaining : (ℕ → Doses) → ℕ → Doses
remaining C zero k = true
remaining C (suc i) k = remaining C i k && not (C i k)

module _ (S : Setting) where
  open S use {doses, intervals, active, len, grams}

  -- "W(A) is the sum of grams of A"
  abbrev pub W : Doses → ℕ
  W A = weight doses grams A

  -- "(active doses of A)", in interval j
  abbrev pub active_in : Doses → ℕ → ℕ
  active_in A j = weight doses (λ k. on (active k j) 1) A

  -- "the smaller of (active doses of A) and (fans − fans reserved by earlier classes)": row has the latter
  unfoldable pub open_fans : Row → Doses → ℕ → ℕ
  open_fans row A j = min (active_in A j) (row j)

  -- "P(A) its open fan time": "the sum over intervals of length × the smaller of" the two
  unfoldable pub P : Row → Doses → ℕ
  P row A = sum intervals (λ j. len j * open_fans row A j)

  -- "Fractions are compared by exact products": the rate of B is at most that of A
  abbrev pub no_denser : Row → Doses → Doses → Bool
  no_denser row B A = leb (W B * P row A) (W A * P row B)

  -- and here it is at least that of A: of no denser sets, the equals
  abbrev pub as_dense : Row → Doses → Doses → Bool
  as_dense row B A = leb (W A * P row B) (W B * P row A)

  -- "The next class is the set with the greatest W/P among nonempty sets of remaining doses; among equals, the one that
  -- contains all others."
  pub record NextClass (row : Row) (rest A : Doses) : Type 0 where
    pub within : Sub doses A rest
    pub some : Nonempty doses A
    pub greatest : (B : Doses) → Sub doses B rest → Nonempty doses B → T (no_denser row B A)
    pub largest : (B : Doses) → Sub doses B rest → Nonempty doses B → T (as_dense row B A) → Sub doses B A

  -- fans − fans reserved by the first i classes, in interval j
  unfoldable pub free : Row → (ℕ → Doses) → ℕ → Row
  free fans C zero j = fans j
  free fans C (suc i) j = free fans C i j - open_fans (free fans C i) (C i) j

  -- "The class reserves, per interval, the smaller of the two numbers above": a row per class, a column per interval
  abbrev pub reserved : Row → (ℕ → Doses) → ℕ → Row
  reserved fans C i j = open_fans (free fans C i) (C i) j

  -- the open fan time of class i
  abbrev pub class_p : Row → (ℕ → Doses) → ℕ → ℕ
  class_p fans C i = P (free fans C i) (C i)

  -- the whole sequence: p classes, each the next of what those before it leave; nothing is left
  pub record Classes (fans : Row) (p : ℕ) (C : ℕ → Doses) : Type 0 where
    pub next : (i : ℕ) → i < p → NextClass (free fans C i) (remaining C i) (C i)
    pub done : (k : ℕ) → k < doses → T (remaining C p k) → ⊥

-- "the first class as a number with bit i for dose i"
abbrev pub set_number : ℕ → Doses → ℕ
set_number n A = weight n (λ k. 2 ^ k) A
