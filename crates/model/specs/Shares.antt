-- Shares of a class in the intervals (document 01, "From classes to slots"), in units of 1/W tick: x k j is dose k's in interval j.
use Rattle.std.specs.Prelude.{◌≡◌, Bool, ◌&&◌, ℕ, ◌*◌, ◌-◌, ◌≤◌, ◌<◌, T}
use Rattle.model.specs.Sets.{sum, on, Doses, weight, Sub}
use Rattle.model.specs.Classes.{Setting, Row, W, P, open_fans}

module _ (S : Setting) (row : Row) (A : Doses) where
  open S use {doses, intervals, active, len, grams}

  -- "A dose of w grams in a class with W and P needs w × P units"
  abbrev pub need : ℕ → ℕ
  need k = grams k * P S row A

  -- "Its share in an interval of length L is at most L × W units, only where it is active"
  abbrev pub room : ℕ → ℕ → ℕ
  room k j = on (A k && active k j) (len j * W S A)

  -- the reserved time of an interval: "its reserved fans × L × W"
  abbrev pub holds : ℕ → ℕ
  holds j = open_fans S row A j * (len j * W S A)

  module _ (x : ℕ → ℕ → ℕ) where
    -- what dose k has in all intervals
    abbrev pub got : ℕ → ℕ
    got k = sum intervals (λ j. x k j)

    -- the units that dose k is short of its need
    abbrev pub short : ℕ → ℕ
    short k = need k - got k

    -- what is given out in interval j
    abbrev pub given : ℕ → ℕ
    given j = sum doses (λ k. x k j)

    -- valid shares: within the rooms, needs met, and "The class's shares in an interval add up to exactly" the reserved time
    pub record Valid : Type 0 where
      pub roomy : (k j : ℕ) → k < doses → j < intervals → x k j ≤ room k j
      pub full : (j : ℕ) → j < intervals → given j ≡ holds j
      pub met : (k : ℕ) → k < doses → T (A k) → got k ≡ need k

    -- shares on the way there: nothing over its room, its need or the reserved time
    pub record Within : Type 0 where
      pub roomy : (k j : ℕ) → k < doses → j < intervals → x k j ≤ room k j
      pub held : (j : ℕ) → j < intervals → given j ≤ holds j
      pub needed : (k : ℕ) → k < doses → got k ≤ need k

    -- what the doses of A are short of, together
    abbrev pub missing : ℕ
    missing = weight doses short A

    -- "leaving a dose by an interval where its share is below L × W": dose k by interval j, where it is active
    pub record Leaves (k j : ℕ) : Type 0 where
      pub dose : k < doses
      pub interval : j < intervals
      pub live : T (active k j)
      pub less : x k j < len j * W S A

    -- "a chain goes from a dose to an interval and from an interval back to a dose": from dose k to the interval where it ends,
    -- leaving an interval i "by a dose with a share above zero there", dose m
    pub data Chain (k : ℕ) : ℕ → Type 0 where
      out : (j : ℕ) → Leaves k j → Chain k j
      onward : (i m j : ℕ) → Chain k i → 0 < x m i → Leaves m j → Chain k j

    -- "no chain leads from a dose short of its need to an interval with spare reserved time"
    abbrev pub NoChain : Type 0
    NoChain = (k j : ℕ) → T (A k) → got k < need k → Chain k j → given j < holds j → ⊥

    -- no chain leads out of the doses R and the intervals Q, every short dose is in R, and no interval of Q has spare reserved time
    pub record Closed (R : Doses) (Q : ℕ → Bool) : Type 0 where
      pub inside : Sub doses R A
      pub shorts : (k : ℕ) → k < doses → T (A k) → got k < need k → T (R k)
      pub out : (k j : ℕ) → T (R k) → Leaves k j → T (Q j)
      pub back : (k j : ℕ) → k < doses → j < intervals → T (Q j) → 0 < x k j → T (R k)
      pub spent : (j : ℕ) → j < intervals → T (Q j) → given j ≡ holds j

  -- "The shares' total": what all doses have in all intervals
  abbrev pub shares_total : (ℕ → ℕ → ℕ) → ℕ
  shares_total x = sum doses (λ k. got x k)

  -- it "is greatest": no shares within the bounds have more
  abbrev pub Greatest : (ℕ → ℕ → ℕ) → Type 0
  Greatest x = (y : ℕ → ℕ → ℕ) → Within y → shares_total y ≤ shares_total x
