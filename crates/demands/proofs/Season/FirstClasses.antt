-- The greatest first class: rates by exact products, the earliest of equals, and the greatest of two lists of orders.
use mathlib.Core.List.{List, [], ◌∷◌, ◌++◌}
use mathlib.Core.Logic.{◌⊎◌, inl, inr}
use mathlib.Core.Path.{◌≡◌, refl, ap, ◌∙◌, sym}
use Prim.Native.Nat.{ℕ, zero, suc, ◌+◌, ◌*◌, ◌<◌, ◌≤◌}
use native.Mathlib.Nat.{le_of_lt, le_of_mul-le-mul_left, lt_of_mul-lt-mul_left, mul-le-mul_left, mul-lt-mul_of_pos_left}
use native.Mathlib.Omega.{arith}
use borrow.Author.Tests.{le-ltb, lt-ltb}
use lib.ListN.{length, get_or}
use Rattle.model.specs.Limits.{most_bay}
use Rattle.model.specs.Lists.{All, Along, also, beside, ended, none}
use Rattle.model.specs.Orders.{Order}
use Rattle.model.specs.Season.{Comes, FirstRate, Outcome, Rate, first_of, first_class, greater, greatest_from, no_first_class, no_rate, refused_by}
use Rattle.model.proofs.FanTime.{weighs}
use Rattle.model.proofs.Fractions.{compare≤}
use Rattle.model.proofs.Orders.{Fit, read_fits}
use Rattle.model.proofs.Windows.{heavy, starts_open}
use Rattle.model.specs.Intervals.{setting_of}

-- ---- rates, by exact products

-- a is below b
abbrev pub Below : Rate → Rate → Type 0
Below a b = a.weight * b.time < b.weight * a.time

-- a is not above b
abbrev pub NotAbove : Rate → Rate → Type 0
NotAbove a b = a.weight * b.time ≤ b.weight * a.time

-- a rate of some time; it is 0 and 1 for no class, or above 0
pub record Sound (r : Rate) : Type 0 where
  pub some_time : 0 < r.time
  pub none_or_some : (r ≡ no_rate) ⊎ (0 < r.weight)

below_through : (a b c : Rate) → Sound a → Sound b → Sound c → Below a b → NotAbove b c → Below a c
below_through a b c x y z l m =
    lt_of_mul-lt-mul_left b.time (omega (arith, mul-lt-mul_of_pos_left {k = c.time} l z.some_time, mul-le-mul_left a.time m))

through_below : (a b c : Rate) → Sound a → Sound b → Sound c → NotAbove a b → Below b c → Below a c
through_below a b c x y z l m =
    lt_of_mul-lt-mul_left b.time (omega (arith, mul-le-mul_left c.time l, mul-lt-mul_of_pos_left {k = a.time} m x.some_time))

through : (a b c : Rate) → Sound a → Sound b → Sound c → NotAbove a b → NotAbove b c → NotAbove a c
through a b c x y z l m =
    le_of_mul-le-mul_left {k = b.time} (omega (arith, mul-le-mul_left c.time l, mul-le-mul_left a.time m)) y.some_time

-- the greater of two is the second where it is above, and else the first
second : (a b : Rate) → Below a b → greater a b ≡ b
second a b l = rw (lt-ltb (a.weight * b.time) (b.weight * a.time) l)

first : (a b : Rate) → NotAbove b a → greater a b ≡ a
first a b l = rw (le-ltb (a.weight * b.time) (b.weight * a.time) l)

sound_greater : (a b : Rate) → Sound a → Sound b → Sound (greater a b)
sound_greater a b x y = elim (compare≤ (b.weight * a.time) (a.weight * b.time)) [ inl l ↦ rw (first a b l) x | inr l ↦ rw (second a b l) y ]

pub none_sound : Sound no_rate
none_sound = record { some_time = omega arith; none_or_some = inl refl }

-- ---- the first classes of orders

pub first_sound : (o : Order) → Fit o → (r : Rate) → FirstRate o r → Sound r
first_sound o fit r (no_first_class z) = none_sound
first_sound o fit r (first_class A f) =
    record { some_time = starts_open o fit A f.some; none_or_some = inr (weighs (setting_of o) (heavy o fit) A f.some) }

pub firsts_sound : {orders : List (List ℕ)} {outcomes : List Outcome} → Along Comes orders outcomes → All (λ x. Sound (first_of x)) outcomes
firsts_sound ended = none
firsts_sound (beside (Comes.refuses a r) h) = also none_sound (firsts_sound h)
firsts_sound (beside {a = order} (Comes.accepts o g plan st v t f q) h) = also (first_sound o (read_fits most_bay order o g.reads) f q) (firsts_sound h)

-- ---- the greatest

-- r is the greatest of a rate and the first classes of outcomes: the rate itself, or that of outcome k, which is above the rate and all before it
pub record Greatest (start : Rate) (outcomes : List Outcome) (r : Rate) : Type 0 where
  pub sound : Sound r
  pub above_start : NotAbove start r
  pub none_above : All (λ x. NotAbove (first_of x) r) outcomes
  pub earliest : (r ≡ start) ⊎ ((k : ℕ) × (k < length outcomes) × (first_of (get_or outcomes k (refused_by 0)) ≡ r) × Below start r
      × ((j : ℕ) → j < k → Below (first_of (get_or outcomes j (refused_by 0))) r))

itself : (r : Rate) → NotAbove r r
itself r = omega arith

-- it is what the definition says
pub greatest_is : (start : Rate) (outcomes : List Outcome) → Sound start → All (λ x. Sound (first_of x)) outcomes → Greatest start outcomes (greatest_from start outcomes)
unfolding greatest_from
greatest_is start [] x none = record { sound = x; above_start = itself start; none_above = none; earliest = inl refl }
greatest_is start (y ∷ later) x (also u h) =
    let f = first_of y in
    elim (compare≤ (f.weight * start.time) (start.weight * f.time)) [
      | inl l ↦ rw (first start f l) (stays start y later (greatest_from start later) x u l (greatest_is start later x h))
      | inr l ↦ rw (second start f l) (goes start y later (greatest_from f later) x u l (greatest_is f later u h))
    ]
  where
    stays : (start : Rate) (y : Outcome) (later : List Outcome) (r : Rate) → Sound start → Sound (first_of y) → NotAbove (first_of y) start → Greatest start later r
        → Greatest start (y ∷ later) r
    stays start y later r x u l g = record {
      sound = g.sound;
      above_start = g.above_start;
      none_above = also (through (first_of y) start r u x g.sound l g.above_start) g.none_above;
      earliest = elim g.earliest [
        | inl e ↦ inl e
        | inr p ↦ inr (suc p.0, omega (arith, p.1), p.2, p.3, before p)
      ];
    }
      where
        before : (p : (k : ℕ) × (k < length later) × (first_of (get_or later k (refused_by 0)) ≡ r) × Below start r × ((j : ℕ) → j < k → Below (first_of (get_or later j (refused_by 0))) r))
            → (j : ℕ) → j < suc p.0 → Below (first_of (get_or (y ∷ later) j (refused_by 0))) r
        before p zero q = through_below (first_of y) start r u x g.sound l p.3
        before p (suc j) q = p.4 j (omega arith)

    goes : (start : Rate) (y : Outcome) (later : List Outcome) (r : Rate) → Sound start → Sound (first_of y) → Below start (first_of y) → Greatest (first_of y) later r
        → Greatest start (y ∷ later) r
    goes start y later r x u l g = record {
      sound = g.sound;
      above_start = le_of_lt (below_through start (first_of y) r x u g.sound l g.above_start);
      none_above = also g.above_start g.none_above;
      earliest = elim g.earliest [
        | inl e ↦ inr (0, omega arith, sym e, below_through start (first_of y) r x u g.sound l g.above_start, λ j q. absurd (omega arith))
        | inr p ↦ inr (suc p.0, omega (arith, p.1), p.2, below_through start (first_of y) r x u g.sound l g.above_start, before p)
      ];
    }
      where
        before : (p : (k : ℕ) × (k < length later) × (first_of (get_or later k (refused_by 0)) ≡ r) × Below (first_of y) r × ((j : ℕ) → j < k → Below (first_of (get_or later j (refused_by 0))) r))
            → (j : ℕ) → j < suc p.0 → Below (first_of (get_or (y ∷ later) j (refused_by 0))) r
        before p zero q = p.3
        before p (suc j) q = p.4 j (omega arith)

-- ---- of two lists of orders

assoc : (a b c : Rate) → Sound a → Sound b → Sound c → greater (greater a b) c ≡ greater a (greater b c)
assoc a b c x y z =
    elim (compare≤ (b.weight * a.time) (a.weight * b.time)) [
      | inl ba ↦ elim (compare≤ (c.weight * b.time) (b.weight * c.time)) [
        | inl cb ↦ rw (first a b ba, first b c cb, first a b ba, first a c (through c b a z y x cb ba))
        | inr bc ↦ rw (first a b ba, second b c bc)
      ]
      | inr ab ↦ elim (compare≤ (c.weight * b.time) (b.weight * c.time)) [
        | inl cb ↦ rw (second a b ab, first b c cb, second a b ab)
        | inr bc ↦ rw (second a b ab, second b c bc, second a c (below_through a b c x y z ab (le_of_lt bc)))
      ]
    ]

behind_none : (r : Rate) → Sound r → greater no_rate r ≡ r
behind_none r x = elim x.none_or_some [ inl e ↦ rw e | inr l ↦ second no_rate r (omega arith) ]

greatest_from_lem : (start : Rate) (outcomes : List Outcome) → Sound start → All (λ x. Sound (first_of x)) outcomes
    → greatest_from start outcomes ≡ greater start (greatest_from no_rate outcomes)
unfolding greatest_from
greatest_from_lem start [] x none = sym (first start no_rate (omega arith))
greatest_from_lem start (y ∷ later) x (also u h) =
    let f = first_of y in
    let rest = greatest_from no_rate later in
    greatest_from_lem (greater start f) later (sound_greater start f x u) h
    ∙ assoc start f rest x u (greatest_is no_rate later none_sound h).sound
    ∙ ap (greater start) (sym (ap (λ (r : Rate). greatest_from r later) (behind_none f u) ∙ greatest_from_lem f later u h))

greatest_append : (start : Rate) (xs ys : List Outcome) → greatest_from start (xs ++ ys) ≡ greatest_from (greatest_from start xs) ys
unfolding greatest_from
greatest_append start [] ys = refl
greatest_append start (x ∷ xs) ys = greatest_append (greater start (first_of x)) xs ys

-- the greatest of both is the greater of the two, the first one's on a tie
pub greatest_joined : (xs ys : List Outcome) → All (λ x. Sound (first_of x)) xs → All (λ x. Sound (first_of x)) ys
    → greatest_from no_rate (xs ++ ys) ≡ greater (greatest_from no_rate xs) (greatest_from no_rate ys)
greatest_joined xs ys h k = greatest_append no_rate xs ys ∙ greatest_from_lem (greatest_from no_rate xs) ys (greatest_is no_rate xs none_sound h).sound k
