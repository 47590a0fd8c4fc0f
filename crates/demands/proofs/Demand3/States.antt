-- What the state of a dose at t means, over any slots: Finished comes first, then Shut; Dosing is the earliest slot that has time in the second, and Idle
-- is that none has. Assumes nothing.
use mathlib.Core.Bool.{Bool, true, false, ◌&&◌, true≢false}
use mathlib.Core.Path.{◌∙◌, ◌≡◌, refl, sym}
use mathlib.Core.List.{List, [], ◌∷◌}
use Prim.Native.Nat.{ℕ, zero, suc, ◌+◌, ◌*◌, ◌<◌, ◌≤◌}
use native.Mathlib.Nat.{le_of_mul-le-mul_left, lt_of_mul-lt-mul_left, mul-le-mul_left, mul-lt-mul_of_pos_left}
use native.Mathlib.Omega.{arith}
use borrow.Author.Tests.{eq-eqb, eqb-true, le-leb, leb-true, leb-false, lt-ltb, ltb-true, ltb-false}
use lib.Dec.{eqb, leb, ltb}
use lib.ListN.{length, get_or}
use Rattle.model.specs.Records.{pick}
use Rattle.model.specs.Orders.{Order, dose_at}
use Rattle.model.specs.Plans.{Slot}
use Rattle.model.specs.Stands.{starts, ends}
use Rattle.model.specs.Line.{Feeding, HasFan, OneOf, State, dosing, earlier, earliest, fed_at, fed_by, feeds, finished, idle, shut, starts_before, state_at, state_by, unfed}
use Rattle.model.proofs.Fractions.{pos_left}
use Rattle.model.proofs.Sets.{both_true}

-- ---- the second from t to t + 1

-- the state is Dosing, on some fan
abbrev pub IsDosing : State → Type 0
IsDosing z = (fan : ℕ) × (z ≡ dosing fan)

-- s is a slot of dose d that has time in the second: it "starts before t+1 and ends after t"
pub record FeedsIn (slots : List Slot) (d t : ℕ) (s : Slot) : Type 0 where
  pub one : OneOf slots s
  pub dose : s.dose ≡ d
  pub before : starts s < (t + 1) * s.weight
  pub after : t * s.weight < ends s

-- "the earliest such slot": none of them starts before it, by exact products
pub record Earliest (slots : List Slot) (d t : ℕ) (s : Slot) : Type 0 where
  pub feeds : FeedsIn slots d t s
  pub first : (u : Slot) → FeedsIn slots d t u → starts s * u.weight ≤ starts u * s.weight

-- there is one, and it is on that fan
pub record FedOn (slots : List Slot) (d t fan : ℕ) : Type 0 where
  pub slot : Slot
  pub earliest : Earliest slots d t slot
  pub on_fan : slot.fan ≡ fan

-- the moment x/q is one of the second; so q is above 0
pub record InSecond (t q x : ℕ) : Type 0 where
  pub low : q * t ≤ x
  pub high : x < q * (t + 1)

-- at some moment of the second the dose has a fan
pub record HasFanIn (slots : List Slot) (d t : ℕ) : Type 0 where
  pub q : ℕ
  pub x : ℕ
  pub within : InSecond t q x
  pub has : HasFan slots q x d

-- a slot that has time in the second has a W above 0
pub some_weight : {slots : List Slot} {d t : ℕ} {s : Slot} → FeedsIn slots d t s → 0 < s.weight
some_weight {slots} {d} {t} {s} f = pos_left (starts s) s.weight (t + 1) (omega (arith, f.before))

-- the slot on which the dose has a fan at a moment of the second has time in it
pub fan_feeds : {slots : List Slot} {d t q x : ℕ} → InSecond t q x → (h : HasFan slots q x d) → 0 < h.slot.weight → FeedsIn slots d t h.slot
fan_feeds {slots} {d} {t} {q} {x} w h some = record {
  one = h.one;
  dose = h.dose;
  before = lt_of_mul-lt-mul_left q (omega (arith, h.covers.from, mul-lt-mul_of_pos_left w.high some));
  after = lt_of_mul-lt-mul_left q (omega (arith, h.covers.after, mul-le-mul_left h.slot.weight w.low));
}

-- ---- the earliest slot is found

-- s starts no later than u, which starts no later than v
starts_chain : (s u v : Slot) → 0 < u.weight → starts s * u.weight ≤ starts u * s.weight → starts u * v.weight ≤ starts v * u.weight
    → starts s * v.weight ≤ starts v * s.weight
starts_chain s u v some h k = le_of_mul-le-mul_left {k = u.weight} (omega (arith, mul-le-mul_left v.weight h, mul-le-mul_left s.weight k)) some

module _ (d t : ℕ) where
  -- the test that the search makes of a slot: it passes exactly if the slot has time in the second
  abbrev test : Slot → Bool
  test s = eqb d s.dose && feeds s t

  passes : {slots : List Slot} {s : Slot} → FeedsIn slots d t s → test s ≡ true
  unfolding feeds
  passes {slots} {s} f =
      rw (eq-eqb d s.dose (sym f.dose), lt-ltb (starts s) ((t + 1) * s.weight) f.before, lt-ltb (t * s.weight) (ends s) f.after)

  passed : {slots : List Slot} {s : Slot} → OneOf slots s → test s ≡ true → FeedsIn slots d t s
  unfolding feeds
  passed {slots} {s} one e =
      let own = both_true (eqb d s.dose) (feeds s t) e in
      let times = both_true (ltb (starts s) ((t + 1) * s.weight)) (ltb (t * s.weight) (ends s)) own.1 in
      record { one = one; dose = sym (eqb-true d s.dose own.0); before = ltb-true _ _ times.0; after = ltb-true _ _ times.1 }

  -- what the search finds
  data FeedingMeans (slots : List Slot) : Feeding → Type 0 where
    none_feeds : ((s : Slot) → FeedsIn slots d t s → ⊥) → FeedingMeans slots unfed
    first_feeds : {s : Slot} → Earliest slots d t s → FeedingMeans slots (fed_by s)

  -- ---- one slot more, s in front of the others

  module _ (s : Slot) (slots : List Slot) where
    -- s is one of them
    front : OneOf (s ∷ slots) s
    front = record { index = 0; listed = omega arith; there = λ u. refl }

    -- and so are the others
    later : {u : Slot} → FeedsIn slots d t u → FeedsIn (s ∷ slots) d t u
    later f =
        let one = f.one in
        record { one = record { index = suc one.index; listed = omega arith; there = one.there }; dose = f.dose; before = f.before; after = f.after }

    -- what holds of s, if it passes, and of the others that have time
    each : (P : Slot → Type 0) → (test s ≡ true → P s) → ((u : Slot) → FeedsIn slots d t u → P u) → (u : Slot) → FeedsIn (s ∷ slots) d t u → P u
    each P own others u f = go f.one.index f.one.listed f.one.there
      where
        go : (i : ℕ) → i < length (s ∷ slots) → ((v : Slot) → get_or (s ∷ slots) i v ≡ u) → P u
        go zero l there = rw (there s) at (own (rw (there s) (passes f)))
        go (suc i) l there = others u (record { one = record { index = i; listed = omega arith; there = there }; dose = f.dose; before = f.before; after = f.after })

    -- s is the earliest, or one of the others stays it
    s_first : test s ≡ true → ((u : Slot) → FeedsIn slots d t u → starts s * u.weight ≤ starts u * s.weight) → FeedingMeans (s ∷ slots) (fed_by s)
    s_first p no-sooner = first_feeds (record { feeds = passed front p; first = each _ (λ p. omega arith) no-sooner })

    u_first : {u : Slot} → Earliest slots d t u → (test s ≡ true → starts u * s.weight ≤ starts s * u.weight) → FeedingMeans (s ∷ slots) (fed_by u)
    u_first e no-sooner = first_feeds (record { feeds = later e.feeds; first = each _ no-sooner e.first })

    -- s against the earliest of the others
    sooner : {u : Slot} → Earliest slots d t u → test s ≡ true → (b : Bool) → starts_before u s ≡ b → FeedingMeans (s ∷ slots) (fed_by (pick b u s))
    unfolding starts_before
    sooner {u} e p true l = u_first e (λ p. omega (arith, ltb-true (starts u * s.weight) (starts s * u.weight) l))
    sooner {u} e p false l = s_first p (λ v f. starts_chain s u v (some_weight e.feeds) (ltb-false _ _ l) (e.first v f))

    -- the search of the others and s
    more : (b : Bool) → test s ≡ b → (e : Feeding) → FeedingMeans slots e → FeedingMeans (s ∷ slots) (pick b (earlier s e) e)
    unfolding earlier
    more false q unfed (none_feeds n) = none_feeds (each (λ u. ⊥) (λ p. true≢false (sym p ∙ q)) n)
    more false q (fed_by u) (first_feeds e) = u_first e (λ p. absurd (true≢false (sym p ∙ q)))
    more true q unfed (none_feeds n) = s_first q (λ u f. absurd (n u f))
    more true q (fed_by u) (first_feeds e) = sooner e q (starts_before u s) refl

  -- so it is for all slots
  feeding_means : (slots : List Slot) → FeedingMeans slots (earliest slots d t)
  unfolding earliest
  feeding_means [] = none_feeds (λ s f. omega (arith, f.one.listed))
  feeding_means (s ∷ slots) = more s slots (test s) refl (earliest slots d t) (feeding_means slots)

-- ---- what a state means

module _ (o : Order) (slots : List Slot) (d t : ℕ) where
  -- what each says of dose d at t
  pub data StateMeans : State → Type 0 where
    is_finished : (dose_at o d).deadline ≤ t → StateMeans finished
    is_shut : t < (dose_at o d).deadline → t < (dose_at o d).release → StateMeans shut
    is_idle : (dose_at o d).release ≤ t → t < (dose_at o d).deadline → ((s : Slot) → FeedsIn slots d t s → ⊥) → StateMeans idle
    is_dosing : {fan : ℕ} → (dose_at o d).release ≤ t → t < (dose_at o d).deadline → FedOn slots d t fan → StateMeans (dosing fan)

  -- and the state of the dose is the one that is so
  pub state_means : StateMeans (state_at o slots d t)
  unfolding state_at fed_at state_by
  state_means = go (leb (dose_at o d).deadline t) (ltb t (dose_at o d).release) refl refl (earliest slots d t) (feeding_means d t slots)
    where
      go : (a b : Bool) → leb (dose_at o d).deadline t ≡ a → ltb t (dose_at o d).release ≡ b → (e : Feeding) → FeedingMeans d t slots e
          → StateMeans (pick a finished (pick b shut (state_by e)))
      go true b k l e m = is_finished (leb-true _ _ k)
      go false true k l e m = is_shut (leb-false _ _ k) (ltb-true _ _ l)
      go false false k l unfed (none_feeds n) = is_idle (ltb-false _ _ l) (leb-false _ _ k) n
      go false false k l (fed_by s) (first_feeds e) = is_dosing (ltb-false _ _ l) (leb-false _ _ k) (record { slot = s; earliest = e; on_fan = refl })

  -- "Finished if t is at or past the deadline, else" the rest: whatever the release is, so that a dose that were released behind its
  -- deadline would be Finished between the two, and not Shut
  pub finished_first : (dose_at o d).deadline ≤ t → state_at o slots d t ≡ finished
  unfolding state_at
  finished_first h = rw (le-leb (dose_at o d).deadline t h)

  -- Idle: t is inside the window, and no slot has time in the second
  pub idle_means : state_at o slots d t ≡ idle → ((dose_at o d).release ≤ t) × (t < (dose_at o d).deadline) × ((s : Slot) → FeedsIn slots d t s → ⊥)
  idle_means z = go (rw z at state_means)
    where
      go : StateMeans idle → ((dose_at o d).release ≤ t) × (t < (dose_at o d).deadline) × ((s : Slot) → FeedsIn slots d t s → ⊥)
      go (is_idle r l n) = (r, l, n)
