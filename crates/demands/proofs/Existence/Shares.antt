-- Shares that no chain can raise exist: while a chain from a short dose ends in an interval with spare time, one unit more can be given
-- out. The dose at a chain's end moves one unit of its own to the spare time, so the chain is shorter by a round. Assumes nothing.
use mathlib.Core.Path.{◌≡◌, sym}
use mathlib.Core.Bool.{Bool, true, false, ◌&&◌, ◌||◌}
use mathlib.Core.Logic.{◌≢◌, ◌⊎◌, inl, inr}
use Prim.Native.Nat.{ℕ, zero, suc, ◌+◌, ◌*◌, ◌-◌, ◌≤◌, ◌<◌, zero-le}
use native.Mathlib.Nat.{eq-or-lt_of_le}
use native.Mathlib.Decide.{ℕ_discrete, dec_le}
use native.Mathlib.Omega.{arith}
use lib.Dec.{T, ltb, ltb→lt, lt→ltb}
use Rattle.model.specs.Sets.{sum, Doses, weight, Sub, Nonempty}
use Rattle.model.specs.Classes.{Setting, Row, W}
use Rattle.model.specs.Shares.{need, holds, got, given, Within, Leaves, Closed, shares_total}
use Rattle.model.proofs.Sums.{sum_congr, sum_le, sum_zero}
use Rattle.model.proofs.Sets.{weight_mono, weight_pos, weight_same, le_weight, and_left, and_right, and_both, or_left, or_right, or_elim, on_pos, on_yes, size, size_all}
use Rattle.demands.proofs.Existence.Raise.{put, put_other_dose, put_other_interval, got_put, given_put, given_other, total_put, put_within}

-- some number below n passes the test
unfoldable found : ℕ → (ℕ → Bool) → Bool
found n p = ltb 0 (weight n (λ k. 1) p)

found_some : (n : ℕ) (p : ℕ → Bool) → T (found n p) → Nonempty n p
unfolding found
found_some n p t = weight_pos n (λ k. 1) p (ltb→lt 0 _ t)

some_found : (n : ℕ) (p : ℕ → Bool) (k : ℕ) → k < n → T (p k) → T (found n p)
unfolding found
some_found n p k l t = lt→ltb 0 _ (le_weight n (λ k. 1) p k l t)

-- a test passes or not
test : (b : Bool) → T b ⊎ (T b → ⊥)
test true = inl tt
test false = inr (λ t. t)

module _ (S : Setting) (row : Row) (A : Doses) where
  open S use {doses, intervals, active, len}

  -- dose k of R leads to interval j: a chain can leave it there
  pub record Leads (x : ℕ → ℕ → ℕ) (R : Doses) (j k : ℕ) : Type 0 where
    pub member : T (R k)
    pub leaves : Leaves S row A x k j

  module _ (x : ℕ → ℕ → ℕ) where
    -- some dose of R leads to interval j
    pub next : Doses → ℕ → Bool
    next R j = found doses (λ k. R k && (active k j && ltb (x k j) (len j * W S A)))

    pub next_leads : (R : Doses) (j : ℕ) → j < intervals → T (next R j) → (k : ℕ) × Leads x R j k
    unfolding next
    next_leads R j l t =
        let r = found_some doses _ t in
        let k = r.0 in
        let q = and_right (R k) _ r.2 in
        let way : Leaves S row A x k j = record { dose = r.1; interval = l; live = and_left (active k j) _ q; less = ltb→lt _ _ (and_right (active k j) _ q) } in
        (k, record { member = and_left (R k) _ r.2; leaves = way })

    leads_next : (R : Doses) (j k : ℕ) → Leads x R j k → T (next R j)
    unfolding next
    leads_next R j k h =
        let way = h.leaves in
        some_found doses _ k way.dose (and_both (R k) _ h.member (and_both (active k j) _ way.live (lt→ltb _ _ way.less)))

    -- the doses that chains from the short doses reach in t rounds
    pub reached : ℕ → Doses
    reached zero k = A k && ltb (got S row A x k) (need S row A k)
    reached (suc t) k = reached t k || found intervals (λ j. next (reached t) j && ltb 0 (x k j))

    -- short doses are reached in every round, and what is reached stays so; a share in a reached interval reaches its dose in the next round
    short_reached : (t k : ℕ) → T (A k) → got S row A x k < need S row A k → T (reached t k)
    unfolding reached
    short_reached zero k a h = and_both (A k) _ a (lt→ltb _ _ h)
    short_reached (suc t) k a h = or_left (reached t k) _ (short_reached t k a h)

    reached_later : (t k : ℕ) → T (reached t k) → T (reached (suc t) k)
    unfolding reached
    reached_later t k h = or_left (reached t k) _ h

    back_reached : (t k j : ℕ) → j < intervals → T (next (reached t) j) → 0 < x k j → T (reached (suc t) k)
    unfolding reached
    back_reached t k j l q p = or_right (reached t k) _ (some_found intervals _ j l (and_both (next (reached t) j) _ q (lt→ltb _ _ p)))

    -- dose k has a share in an interval that a dose of round t leads to
    pub record Back (t k : ℕ) : Type 0 where
      pub via : ℕ
      pub inner : via < intervals
      pub led : T (next (reached t) via)
      pub some : 0 < x k via

    pub reached_back : (t k : ℕ) → T (reached (suc t) k) → T (reached t k) ⊎ Back t k
    unfolding reached
    reached_back t k h = or_elim (reached t k) _ h inl (λ f.
        let r = found_some intervals _ f in
        let j = r.0 in
        inr (record { via = j; inner = r.1; led = and_left (next (reached t) j) _ r.2; some = ltb→lt _ _ (and_right (next (reached t) j) _ r.2) }))

    -- round 0 has short doses of A, and all rounds have doses of A
    pub reached_short : (k : ℕ) → T (reached 0 k) → got S row A x k < need S row A k
    unfolding reached
    reached_short k h = ltb→lt _ _ (and_right (A k) _ h)

    pub reached_first : (k : ℕ) → T (reached 0 k) → T (A k)
    unfolding reached
    reached_first k h = and_left (A k) _ h

    reached_inside : Within S row A x → (t : ℕ) → Sub doses (reached t) A
    unfolding reached
    reached_inside w zero k l h = and_left (A k) _ h
    reached_inside w (suc t) k l h = elim (reached_back t k h) [
      | inl r ↦ reached_inside w t k l r
      | inr b ↦ and_left (A k) (active k b.via) (on_pos (A k && active k b.via) (len b.via * W S A) (omega (arith, w.roomy k b.via l b.inner, b.some)))
    ]

    -- no more doses in round t + 1 than in round t: the same doses
    stays : (t : ℕ) → size doses (reached (suc t)) ≤ size doses (reached t) → (s : ℕ) × Sub doses (reached (suc s)) (reached s)
    stays t e = (t, weight_same doses (λ k. 1) (λ k l. omega arith) (reached t) (reached (suc t)) (λ k l. reached_later t k) e)

    -- at most d doses are not yet reached in round t: some rounds on, nothing more is reached
    stable : (d t : ℕ) → doses ≤ size doses (reached t) + d → (s : ℕ) × Sub doses (reached (suc s)) (reached s)
    stable zero t h = stays t (omega (arith, weight_mono doses (λ k. 1) (reached (suc t)) (λ k. true) (λ k l r. tt), size_all doses))
    stable (suc d) t h = elim (dec_le (size doses (reached (suc t))) (size doses (reached t))) [ yes e ↦ stays t e | no e ↦ stable d (suc t) (omega arith) ]

  -- y has other shares than x for dose k alone, and k is not reached from x: what is reached from x is reached from y
  module _ (x y : ℕ → ℕ → ℕ) (k : ℕ) (same : (a b : ℕ) → a ≢ k → y a b ≡ x a b) where
    -- an interval that a dose of R leads to, k not in R
    next_kept : (R Q : Doses) → (T (R k) → ⊥) → Sub doses R Q → (j : ℕ) → j < intervals → T (next x R j) → T (next y Q j)
    next_kept R Q n h j l t =
        let r = next_leads x R j l t in
        let a = r.0 in
        let g = r.1 in
        let way = g.leaves in
        let e : y a j ≡ x a j = same a j (λ e. n (rw e at g.member)) in
        let kept : Leaves S row A y a j = record { dose = way.dose; interval = l; live = way.live; less = rw e way.less } in
        leads_next y Q j a (record { member = h a way.dose g.member; leaves = kept })

    reached_kept : (t : ℕ) → (T (reached x t k) → ⊥) → Sub doses (reached x t) (reached y t)
    reached_kept zero n a l h =
        let d : a ≢ k = λ e. n (rw e at h) in
        short_reached y 0 a (reached_first x a h) (rw (sum_congr intervals (λ b m. same a b d)) (reached_short x a h))
    reached_kept (suc t) n a l h =
        let n' : T (reached x t k) → ⊥ = λ r. n (reached_later x t k r) in
        elim (reached_back x t a h) [
          | inl r ↦ reached_later y t a (reached_kept t n' a l r)
          | inr b ↦ back_reached y t a b.via b.inner (next_kept (reached x t) (reached y t) n' (reached_kept t n') b.via b.inner b.led)
              (rw (same a b.via (λ e. n (rw e at h))) b.some)
        ]

  -- shares within the bounds that give out more than x
  pub record More (x : ℕ → ℕ → ℕ) : Type 0 where
    pub shares : ℕ → ℕ → ℕ
    pub within : Within S row A shares
    pub more : shares_total S row A x < shares_total S row A shares

  -- in x, interval j has spare time and is reached in t rounds
  pub record Spare (t : ℕ) (x : ℕ → ℕ → ℕ) (j : ℕ) : Type 0 where
    pub within : Within S row A x
    pub inner : j < intervals
    pub led : T (next x (reached x t) j)
    pub spare : given S row A x j < holds S row A j

  -- a short dose can be given one unit more where it is active and there is spare time
  give_within : (x : ℕ → ℕ → ℕ) (k j : ℕ) → Within S row A x → T (A k) → Leaves S row A x k j
      → got S row A x k < need S row A k → given S row A x j < holds S row A j → Within S row A (put x k j (suc (x k j)))
  give_within x k j w a way g h =
      put_within S row A x k j (suc (x k j)) way.dose way.interval w
      (rw (on_yes (A k && active k j) (len j * W S A) (and_both (A k) _ a way.live)) way.less) (omega arith) (omega arith)

  -- dose k is first reached in round t + 1, by its share in interval i, and leads to interval j with spare time: one unit of it moves from i to j
  module _ (t : ℕ) (x : ℕ → ℕ → ℕ) (j : ℕ) (s : Spare (suc t) x j) (k : ℕ) (g : Leads x (reached x (suc t)) j k) (b : Back x t k) (d : b.via ≢ j) where
    abbrev i : ℕ
    i = b.via

    abbrev kn : k < doses
    kn = g.leaves.dose

    abbrev lower : ℕ → ℕ → ℕ
    lower = put x k i (x k i - 1)

    abbrev moved : ℕ → ℕ → ℕ
    moved = put lower k j (suc (lower k j))

    lower_within : Within S row A lower
    lower_within =
        let w = s.within in
        put_within S row A x k i (x k i - 1) kn b.inner w (omega (arith, w.roomy k i kn b.inner))
        (omega (arith, w.held i b.inner)) (omega (arith, w.needed k kn))

    lower_here : lower k j ≡ x k j
    lower_here = put_other_interval x k i _ k j (λ e. d (sym e))

    lower_got : got S row A lower k + 1 ≡ got S row A x k
    lower_got = omega (arith, got_put S row A x k i (x k i - 1) kn b.inner, b.some)

    lower_given : given S row A lower j ≡ given S row A x j
    lower_given = given_other S row A x k i _ kn b.inner j (λ e. d (sym e))

    moved_within : Within S row A moved
    moved_within =
        let way : Leaves S row A lower k j = record { dose = kn; interval = s.inner; live = g.leaves.live; less = rw lower_here g.leaves.less } in
        give_within lower k j lower_within (reached_inside x s.within (suc t) k kn g.member) way
        (omega (arith, lower_got, s.within.needed k kn)) (rw lower_given s.spare)

    moved_total : shares_total S row A moved ≡ shares_total S row A x
    moved_total = omega (arith, total_put S row A x k i (x k i - 1) kn b.inner, total_put S row A lower k j (suc (lower k j)) kn s.inner, b.some)

    moved_spare : (T (reached x t k) → ⊥) → Spare t moved i
    moved_spare n = record {
      within = moved_within;
      inner = b.inner;
      led = next_kept x moved k same (reached x t) (reached moved t) n (reached_kept x moved k same t n) i b.inner b.led;
      spare = omega (
        arith,
        given_other S row A lower k j (suc (lower k j)) kn s.inner i d,
        given_put S row A x k i (x k i - 1) kn b.inner,
        b.some,
        s.within.held i b.inner,
      );
    }
      where
        same : (a b : ℕ) → a ≢ k → moved a b ≡ x a b
        same a b e = rw (put_other_dose lower k j (suc (lower k j)) a b e, put_other_dose x k i (x k i - 1) a b e)

  -- one unit more, where that is known for chains of a round less
  raise_more : (t : ℕ) → ((x : ℕ → ℕ → ℕ) (j : ℕ) → Spare t x j → More x) → (x : ℕ → ℕ → ℕ) (j : ℕ) → Spare (suc t) x j
      → (k : ℕ) → Leads x (reached x (suc t)) j k → More x
  raise_more t shorter x j s k g = elim (reached_back x t k g.member) [
    | inl r ↦ early r
    | inr b ↦ elim (test (reached x t k)) [
      | inl r ↦ early r
      | inr n ↦ elim (ℕ_discrete b.via j) [
        | yes e ↦ sooner (rw e at b.led)
        | no d ↦
            let m = shorter (moved t x j s k g b d) b.via (moved_spare t x j s k g b d n) in
            record { shares = m.shares; within = m.within; more = omega (arith, m.more, moved_total t x j s k g b d) }
      ]
    ]
  ]
    where
      sooner : T (next x (reached x t) j) → More x
      sooner q = shorter x j (record { within = s.within; inner = s.inner; led = q; spare = s.spare })

      early : T (reached x t k) → More x
      early r = sooner (leads_next x (reached x t) j k (record { member = r; leaves = g.leaves }))

  -- an interval with spare time that a chain reaches: one unit more can be given out
  raise : (t : ℕ) (x : ℕ → ℕ → ℕ) (j : ℕ) → Spare t x j → More x
  raise zero x j s =
      let r = next_leads x (reached x 0) j s.inner s.led in
      let k = r.0 in
      let g = r.1 in
      record {
        shares = put x k j (suc (x k j));
        within = give_within x k j s.within (reached_first x k g.member) g.leaves (reached_short x k g.member) s.spare;
        more = omega (arith, total_put S row A x k j (suc (x k j)) g.leaves.dose s.inner);
      }
  raise (suc t) x j s =
      let r = next_leads x (reached x (suc t)) j s.inner s.led in
      raise_more t (raise t) x j s r.0 r.1

  -- no chain from the shares x leads on to spare time
  abbrev pub Ended : (ℕ → ℕ → ℕ) → Type 0
  Ended x = (R : Doses) × (Q : ℕ → Bool) × Closed S row A x R Q

  -- or the rounds reach spare time
  pub ended_or_spare : (x : ℕ → ℕ → ℕ) → Within S row A x → Ended x ⊎ ((t : ℕ) × (j : ℕ) × Spare t x j)
  ended_or_spare x w = elim (test (found intervals spares)) [
    | inl f ↦
        let r = found_some intervals spares f in
        let j = r.0 in
        inr (t, j, record { within = w; inner = r.1; led = and_left (Q j) _ r.2; spare = ltb→lt _ _ (and_right (Q j) _ r.2) })
    | inr n ↦ inl (
      R,
      Q,
      record {
        inside = reached_inside x w t;
        shorts = λ k l. short_reached x t k;
        out = λ k j r way. leads_next x R j k (record { member = r; leaves = way });
        back = λ k j l m q p. last.1 k l (back_reached x t k j m q p);
        spent = λ j l q. elim (eq-or-lt_of_le (w.held j l)) [ inl e ↦ e | inr u ↦ absurd (n (some_found intervals spares j l (and_both (Q j) _ q (lt→ltb _ _ u)))) ];
      },
    )
  ]
    where
      last : (s : ℕ) × Sub doses (reached x (suc s)) (reached x s)
      last = stable x doses 0 (omega arith)

      t : ℕ
      t = last.0

      R : Doses
      R = reached x t

      Q : ℕ → Bool
      Q = next x R

      spares : ℕ → Bool
      spares j = Q j && ltb (given S row A x j) (holds S row A j)

  -- and then more can be given out
  pub ended_or_more : (x : ℕ → ℕ → ℕ) → Within S row A x → Ended x ⊎ More x
  ended_or_more x w = elim (ended_or_spare x w) [ inl c ↦ inl c | inr s ↦ inr (raise s.0 x s.1 s.2) ]

  -- shares within the bounds that no chain can raise
  abbrev pub Result : Type 0
  Result = (x : ℕ → ℕ → ℕ) × Within S row A x × (R : Doses) × (Q : ℕ → Bool) × Closed S row A x R Q

  -- to there, from shares within the bounds that are at most d below all needs together
  climb : (d : ℕ) (x : ℕ → ℕ → ℕ) → Within S row A x → sum doses (λ k. need S row A k) ≤ shares_total S row A x + d → Result
  climb zero x w h = elim (ended_or_more x w) [
    | inl c ↦ (x, w, c.0, c.1, c.2)
    | inr m ↦ absurd (omega (arith, m.more, sum_le doses m.within.needed))
  ]
  climb (suc d) x w h = elim (ended_or_more x w) [
    | inl c ↦ (x, w, c.0, c.1, c.2)
    | inr m ↦ climb d m.shares m.within (omega (arith, m.more))
  ]

-- valid or not, there are shares within the bounds that no chain can raise
pub shares_exist : (S : Setting) (row : Row) (A : Doses) → Result S row A
shares_exist S row A = climb S row A (sum S.doses (λ k. need S row A k)) (λ k j. 0) none (omega arith)
  where
    none : Within S row A (λ k j. 0)
    none = record {
      roomy = λ k j l m. zero-le;
      held = λ j l. rw (sum_zero S.doses) zero-le;
      needed = λ k l. rw (sum_zero S.intervals) zero-le;
    }
