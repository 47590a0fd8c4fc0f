-- The shares that the searches leave, in the definitions' words: within their bounds, and the dead stations are ones that no chain leads
-- out of. Assumes nothing.
use Prim.Native.Nat.{ℕ, ◌+◌, ◌*◌, ◌<◌, ◌≤◌}
use mathlib.Core.List.{List}
use mathlib.Core.Bool.{Bool, true, false, ◌&&◌}
use mathlib.Core.Path.{◌≡◌, refl, sym, ◌∙◌}
use mathlib.Core.Logic.{inl, inr}
use lib.ListN.{get_or}
use lib.Dec.{T}
use native.Mathlib.Omega.{arith}
use Rattle.model.specs.Limits.{most_doses, most_intervals}
use Rattle.model.specs.Sets.{on, weight, Doses, Sub, Nonempty}
use Rattle.model.specs.Classes.{Setting, Row, W, NextClass}
use Rattle.model.specs.Shares as model
use Rattle.model.proofs.Sums.{sum_congr, sum_past, sum_zero}
use Rattle.model.proofs.Sets.{and_left, and_right, and_both, on_pos, on_below, on_yes, le_weight}
use Rattle.model.proofs.FanTime.{Heavy}
use Rattle.model.proofs.Fractions.{compare≤}
use Rattle.model.proofs.Chains.{some_part, smaller}
use Rattle.model.proofs.Rounds.{Keeps, keeps_end, keeps_step}
use Rattle.class_chains.specs.Chains.{cell, got, given}
use Rattle.class_shares.specs.Share.{Raised, Met}
use Rattle.class_chains.proofs.Laws.{got_sum, given_sum}

true_T : {b : Bool} → b ≡ true → T b
true_T e = rw e tt

T_true : (b : Bool) → T b → b ≡ true
T_true false t = elim t [ ]
T_true true t = refl

module _ (S : Setting) (row : Row) (A : Doses) (rooms holds needs : List ℕ) where
  open S use {doses as n, intervals as J, active, len, grams}

  -- the arrays hold what the candidate A asks for, and nothing past the doses and the intervals
  pub record Asked : Type 0 where
    pub doses : n ≤ most_doses
    pub intervals : J ≤ most_intervals
    pub room : (k j : ℕ) → k < n → j < J → cell rooms k j ≡ model.room S row A k j
    pub no_dose : (k j : ℕ) → n ≤ k → k < most_doses → j < most_intervals → cell rooms k j ≡ 0
    pub no_interval : (k j : ℕ) → k < most_doses → J ≤ j → j < most_intervals → cell rooms k j ≡ 0
    pub hold : (j : ℕ) → j < J → get_or holds j 0 ≡ model.holds S row A j
    pub need : (k : ℕ) → k < n → get_or needs k 0 ≡ on (A k) (model.need S row A k)
    pub no_need : (k : ℕ) → n ≤ k → k < most_doses → get_or needs k 0 ≡ 0

  module _ (asked : Asked) (x : List ℕ) (s : List Bool) (p : Raised rooms holds needs 1 most_doses s x) where
    abbrev pub share : ℕ → ℕ → ℕ
    share k j = cell x k j

    -- the dead doses of the candidate, and the dead intervals
    abbrev pub R : Doses
    R k = get_or s k false && A k

    abbrev pub Q : ℕ → Bool
    Q j = get_or s (most_doses + j) false

    dose_in_lem : {k : ℕ} → k < n → k < most_doses
    dose_in_lem l = omega (arith, asked.doses)

    interval_in : {j : ℕ} → j < J → j < most_intervals
    interval_in l = omega (arith, asked.intervals)

    -- nothing is shared out past the intervals and the doses
    totals_got : (k : ℕ) → k < n → model.got S row A share k ≡ got x k
    totals_got k l =
        sym (sum_past J most_intervals asked.intervals (λ j. share k j)
        (λ j h q. omega (arith, p.within.bounded.roomy k j (dose_in_lem l) q, asked.no_interval k j (dose_in_lem l) h q)))
        ∙ got_sum x k

    totals_given : (j : ℕ) → j < J → model.given S row A share j ≡ given x j
    totals_given j l =
        sym (sum_past n most_doses asked.doses (λ k. share k j)
        (λ k h q. omega (arith, p.within.bounded.roomy k j q (interval_in l), asked.no_dose k j h q (interval_in l))))
        ∙ given_sum x j

    pub within : model.Within S row A share
    within = record {
      roomy = λ k j l m. omega (arith, p.within.bounded.roomy k j (dose_in_lem l) (interval_in m), asked.room k j l m);
      held = λ j m. omega (arith, totals_given j m, p.within.bounded.held j (interval_in m), asked.hold j m);
      needed = λ k l. omega (arith, totals_got k l, p.within.needed k (dose_in_lem l), asked.need k l, on_below (A k) (model.need S row A k));
    }

    pub closed : model.Closed S row A share R Q
    closed = record {
      inside = λ k l t. and_right (get_or s k false) (A k) t;
      shorts = λ k l t h. and_both (get_or s k false) (A k)
          (true_T (p.met k (dose_in_lem l) (omega (arith, totals_got k l, asked.need k l, on_yes (A k) (model.need S row A k) t)))) t;
      out = λ k j r way.
          let in_room = and_both (A k) (active k j) (and_right (get_or s k false) (A k) r) way.live in
          true_T (p.dead.doses k j (dose_in_lem way.dose) (interval_in way.interval) (T_true (get_or s k false) (and_left (get_or s k false) (A k) r))
          (omega (arith, asked.room k j way.dose way.interval, on_yes (A k && active k j) (len j * W S A) in_room, way.less)));
      back = λ k j l m t h.
          let room : 0 < model.room S row A k j = omega (arith, asked.room k j l m, p.within.bounded.roomy k j (dose_in_lem l) (interval_in m)) in
          and_both (get_or s k false) (A k)
          (true_T (p.dead.intervals k j (dose_in_lem l) (interval_in m) (T_true (Q j) t) (omega arith)))
          (and_left (A k) (active k j) (on_pos (A k && active k j) (len j * W S A) room));
      spent = λ j m t. omega (arith, totals_given j m, p.within.bounded.held j (interval_in m), asked.hold j m, p.dead.spares j (interval_in m) (T_true (Q j) t));
    }

    -- every dose has what it needs: nothing is missing
    pub none_missing : ((k : ℕ) → k < most_doses → got x k ≡ get_or needs k 0) → model.missing S row A share ≡ 0
    unfolding weight
    none_missing all = sum_congr n (λ k l. go k l (A k) refl) ∙ sum_zero n
      where
        go : (k : ℕ) → k < n → (b : Bool) → A k ≡ b → on b (model.short S row A share k) ≡ 0
        go k l false e = refl
        go k l true e = omega (arith, totals_got k l, all k (dose_in_lem l), asked.need k l, on_yes (A k) (model.need S row A k) (rw e tt))

    -- a dose lacks something: so something is missing
    pub some_missing : (k : ℕ) → k < most_doses → got x k < get_or needs k 0 → 0 < model.missing S row A share
    some_missing k h l = elim (compare≤ n k) [
      | inl g ↦ absurd (omega (arith, asked.no_need k g h))
      | inr g ↦
          let t : T (A k) = on_pos (A k) (model.need S row A k) (omega (arith, asked.need k g)) in
          omega (arith, le_weight n (model.short S row A share) A k g t, totals_got k g, asked.need k g, on_yes (A k) (model.need S row A k) t)
    ]

    -- ---- one round: the candidate is the next class, or the dead doses are the next candidate

    module _ (heavy : Heavy S) (rest : Doses) (sub : Sub n A rest) (some : Nonempty n A) (keeps : Keeps S row rest A) (r : Bool) (m : Met needs x r) where
      pub found : r ≡ true → NextClass S row rest A
      found e = keeps_end S row heavy rest A keeps share within sub some (none_missing (m.all e))

      module _ (e : r ≡ false) where
        less : 0 < model.missing S row A share
        less = let k = m.some e in some_missing k.0 k.1 k.2

        pub part : Sub n R rest
        part k l t = sub k l (and_right (get_or s k false) (A k) t)

        pub part_some : Nonempty n R
        part_some = some_part S row A share within R Q closed less

        pub lighter : W S R < W S A
        lighter = smaller S row A share within R Q closed heavy less

        pub part_keeps : Keeps S row rest R
        part_keeps = keeps_step S row heavy rest A keeps share within R Q closed less
