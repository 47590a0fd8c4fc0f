-- "The shares' total is greatest exactly when no chain leads from a dose short of its need to an interval with spare reserved time"
-- (document 01), and exactly then some doses and intervals are closed. Assumes nothing.
use mathlib.Core.Bool.{Bool}
use mathlib.Core.Logic.{◌↔◌, inl, inr}
use Prim.Native.Nat.{ℕ, zero, suc, ◌<◌}
use native.Mathlib.Omega.{arith}
use lib.Dec.{T}
use Rattle.model.specs.Sets.{Doses}
use Rattle.model.specs.Classes.{Setting, Row}
use Rattle.model.specs.Shares.{need, got, Within, Leaves, Chain, out, onward, NoChain, Closed, Greatest}
use Rattle.model.proofs.Chains.{bound, tight, given_out}
use Rattle.demands.proofs.Existence.Shares.{Ended, reached, reached_back, reached_first, reached_short, next_leads, ended_or_more, ended_or_spare}

module _ (S : Setting) (row : Row) (A : Doses) (x : ℕ → ℕ → ℕ) where
  open S use {doses, intervals}

  -- ---- the rounds go along chains

  -- a chain from a short dose of A to interval j
  record FromShort (j : ℕ) : Type 0 where
    dose : ℕ
    member : T (A dose)
    short : got S row A x dose < need S row A dose
    chain : Chain S row A x dose j

  -- what a dose that is reached leaves by, a chain from a short dose leads to
  reached_chain : (t k j : ℕ) → T (reached S row A x t k) → Leaves S row A x k j → FromShort j
  reached_chain zero k j h way =
      record { dose = k; member = reached_first S row A x k h; short = reached_short S row A x k h; chain = out j way }
  reached_chain (suc t) k j h way = elim (reached_back S row A x t k h) [
    | inl r ↦ reached_chain t k j r way
    | inr b ↦
        let l = next_leads S row A x (reached S row A x t) b.via b.inner b.led in
        let c = reached_chain t l.0 b.via l.1.member l.1.leaves in
        record { dose = c.dose; member = c.member; short = c.short; chain = onward b.via k j c.chain b.some way }
  ]

  -- no chain to spare time: the rounds end
  chainless_ended : Within S row A x → NoChain S row A x → Ended S row A x
  chainless_ended w none = elim (ended_or_spare S row A x w) [
    | inl c ↦ c
    | inr r ↦
        let s = r.2 in
        let l = next_leads S row A x (reached S row A x r.0) r.1 s.inner s.led in
        let c = reached_chain r.0 l.0 r.1 l.1.member l.1.leaves in
        absurd (none c.dose r.1 c.member c.short c.chain s.spare)
  ]

  -- ---- a chain from a dose of R ends in Q

  -- it starts at a dose and ends at an interval of the setting
  chain_start : {k j : ℕ} → Chain S row A x k j → k < doses
  chain_start (out j way) = way.dose
  chain_start (onward i m j c p way) = chain_start c

  chain_end : {k j : ℕ} → Chain S row A x k j → j < intervals
  chain_end (out j way) = way.interval
  chain_end (onward i m j c p way) = way.interval

  stays_in : (R : Doses) (Q : ℕ → Bool) → Closed S row A x R Q → {k j : ℕ} → T (R k) → Chain S row A x k j → T (Q j)
  stays_in R Q c {k} r (out j way) = c.out k j r way
  stays_in R Q c r (onward i m j h p way) =
      c.out m j (c.back m i way.dose (chain_end h) (stays_in R Q c r h) p) way

  -- so none ends in spare time
  ended_chainless : Ended S row A x → NoChain S row A x
  ended_chainless e k j a short h spare =
      let c = e.2 in
      omega (arith, c.spent j (chain_end h) (stays_in e.0 e.1 c (c.shorts k (chain_start h) a short) h))

  module _ (w : Within S row A x) where
    -- what the doses of R need beyond their fan time is missing from any shares
    ended_greatest : Ended S row A x → Greatest S row A x
    ended_greatest e y v =
        let c = e.2 in
        omega (
          arith,
          tight S row A x w e.0 e.1 c,
          bound S row A y v e.0 c.inside,
          given_out S row A x w,
          given_out S row A y v,
        )

    -- were the rounds to reach spare time, more could be given out
    greatest_ended : Greatest S row A x → Ended S row A x
    greatest_ended g = elim (ended_or_more S row A x w) [ inl c ↦ c | inr m ↦ absurd (omega (arith, m.more, g m.shares m.within)) ]

    -- "The shares' total is greatest exactly when no chain leads from a dose short of its need to an interval with spare reserved time."
    pub greatest_exactly_without_chains : Greatest S row A x ↔ NoChain S row A x
    greatest_exactly_without_chains = (λ g. ended_chainless (greatest_ended g), λ n. ended_greatest (chainless_ended w n))

    -- and exactly then there are doses and intervals that no chain leads out of
    pub greatest_exactly_closed : Greatest S row A x ↔ (R : Doses) × (Q : ℕ → Bool) × Closed S row A x R Q
    greatest_exactly_closed = (greatest_ended, ended_greatest)
