-- `clear_after` meets its contract: every later slot passed is apart; one past the interval ends the search, since all behind it lie later (Turns).
use mathlib.Core.List.{List}
use mathlib.Core.Path.{◌≡◌}
use Prim.Native.Nat.{ℕ, ◌/◌, ◌<◌, ◌≤◌}
use lib.ListN.{length}
use Rattle.model.specs.Plans.{Slot}
use Rattle.model.specs.Records.{record_size}
use Rattle.records.specs.Plan.{slot_in}
use Rattle.judge_clauses.specs.Tests.{SlotsReady, place_in}
use Rattle.judge_clauses.proofs.Tell.{tells_not, tells_off, tells_on}
use Rattle.judge_pairs.proofs.Turns.{Behind, apart_past, apart_within}
use native.Mathlib.Omega.{arith}
use Rattle.judge_pairs.proofs.clear_after.Goals as goal

-- the slot that was read stands behind slot i
behind : {instants : List ℕ} {intervals : ℕ} {plan : List ℕ} {p i l : ℕ} {s u : Slot} {j : ℕ} → SlotsReady instants intervals plan p → p ≤ i
    → i < l → l < length plan / record_size → s ≡ slot_in plan i → j ≡ place_in instants intervals s → u ≡ slot_in plan l
    → Behind instants intervals plan p i l s u j
behind r f later within s j u =
    record { ready = r; from = f; later = later; within = within; slot = s; place = j; next = u }

pub returns-then-end-u : goal.returns-then-end-u
returns-then-end-u c =
    let slot = behind c.requires.3 c.requires.1 (omega arith) (omega arith) c.slot_at-s.ensures c.interval_of.ensures.0 c.slot_at-u.ensures in
    tells_on (apart_past slot c.if-end-u.true c.loop-l.invariant)

pub returns-then-not-apart : goal.returns-then-not-apart
returns-then-not-apart c =
    let slot = behind c.requires.3 c.requires.1 (omega arith) (omega arith) c.slot_at-s.ensures c.interval_of.ensures.0 c.slot_at-u.ensures in
    tells_off (λ all. tells_not c.apart.ensures c.if-not-apart.true (apart_within slot c.if-end-u.false all))
