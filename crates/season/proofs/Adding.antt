-- A stream that is refused, and the walk over one that is not: the orders before a record are added up. Assumes nothing.
use mathlib.Core.Bool.{Bool, true, false, ◌&&◌, ◌||◌}
use mathlib.Core.List.{List, [], ◌∷◌, ◌++◌, append_assoc, append-nil}
use mathlib.Core.Path.{◌≡◌, refl, ap, ◌∙◌, sym}
use Rattle.std.proofs.Common.{Result}
use Prim.Native.Nat.{ℕ, suc, ◌+◌, ◌*◌, ◌-◌, ◌/◌, ◌%◌, ◌<◌, ◌≤◌}
use native.Mathlib.Nat.{sub-zero}
use native.Mathlib.Omega.{arith}
use borrow.Author.Tests.{clash, leb-true, ne_eqb}
use lib.Dec.{eqb, leb}
use lib.ListN.{length, take, drop}
use Rattle.model.specs.Limits.{stream_room}
use Rattle.model.specs.Records.{record_size}
use Rattle.model.specs.Lists.{Along, beside, ended}
use Rattle.model.specs.Season.{AddsUp, Comes, Outcome, before_next, begins, not_added_up, orders_from, read_stream, records_at, season_of, stream_fits}
use Rattle.model.specs.Answers.{done, refusal}
use Rattle.model.proofs.Lists.{Along-append}
use Rattle.season.specs.Adding.{with_outcome}
use Rattle.season.specs.Held.{OutcomeFits, SeasonFits, SeasonIn, as_outcome, as_season, OpensWithFans}
use Rattle.season.specs.declared.outcome.Accepted.{Accepted}
use Rattle.season.specs.declared.outcome.Refused.{Refused}
use Rattle.season.specs.declared.figures.Season.{Season}
use Rattle.model.proofs.Streams.{next_begins, next_most, order_first}
use Rattle.season.proofs.OneMore.{fits_more, fits_none, fits_up, season_more}

-- the orders that begin before record i of n are added up, and one begins there
pub record Adding (stream : List ℕ) (n i : ℕ) (s : Season) : Type 0 where
  pub few : i ≤ n
  pub count : n ≡ length stream / record_size
  pub begun : i < n → begins stream i ≡ true
  pub orders : List (List ℕ)
  pub outcomes : List Outcome
  pub each : Along Comes orders outcomes
  pub whole : orders ++ orders_from stream i (n - i) ≡ orders_from stream 0 n
  pub figures : as_season s ≡ season_of outcomes
  pub fits : SeasonFits i s

-- no record is passed yet
pub adding_none : {stream : List ℕ} {n : ℕ} {s : Season} → n ≡ length stream / record_size → OpensWithFans stream → as_season s ≡ season_of [] → Adding stream n 0 s
adding_none {stream} {n} {s} e h z = record {
  few = omega arith;
  count = e;
  begun = λ l. h (omega (arith, e));
  orders = [];
  outcomes = [];
  each = ended;
  whole = ap (λ (m : ℕ). orders_from stream 0 m) (sub-zero n);
  figures = z;
  fits = fits_none s z;
}

-- the order from record i up to the next F is one more
pub adding_order : {stream : List ℕ} {n i next : ℕ} {s r : Season} (x : Result Accepted Refused) → Adding stream n i s → i < n → next ≡ i + 1 + before_next stream (i + 1) (n - (i + 1))
    → Comes (take (record_size * next - record_size * i) (drop (record_size * i) stream)) (as_outcome x) → OutcomeFits x
    → as_season r ≡ with_outcome (as_season s) (as_outcome x) → Adding stream n next r
adding_order {stream} {n} {i} {next} {s} {r} x a l e comes h f =
    let behind = before_next stream (i + 1) (n - i - 1) in
    let fewer : n - (i + 1) ≡ n - i - 1 = omega arith in
    let to : next ≡ i + 1 + behind = e ∙ ap (λ (m : ℕ). i + 1 + before_next stream (i + 1) m) fewer in
    let most = next_most stream (i + 1) (n - i - 1) in
    let long : record_size * next - record_size * i ≡ record_size * suc behind = omega (arith, to) in
    let left : n - i - 1 - behind ≡ n - next = omega (arith, to, most) in
    let mine = records_at stream i (suc behind) in
    let first = order_first stream i (n - i) (omega arith) (a.begun l) in
    record {
      few = omega (arith, to, most);
      count = a.count;
      begun = λ q. rw to (next_begins stream (i + 1) (n - i - 1) (omega (arith, to)));
      orders = a.orders ++ mine ∷ [];
      outcomes = a.outcomes ++ as_outcome x ∷ [];
      each = Along-append a.each (beside (rw long at comes) ended);
      whole = append_assoc a.orders (mine ∷ []) (orders_from stream next (n - next))
          ∙ ap (λ (l : List (List ℕ)). a.orders ++ l) (sym (rw (left, ← to) at first))
          ∙ a.whole;
      figures = f ∙ ap (λ s. with_outcome s (as_outcome x)) a.figures ∙ season_more a.outcomes x h;
      fits = fits_up (i + 1) next r (omega (arith, to)) (fits_more i s r x a.fits h f);
    }

-- no record is left
pub adding_all : {stream : List ℕ} {n i : ℕ} {s : Season} → Adding stream n i s → n ≤ i → SeasonIn stream s
unfolding orders_from
adding_all {stream} {n} {i} {s} a l =
    let none : n - i ≡ 0 = omega arith in
    let all = sym (append-nil a.orders) ∙ rw none at a.whole in
    record { outcomes = a.outcomes; each = rw (← a.count, ← all) a.each; figures = a.figures }

-- ---- 16, or the figures

both : (x y : Bool) → (x && y) ≡ true → (x ≡ true) × (y ≡ true)
both true y e = (refl, e)
both false y e = absurd (clash e)

module _ (stream : List ℕ) where
  -- where a test fails
  pub not_added : stream_fits stream ≡ false → AddsUp stream (not_added_up (refusal 16 0))
  unfolding read_stream
  not_added f = AddsUp.refuses 16 0 (rw f)

  -- a stream that fits is no longer, and where it has a record, the first is an F
  pub fitting : stream_fits stream ≡ true → (length stream ≤ stream_room) × OpensWithFans stream
  fitting f =
      let opens = both (leb (length stream) stream_room && eqb (length stream % record_size) 0) (eqb (length stream) 0 || begins stream 0) f in
      let long = both (leb (length stream) stream_room) (eqb (length stream % record_size) 0) opens.0 in
      (leb-true (length stream) stream_room long.0, λ l. rw (ne_eqb (length stream) 0 (λ z. omega arith)) at opens.1)

  -- and the figures of all orders
  pub added : {s : Season} → stream_fits stream ≡ true → SeasonIn stream s → AddsUp stream (record { answer = done; season = as_season s })
  unfolding read_stream
  added f h = rw h.figures (AddsUp.adds_up (orders_from stream 0 (length stream / record_size)) (rw f) h.outcomes h.each)
