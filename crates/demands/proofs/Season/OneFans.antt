-- An order of a stream has one F record, so that 6 can't come of it.
use mathlib.Core.Bool.{Bool, true, false}
use mathlib.Core.List.{List, [], ◌∷◌}
use mathlib.Core.Logic.{◌≢◌}
use mathlib.Core.Path.{◌≡◌, refl, ap, ◌∙◌, sym}
use Prim.Native.Nat.{ℕ, zero, suc, ◌+◌, ◌*◌, ◌/◌, ◌<◌, ◌≤◌}
use native.Mathlib.Omega.{arith}
use lib.Dec.{eqb}
use lib.ListN.{length, get_or, take, drop, take-append-drop, length-drop}
use lib.Seq.{drop-drop, length-take-le}
use Rattle.model.specs.Limits.{most_bay}
use Rattle.model.specs.Sets.{on, sum}
use Rattle.model.specs.Lists.{All, also, none, total}
use Rattle.model.specs.Records.{pick, read, refused, record_size, fans_kind, dose_kind, fans_parts, dose_parts, blank_at, record_at}
use Rattle.model.specs.Orders.{Entry, bay_open, checked, dose_entry, dose_fits, dose_of, entry_of, fans_entry, fans_fit, fans_in, fans_of}
use Rattle.model.specs.Answers.{Answer, Refuses, above, unread}
use Rattle.model.specs.Season.{begins, before_next, order_at, orders_from, records_at}
use Rattle.model.proofs.Given.{Entries, Given, bay, blank, given_exactly, kind, many_doses, not_one_fans, overlapping, range, wrong_length, wrong_record}
use Rattle.model.proofs.Rests.{no_entry}
use Rattle.model.proofs.Lists.{sum_first, total_at}
use Rattle.model.proofs.Readings.{no_refusal}
use Rattle.model.proofs.Streams.{next_most}
use Rattle.model.proofs.Sums.{sum_congr, sum_zero}
use Rattle.demands.proofs.Season.Streams.{begins_inside, fans_records}

-- ---- the F records among those that are read

-- 1 for an F
abbrev if_fans : Entry → ℕ
if_fans (fans_entry f) = 1
if_fans (dose_entry d) = 0

fans_total : (es : List Entry) → length (fans_in es) ≡ total if_fans es
unfolding fans_in total
fans_total [] = refl
fans_total (fans_entry f ∷ es) = omega (arith, fans_total es)
fans_total (dose_entry d ∷ es) = omega (arith, fans_total es)

-- a check that passes hands back what it was given
pub checked_is : (a b c : Bool) (x : Entry) (i : ℕ) (e : Entry) → checked a b c x i ≡ read e → x ≡ e
checked_is true true true x i e h = cc
checked_is true true false x i e h = absurd (no_refusal 15 i e h)
checked_is true false c x i e h = absurd (no_refusal 5 i e h)
checked_is false b c x i e h = absurd (no_refusal 4 i e h)

-- a record is read as an F exactly if its kind is F
entry_fans : (last : ℕ) (r : List ℕ) (i : ℕ) (e : Entry) → entry_of last r i ≡ read e → if_fans e ≡ on (eqb (get_or r 0 0) fans_kind) 1
unfolding entry_of
entry_fans last r i e = go (eqb (get_or r 0 0) fans_kind) (eqb (get_or r 0 0) dose_kind)
  where
    go : (f d : Bool)
        → pick f (checked (blank_at fans_parts r 0) (fans_fit (fans_of r)) true (fans_entry (fans_of r)) i)
        (pick d (checked (blank_at dose_parts r 0) (dose_fits (dose_of r)) (bay_open last (dose_of r)) (dose_entry (dose_of r)) i) (refused 3 i)) ≡ read e
        → if_fans e ≡ on f 1
    go true d h = ap if_fans (sym (checked_is (blank_at fans_parts r 0) (fans_fit (fans_of r)) true (fans_entry (fans_of r)) i e h))
    go false true h = ap if_fans (sym (checked_is (blank_at dose_parts r 0) (dose_fits (dose_of r)) (bay_open last (dose_of r)) (dose_entry (dose_of r)) i e h))
    go false false h = absurd (no_refusal 3 i e h)

-- so many F records are read as there are
fans_read : (last : ℕ) (order : List ℕ) (es : List Entry) → Entries last order es → length (fans_in es) ≡ fans_records order
unfolding fans_records
fans_read last order es g =
    fans_total es
    ∙ total_at if_fans es no_entry
    ∙ sum_congr (length es) (λ k l. entry_fans last (record_at order k) k (get_or es k no_entry) (g.each k l))
    ∙ ap (λ (n : ℕ). sum n (λ k. on (begins order k) 1)) g.count

-- ---- an order with one F record

-- 6 is not given
pub never_six : {order : List ℕ} {a : Answer} → fans_records order ≡ 1 → Refuses most_bay order a → a.number ≢ 6
never_six {order} one (unread number place e) = go ((given_exactly most_bay order number place).0 e)
  where
    go : {number place : ℕ} → Given most_bay order number place → number ≢ 6
    go (wrong_length w) six = omega arith
    go (wrong_record n i r (kind k)) six = omega arith
    go (wrong_record n i r (blank b)) six = omega arith
    go (wrong_record n i r (range f)) six = omega arith
    go (wrong_record n i r (bay c)) six = omega arith
    go (not_one_fans es g h) six = h (fans_read most_bay order es g ∙ one)
    go (many_doses es g f h) six = omega arith
    go (overlapping es g f few i o n) six = omega arith
never_six one (above o A e f t) = λ six. omega arith

-- ---- the orders of a stream

module _ (stream : List ℕ) where
  -- no record before the next F is one
  none_begins : (i n k : ℕ) → k < before_next stream i n → begins stream (i + k) ≡ false
  unfolding before_next
  none_begins i zero k l = absurd (omega arith)
  none_begins i (suc n) k l = go (begins stream i) refl k l (none_begins (suc i) n)
    where
      go : (b : Bool) → begins stream i ≡ b → (k : ℕ) → k < pick b 0 (suc (before_next stream (suc i) n))
          → ((k : ℕ) → k < before_next stream (suc i) n → begins stream (suc i + k) ≡ false) → begins stream (i + k) ≡ false
      go true e k l h = absurd (omega arith)
      go false e zero l h = let here : i + 0 ≡ i = omega arith in rw here e
      go false e (suc k) l h = let there : i + suc k ≡ suc i + k = omega arith in rw there (h k (omega arith))

  module _ (i c : ℕ) (there : record_size * (i + c) ≤ length stream) where
    -- so many bytes
    part_long : length (records_at stream i c) ≡ record_size * c
    part_long = length-take-le (record_size * c) (drop (record_size * i) stream) (omega (arith, length-drop (record_size * i) stream))

    -- a record of the part is one of the stream
    part_begins : (k : ℕ) → k < c → begins (records_at stream i c) k ≡ begins stream (i + k)
    part_begins k l =
        let from = drop (record_size * i) stream in
        let there : record_size * i + record_size * k ≡ record_size * (i + k) = omega arith in
        sym (begins_inside (records_at stream i c) (drop (record_size * c) from) c part_long k l)
        ∙ ap (λ (s : List ℕ). begins s k) (take-append-drop (record_size * c) from)
        ∙ ap (λ (s : List ℕ). eqb (get_or (take record_size s) 0 0) fans_kind) (drop-drop (record_size * k) (record_size * i) stream ∙ ap (λ (at : ℕ). drop at stream) there)

  -- the order that begins with record i has one F record
  order_one : (i n : ℕ) → length stream ≡ record_size * (i + suc n) → begins stream i ≡ true → fans_records (order_at stream i n) ≡ 1
  unfolding fans_records
  order_one i n long first =
      let behind = before_next stream (suc i) n in
      let inside : record_size * (i + suc behind) ≤ length stream = omega (arith, long, next_most stream (suc i) n) in
      let count : length (order_at stream i n) / record_size ≡ suc behind = omega (arith, part_long i (suc behind) inside) in
      let here : i + 0 ≡ i = omega arith in
      let opened : begins stream (i + 0) ≡ true = rw here first in
      let own = part_begins i (suc behind) inside 0 (omega arith) ∙ opened in
      let others = sum_congr behind {f = λ k. on (begins (order_at stream i n) (suc k)) 1} {g = λ k. 0} (λ k l.
      let there : i + suc k ≡ suc i + k = omega arith in
      let none : begins stream (i + suc k) ≡ false = rw there (none_begins (suc i) n k l) in
      rw (part_begins i (suc behind) inside (suc k) (omega arith), none)) in
      ap (λ (m : ℕ). sum m (λ k. on (begins (order_at stream i n) k) 1)) count
      ∙ sum_first behind (λ k. on (begins (order_at stream i n) k) 1)
      ∙ omega (arith, ap (λ (b : Bool). on b 1) own, others, sum_zero behind)

  -- and so has every order
  pub orders_one : (i n : ℕ) → length stream ≡ record_size * (i + n) → All (λ order. fans_records order ≡ 1) (orders_from stream i n)
  unfolding orders_from
  orders_one i zero long = none
  orders_one i (suc n) long = go (begins stream i) refl (orders_one (suc i) n (omega (arith, long)))
    where
      go : (b : Bool) → begins stream i ≡ b → All (λ order. fans_records order ≡ 1) (orders_from stream (suc i) n)
          → All (λ order. fans_records order ≡ 1) (pick b (order_at stream i n ∷ orders_from stream (suc i) n) (orders_from stream (suc i) n))
      go true e h = also (order_one i n long e) h
      go false e h = h
