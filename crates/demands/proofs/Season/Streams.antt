-- The orders of a stream: one for each F record, and together the whole stream; and of two streams, one behind the other.
use mathlib.Core.Bool.{Bool, true, false, ◌||◌}
use mathlib.Core.List.{List, [], ◌∷◌, ◌++◌}
use mathlib.Core.Logic.{inl, inr}
use mathlib.Core.Path.{◌≡◌, refl, ap, ap₂, ◌∙◌, sym}
use Prim.Native.Nat.{ℕ, zero, suc, ◌+◌, ◌*◌, ◌-◌, ◌/◌, ◌%◌, ◌<◌, ◌≤◌}
use native.Mathlib.Nat.{eq-zero-or-pos}
use native.Mathlib.Omega.{arith}
use borrow.Author.Tests.{eq-eqb, le-leb, ne_eqb}
use lib.Dec.{T, eqb, eqb→eq, leb, leb→le}
use lib.ListN.{length, get_or, drop, take-append-drop, length-append, length-drop}
use lib.Seq.{drop-append-add, drop-append-le, drop-drop, drop-length, take-append-le}
use Rattle.model.specs.Limits.{stream_room}
use Rattle.model.specs.Sets.{on, sum}
use Rattle.model.specs.Records.{Reading, fans_kind, pick, read, record_size}
use Rattle.model.specs.Season.{begins, before_next, orders_from, order_at, read_stream, records_at, stream_fits}
use Rattle.model.proofs.Lists.{sum_first}
use Rattle.model.proofs.Orders.{three}
use Rattle.model.proofs.Readings.{passed}
use Rattle.model.proofs.Sets.{or_elim, same_test}
use Rattle.model.proofs.Sums.{sum_congr}
use Rattle.model.proofs.Streams.{next_begins, next_here, next_most, order_first}

-- how many F records a stream has
unfoldable pub fans_records : List ℕ → ℕ
fans_records stream = sum (length stream / record_size) (λ i. on (begins stream i) 1)

-- orders one behind the other
unfoldable pub behind_each_other : List (List ℕ) → List ℕ
behind_each_other [] = []
behind_each_other (order ∷ orders) = order ++ behind_each_other orders

module _ (stream : List ℕ) where
  -- an order for each F
  orders_many : (i n : ℕ) → length (orders_from stream i n) ≡ sum n (λ k. on (begins stream (i + k)) 1)
  unfolding orders_from sum
  orders_many i zero = refl
  orders_many i (suc n) =
      let rest = orders_many (suc i) n in
      let shift = sum_congr n {f = λ k. on (begins stream (suc i + k)) 1} {g = λ k. on (begins stream (i + suc k)) 1}
      (λ k l. let e : suc i + k ≡ i + suc k = omega arith in rw e) in
      let first : i + 0 ≡ i = omega arith in
      let all : on (begins stream (i + 0)) 1 + length (orders_from stream (suc i) n) ≡ sum (suc n) (λ k. on (begins stream (i + k)) 1) =
      omega (arith, rest, shift, sum_first n (λ k. on (begins stream (i + k)) 1)) in
      go (begins stream i) (orders_from stream (suc i) n) ∙ rw first at all
    where
      go : (b : Bool) (l : List (List ℕ)) → length (pick b (order_at stream i n ∷ l) l) ≡ on b 1 + length l
      go true l = omega arith
      go false l = omega arith

  -- behind the last record stands nothing
  none_left : (i n : ℕ) → n ≡ 0 → length stream ≡ record_size * (i + n) → behind_each_other (orders_from stream i n) ≡ drop (record_size * i) stream
  unfolding orders_from behind_each_other
  none_left i n z e =
      let all : record_size * i ≡ length stream = omega (arith, e) in
      rw (z, all) (sym (drop-length stream))

  -- together they are the rest of the stream, from a record that begins one
  orders_rest : (fuel i n : ℕ) → n ≤ fuel → length stream ≡ record_size * (i + n) → (0 < n → begins stream i ≡ true)
      → behind_each_other (orders_from stream i n) ≡ drop (record_size * i) stream
  unfolding behind_each_other
  orders_rest zero i n few e h = none_left i n (omega arith) e
  orders_rest (suc fuel) i n few e h = elim (eq-zero-or-pos n) [
    | inl z ↦ none_left i n z e
    | inr l ↦
        let before = before_next stream (i + 1) (n - 1) in
        let most = next_most stream (i + 1) (n - 1) in
        let there : record_size * i + record_size * suc before ≡ record_size * (i + 1 + before) = omega arith in
        ap behind_each_other (order_first stream i n l (h l))
        ∙ ap (λ (l : List ℕ). records_at stream i (suc before) ++ l)
        (orders_rest fuel (i + 1 + before) (n - 1 - before) (omega (arith, most)) (omega (arith, e, most)) (λ q. next_begins stream (i + 1) (n - 1) (omega (arith, most)))
        ∙ ap (λ (at : ℕ). drop at stream) (sym there)
        ∙ sym (drop-drop (record_size * suc before) (record_size * i) stream))
        ∙ take-append-drop (record_size * suc before) (drop (record_size * i) stream)
  ]

-- ---- a stream that is read

module _ (stream : List ℕ) (orders : List (List ℕ)) (e : read_stream stream ≡ read orders) where
  -- none of 16's faults, and these are its orders
  reads : T (stream_fits stream) × (◌≡◌ {A = Reading (List (List ℕ))} (read (orders_from stream 0 (length stream / record_size))) (read orders))
  unfolding read_stream
  reads = passed (stream_fits stream) (read (orders_from stream 0 (length stream / record_size))) 16 0 orders e

  pub orders_are : orders_from stream 0 (length stream / record_size) ≡ orders
  orders_are = let f = reads.1 in cc

  fits : T (leb (length stream) stream_room) × T (eqb (length stream % record_size) 0) × T (eqb (length stream) 0 || begins stream 0)
  fits = three (leb (length stream) stream_room) (eqb (length stream % record_size) 0) (eqb (length stream) 0 || begins stream 0) reads.0

  pub short : length stream ≤ stream_room
  short = leb→le (length stream) stream_room fits.0

  pub whole_records : length stream % record_size ≡ 0
  whole_records = eqb→eq (length stream % record_size) 0 fits.1

  pub opens : 0 < length stream → begins stream 0 ≡ true
  opens l =
      or_elim (eqb (length stream) 0) (begins stream 0) fits.2
      (λ t. absurd (omega (arith, eqb→eq (length stream) 0 t))) (λ t. same_test (begins stream 0) true (λ u. tt) (λ u. t))

  -- an order for each F record
  pub order_for_each_fans : length orders ≡ fans_records stream
  unfolding fans_records
  order_for_each_fans =
      ap length (sym orders_are)
      ∙ orders_many stream 0 (length stream / record_size)
      ∙ sum_congr (length stream / record_size) (λ k l. let e : 0 + k ≡ k = omega arith in rw e)

  -- and no byte is lost or read twice
  pub orders_whole : behind_each_other orders ≡ stream
  orders_whole =
      ap behind_each_other (sym orders_are)
      ∙ orders_rest stream (length stream / record_size) 0 (length stream / record_size) (omega arith) (omega (arith, whole_records)) (λ l. opens (omega arith))

-- ---- two streams, one behind the other

module _ (s t : List ℕ) (n : ℕ) (long : length s ≡ record_size * n) where
  -- what stands behind s
  behind : (j : ℕ) → drop (record_size * (n + j)) (s ++ t) ≡ drop (record_size * j) t
  behind j =
      let e : record_size * (n + j) ≡ length s + record_size * j = omega (arith, long) in
      rw e (drop-append-add s t (record_size * j))

  -- and what stands in it
  inside : (i c : ℕ) → i + c ≤ n → records_at (s ++ t) i c ≡ records_at s i c
  inside i c l =
      rw (drop-append-le (record_size * i) s t (omega (arith, long)))
      (take-append-le (record_size * c) (drop (record_size * i) s) t (omega (arith, long, length-drop (record_size * i) s)))

  begins_behind : (j : ℕ) → begins (s ++ t) (n + j) ≡ begins t j
  begins_behind j = rw (behind j)

  pub begins_inside : (i : ℕ) → i < n → begins (s ++ t) i ≡ begins s i
  begins_inside i l = ap (λ (r : List ℕ). eqb (get_or r 0 0) fans_kind) (inside i 1 (omega arith))

  next_behind : (j m : ℕ) → before_next (s ++ t) (n + j) m ≡ before_next t j m
  unfolding before_next
  next_behind j zero = refl
  next_behind j (suc m) =
      let e : suc (n + j) ≡ n + suc j = omega arith in
      rw (begins_behind j, e, next_behind (suc j) m)

  orders_behind : (j m : ℕ) → orders_from (s ++ t) (n + j) m ≡ orders_from t j m
  unfolding orders_from
  orders_behind j zero = refl
  orders_behind j (suc m) =
      let e : suc (n + j) ≡ n + suc j = omega arith in
      rw (begins_behind j, e, next_behind (suc j) m, behind j, orders_behind (suc j) m)

  module _ (m : ℕ) (opened : 0 < m → begins t 0 ≡ true) where
    -- an order of s ends with s
    none_before : before_next t 0 m ≡ 0
    unfolding before_next
    none_before = elim (eq-zero-or-pos m) [ inl z ↦ rw z | inr l ↦ next_here t 0 m (opened l) ]

    next_joined : (i k : ℕ) → i + k ≡ n → before_next (s ++ t) i (k + m) ≡ before_next s i k
    unfolding before_next
    next_joined i zero e =
        let at : i ≡ n + 0 = omega arith in
        let all : 0 + m ≡ m = omega arith in
        rw (at, all) (next_behind 0 m ∙ none_before)
    next_joined i (suc k) e =
        let more : suc k + m ≡ suc (k + m) = omega arith in
        rw (more, begins_inside i (omega arith), next_joined (suc i) k (omega arith))

    orders_joined : (i k : ℕ) → i + k ≡ n → orders_from (s ++ t) i (k + m) ≡ orders_from s i k ++ orders_from t 0 m
    unfolding orders_from
    orders_joined i zero e =
        let at : i ≡ n + 0 = omega arith in
        let all : 0 + m ≡ m = omega arith in
        rw (at, all) (orders_behind 0 m)
    orders_joined i (suc k) e =
        let more : suc k + m ≡ suc (k + m) = omega arith in
        let mine = inside i (suc (before_next s (suc i) k)) (omega (arith, next_most s (suc i) k)) in
        rw (more, begins_inside i (omega arith), next_joined (suc i) k (omega arith), orders_joined (suc i) k (omega arith), mine) (go (begins s i))
      where
        go : (b : Bool) → pick b (order_at s i k ∷ (orders_from s (suc i) k ++ orders_from t 0 m)) (orders_from s (suc i) k ++ orders_from t 0 m)
            ≡ pick b (order_at s i k ∷ orders_from s (suc i) k) (orders_from s (suc i) k) ++ orders_from t 0 m
        go true = refl
        go false = refl

-- the orders of both
pub joined_reads : (s t : List ℕ) (l m : List (List ℕ)) → read_stream s ≡ read l → read_stream t ≡ read m → length s + length t ≤ stream_room
    → read_stream (s ++ t) ≡ read (l ++ m)
unfolding read_stream
joined_reads s t l m e f room =
    let records = length s / record_size in
    let more = length t / record_size in
    let all = length-append s t in
    let long : length s ≡ record_size * records = omega (arith, whole_records s l e) in
    let many : length (s ++ t) / record_size ≡ records + more = omega (arith, all, whole_records s l e, whole_records t m f) in
    let orders = orders_joined s t records long more (λ q. opens t m f (omega arith)) 0 records (omega arith)
    ∙ ap₂ (λ (x y : List (List ℕ)). x ++ y) (orders_are s l e) (orders_are t m f) in
    rw (
      le-leb (length (s ++ t)) stream_room (omega (arith, all)),
      eq-eqb (length (s ++ t) % record_size) 0 (omega (arith, all, whole_records s l e, whole_records t m f)),
      opened records long,
      many,
      orders,
    )
  where
    -- the first record is that of s, or of t where s has none
    opened : (records : ℕ) → length s ≡ record_size * records → (eqb (length (s ++ t)) 0 || begins (s ++ t) 0) ≡ true
    opened records long = elim (eq-zero-or-pos (length (s ++ t))) [
      | inl z ↦ rw (eq-eqb (length (s ++ t)) 0 z)
      | inr some ↦ rw (ne_eqb (length (s ++ t)) 0 (λ z. omega arith)) (elim (eq-zero-or-pos (length s)) [
        | inl z ↦
            let none : records ≡ 0 = omega arith in
            let at : 0 + 0 ≡ 0 = omega arith in
            rw (none, at) at (begins_behind s t records long 0) ∙ opens t m f (omega (arith, length-append s t))
        | inr l₀ ↦ begins_inside s t records long 0 (omega arith) ∙ opens s l e l₀
      ])
    ]
