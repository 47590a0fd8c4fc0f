-- Where the orders of a stream begin and end.
use mathlib.Core.Bool.{Bool, true, false}
use mathlib.Core.List.{List, ◌∷◌}
use mathlib.Core.Path.{◌≡◌, refl, ap}
use Prim.Native.Nat.{ℕ, zero, suc, ◌+◌, ◌-◌, ◌<◌, ◌≤◌}
use native.Mathlib.Omega.{arith}
use Rattle.model.specs.Records.{pick}
use Rattle.model.specs.Season.{begins, before_next, order_at, orders_from, records_at}

module _ (stream : List ℕ) where
  -- before an F stands nothing
  pub next_here : (i n : ℕ) → begins stream i ≡ true → before_next stream i n ≡ 0
  unfolding before_next
  next_here i zero t = refl
  next_here i (suc n) t = rw t

  -- before what is behind another record stands that record
  pub next_later : (i n : ℕ) → begins stream i ≡ false → 0 < n → i + before_next stream i n ≡ i + 1 + before_next stream (i + 1) (n - 1)
  unfolding before_next
  next_later i zero t l = absurd (omega arith)
  next_later i (suc n) t l =
      let less : suc n - 1 ≡ n = omega arith in
      let next : i + 1 ≡ suc i = omega arith in
      rw (t, less, next) (omega arith)

  -- no more stand there than there are
  pub next_most : (i n : ℕ) → before_next stream i n ≤ n
  unfolding before_next
  next_most i zero = omega arith
  next_most i (suc n) = go (begins stream i) (next_most (suc i) n)
    where
      go : (b : Bool) → before_next stream (suc i) n ≤ n → pick b 0 (suc (before_next stream (suc i) n)) ≤ suc n
      go true h = omega arith
      go false h = omega arith

  -- and behind them begins an order
  pub next_begins : (i n : ℕ) → before_next stream i n < n → begins stream (i + before_next stream i n) ≡ true
  unfolding before_next
  next_begins i zero l = absurd (omega arith)
  next_begins i (suc n) l = go (begins stream i) refl l (next_begins (suc i) n)
    where
      go : (b : Bool) → begins stream i ≡ b → pick b 0 (suc (before_next stream (suc i) n)) < suc n
          → (before_next stream (suc i) n < n → begins stream (suc i + before_next stream (suc i) n) ≡ true)
          → begins stream (i + pick b 0 (suc (before_next stream (suc i) n))) ≡ true
      go true t h later = let here : i + 0 ≡ i = omega arith in rw here t
      go false t h later =
          let there : i + suc (before_next stream (suc i) n) ≡ suc i + before_next stream (suc i) n = omega arith in
          rw there (later (omega arith))

  -- no order begins among them
  pub none_between : (i n : ℕ) → orders_from stream i n ≡ orders_from stream (i + before_next stream i n) (n - before_next stream i n)
  unfolding before_next orders_from
  none_between i zero = refl
  none_between i (suc n) = go (begins stream i) refl (none_between (suc i) n)
    where
      go : (b : Bool) → begins stream i ≡ b
          → orders_from stream (suc i) n ≡ orders_from stream (suc i + before_next stream (suc i) n) (n - before_next stream (suc i) n)
          → pick b (order_at stream i n ∷ orders_from stream (suc i) n) (orders_from stream (suc i) n)
          ≡ orders_from stream (i + pick b 0 (suc (before_next stream (suc i) n))) (suc n - pick b 0 (suc (before_next stream (suc i) n)))
      go true t later = let here : i + 0 ≡ i = omega arith in let all : suc n - 0 ≡ suc n = omega arith in rw (here, all, t)
      go false t later =
          let there : i + suc (before_next stream (suc i) n) ≡ suc i + before_next stream (suc i) n = omega arith in
          let less : suc n - suc (before_next stream (suc i) n) ≡ n - before_next stream (suc i) n = omega arith in
          rw (there, less) later

  -- the order that begins here, and those behind it
  pub order_first : (i n : ℕ) → 0 < n → begins stream i ≡ true
      → orders_from stream i n
      ≡ records_at stream i (suc (before_next stream (i + 1) (n - 1))) ∷ orders_from stream (i + 1 + before_next stream (i + 1) (n - 1)) (n - 1 - before_next stream (i + 1) (n - 1))
  unfolding orders_from
  order_first i zero l t = absurd (omega arith)
  order_first i (suc n) l t =
      let next : i + 1 ≡ suc i = omega arith in
      let less : suc n - 1 ≡ n = omega arith in
      rw (t, next, less) (ap (λ (l : List (List ℕ)). order_at stream i n ∷ l) (none_between (suc i) n))
