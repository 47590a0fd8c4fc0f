-- The season's sheet (document 02, C-15), sentence by sentence, over the answers of adding up a stream. Assumes nothing.
pub mod Streams
pub mod FirstClasses
pub mod OneFans
pub mod Counted
pub mod Cases
use mathlib.Core.Bool.{Bool, true, false, ◌&&◌, ◌||◌}
use mathlib.Core.Logic.{◌↔◌, ◌≢◌, ◌⊎◌, inl, inr}
use mathlib.Core.List.{List, [], ◌∷◌, ◌++◌}
use mathlib.Core.Path.{◌≡◌, refl, ap, ap₂, ◌∙◌, subst, sym}
use Prim.Native.Nat.{ℕ, ◌+◌, ◌*◌, ◌/◌, ◌%◌, ◌≤◌, ◌<◌}
use native.Mathlib.Nat.{eq-zero-or-pos}
use native.Mathlib.Omega.{arith}
use borrow.Author.Tests.{eqb-false, leb-false}
use lib.Dec.{eqb, leb}
use lib.ListN.{length, get_or}
use Rattle.model.specs.Limits.{most_bay, order_numbers, stream_room}
use Rattle.model.specs.Sets.{Doses, on, sum}
use Rattle.model.specs.Lists.{All, Along, beside, ended, total}
use Rattle.model.specs.Records.{Reading, pick, read, record_size, refused}
use Rattle.model.specs.Orders.{Order}
use Rattle.model.specs.Classes.{Classes, class_p}
use Rattle.model.specs.Intervals.{fans_present, setting_of}
use Rattle.model.specs.Stands.{Stands}
use Rattle.model.specs.Answers.{Accepts, Answer, Judges, refusal}
use Rattle.model.specs.Season.{AddedUp, AddsUp, Comes, begins, orders_from, stream_fits, FirstRate, Outcome, Rate, Season, Takes, accepted_with, first_class, no_first_class, greater, grams_of, if_accepted, no_rate, not_added_up, read_stream, refused_by, season_of, seconds_of}
use Rattle.model.proofs.Answers.{first_next, no_doses, one_order, refused_not_accepted}
use Rattle.model.proofs.Lists.{Along-append, total_append}
use Rattle.model.proofs.Orders.{read_fits}
use Rattle.model.proofs.Readings.{no_refusal}
use Rattle.model.proofs.Season.{adds_up_one, classes_time, stands_takes, takes_all}
use Rattle.model.proofs.Written.{plan_stands}
use Rattle.demands.proofs.Demand1.EveryCall.{judges_some, order_decided}
use Rattle.demands.proofs.Existence.{classes_of_lem, shares_of}
use Rattle.demands.proofs.Season.Streams.{behind_each_other, fans_records, joined_reads, opens, order_for_each_fans, orders_are, orders_whole, short, whole_records}
use Rattle.demands.proofs.Season.FirstClasses.{Greatest, firsts_sound, greatest_is, greatest_joined, none_sound}
use Rattle.demands.proofs.Season.Counted.{counts_joined, each_counted_once, none_by_six}
use Rattle.demands.proofs.Season.OneFans.{orders_one}

-- an answer that is no refusal: the stream's orders, what each comes to, and their figures
pub record Added (stream : List ℕ) (x : AddedUp) : Type 0 where
  pub orders : List (List ℕ)
  pub reads : read_stream stream ≡ read orders
  pub outcomes : List Outcome
  pub each : Along Comes orders outcomes
  pub is : x.season ≡ season_of outcomes

-- ---- "Every order .. gets an answer", and "A refusal is one of the numbered ones"

-- adding up is refused by 16, at place 0
sixteen : (stream : List ℕ) (number place : ℕ) → read_stream stream ≡ refused number place → (number ≡ 16) × (place ≡ 0) × (stream_fits stream ≡ false)
unfolding read_stream
sixteen stream number place = go (stream_fits stream)
  where
    go : (b : Bool) → pick b (read (orders_from stream 0 (length stream / record_size))) (refused 16 0) ≡ refused number place
        → (number ≡ 16) × (place ≡ 0) × (b ≡ false)
    go true e = absurd (no_refusal number place _ (sym e))
    go false e = let n : 16 ≡ number = cc in let p : 0 ≡ place = cc in (sym n, sym p, refl)

pub added : {stream : List ℕ} {x : AddedUp} → AddsUp stream x → x.answer.number ≡ 0 → Added stream x
added {stream} (AddsUp.refuses number place e) z = absurd (omega (arith, (sixteen stream number place e).0))
added (AddsUp.adds_up orders e outcomes h) z = record { orders = orders; reads = e; outcomes = outcomes; each = h; is = refl }

-- 0 or 16
pub adding_numbers : {stream : List ℕ} {x : AddedUp} → AddsUp stream x → (x.answer.number ≡ 0) ⊎ (x.answer.number ≡ 16)
adding_numbers {stream} (AddsUp.refuses number place e) = inr (sixteen stream number place e).0
adding_numbers (AddsUp.adds_up orders e outcomes h) = inl refl

-- "16 the stream is longer, is not whole records, or is not empty and doesn't open with F"
abbrev pub StreamFault : List ℕ → Type 0
StreamFault stream = (stream_room < length stream) ⊎ ((length stream % record_size ≢ 0) ⊎ ((0 < length stream) × (begins stream 0 ≡ false)))

-- 16 comes exactly if it is so, with place 0
pub adding_exactly : {stream : List ℕ} {x : AddedUp} → AddsUp stream x → (x.answer ≡ refusal 16 0) ↔ StreamFault stream
adding_exactly {stream} h = (to h, from h)
  where
    faulty : (a : Bool) → leb (length stream) stream_room ≡ a → (b : Bool) → eqb (length stream % record_size) 0 ≡ b → (c : Bool) → eqb (length stream) 0 ≡ c
        → (d : Bool) → begins stream 0 ≡ d → (a && b && (c || d)) ≡ false → StreamFault stream
    faulty false long b _ c _ d _ e = inl (leb-false (length stream) stream_room long)
    faulty true _ false ragged c _ d _ e = inr (inl (eqb-false (length stream % record_size) 0 ragged))
    faulty true _ true _ true _ d _ e = absurd (let z : ◌≡◌ {A = ℕ} 1 0 = ap (λ (b : Bool). on b 1) e in omega arith)
    faulty true _ true _ false some true _ e = absurd (let z : ◌≡◌ {A = ℕ} 1 0 = ap (λ (b : Bool). on b 1) e in omega arith)
    faulty true _ true _ false some false other e = let n = eqb-false (length stream) 0 some in inr (inr (omega arith, other))

    to : {x : AddedUp} → AddsUp stream x → x.answer ≡ refusal 16 0 → StreamFault stream
    to (AddsUp.refuses number place e) q =
        faulty (leb (length stream) stream_room) refl (eqb (length stream % record_size) 0) refl (eqb (length stream) 0) refl (begins stream 0) refl (sixteen stream number place e).2
    to (AddsUp.adds_up orders e outcomes h) q = absurd (omega (arith, ap (λ (a : Answer). a.number) q))

    from : {x : AddedUp} → AddsUp stream x → StreamFault stream → x.answer ≡ refusal 16 0
    from (AddsUp.refuses number place e) f = let is = sixteen stream number place e in ap₂ refusal is.0 is.1
    from (AddsUp.adds_up orders e outcomes h) (inl l) = absurd (omega (arith, short stream orders e))
    from (AddsUp.adds_up orders e outcomes h) (inr (inl n)) = absurd (n (whole_records stream orders e))
    from (AddsUp.adds_up orders e outcomes h) (inr (inr p)) =
        absurd (let z : ◌≡◌ {A = ℕ} 1 0 = ap (λ (b : Bool). on b 1) (sym (opens stream orders e p.0) ∙ p.1) in omega arith)

-- "Fields not meant are 0": a refusal has its number alone
pub adding_fields : {stream : List ℕ} {x : AddedUp} → AddsUp stream x → x.answer.number ≢ 0 → x ≡ not_added_up (refusal 16 0)
adding_fields {stream} (AddsUp.refuses number place e) n = let is = sixteen stream number place e in ap₂ (λ (n p : ℕ). not_added_up (refusal n p)) is.0 is.1
adding_fields (AddsUp.adds_up orders e outcomes h) n = absurd (n refl)

-- every order comes to something, so that every stream gets an answer
comes_some : (order : List ℕ) → (x : Outcome) × Comes order x
comes_some order = elim (order_decided most_bay order) [
  | inl a ↦
      let o = a.0 in
      let fit = read_fits most_bay order o a.1.reads in
      let c = classes_of_lem o fit in
      let v = shares_of o c.0 c.1 c.2 in
      let stands = plan_stands o fit c.0 c.1 c.2 v.0 v.1 in
      let first = first_some o c.0 c.1 c.2 in
      (_, Comes.accepts o a.1 _ stands _ (stands_takes o fit _ stands c.0 c.1 c.2) first.0 first.1)
  | inr r ↦ (_, Comes.refuses r.0 r.1)
]
  where
    first_some : (o : Order) (p : ℕ) (C : ℕ → Doses) → Classes (setting_of o) (fans_present o) p C → (r : Rate) × FirstRate o r
    first_some o p C c = elim (eq-zero-or-pos p) [
      | inl z ↦ (no_rate, no_first_class (no_doses o p C c z))
      | inr l ↦ (_, first_class (C 0) (first_next o p C c l))
    ]

each_some : (orders : List (List ℕ)) → (outcomes : List Outcome) × Along Comes orders outcomes
each_some [] = ([], ended)
each_some (order ∷ orders) = let x = comes_some order in let xs = each_some orders in (x.0 ∷ xs.0, beside x.1 xs.1)

pub adding_answers : (stream : List ℕ) → (x : AddedUp) × AddsUp stream x
adding_answers stream = go (read_stream stream) refl
  where
    go : (r : Reading (List (List ℕ))) → read_stream stream ≡ r → (x : AddedUp) × AddsUp stream x
    go (read orders) e = let xs = each_some orders in (_, AddsUp.adds_up orders e xs.0 xs.1)
    go (refused number place) e = (_, AddsUp.refuses number place e)

-- one answer to a stream
pub one_adding_up : {stream : List ℕ} {x y : AddedUp} → AddsUp stream x → AddsUp stream y → x ≡ y
one_adding_up = adds_up_one

-- ---- the sentences of the request, for every stream that is not refused

-- orders accepted and orders refused by number are together the stream's F records
pub accepted_and_refused_add_up : {stream : List ℕ} {x : AddedUp} → AddsUp stream x → x.answer.number ≡ 0
    → x.season.accepted + total (λ (c : ℕ). c) x.season.refused ≡ fans_records stream
unfolding season_of
accepted_and_refused_add_up {stream} h z =
    let a = added h z in
    ap (λ (s : Season). s.accepted + total (λ (c : ℕ). c) s.refused) a.is ∙ each_counted_once a.each ∙ order_for_each_fans stream a.orders a.reads

-- "the records from that one on, up to the next F": one behind the other the orders are the stream, so that no record is lost or read twice
pub orders_are_the_stream : {stream : List ℕ} {x : AddedUp} (a : Added stream x) → behind_each_other a.orders ≡ stream
orders_are_the_stream {stream} a = orders_whole stream a.orders a.reads

-- each of them has one F record, so that none is refused by 6
pub never_refused_by_six : {stream : List ℕ} {x : AddedUp} → AddsUp stream x → x.answer.number ≡ 0 → get_or x.season.refused 6 0 ≡ 0
unfolding season_of
never_refused_by_six {stream} h z =
    let a = added h z in
    let whole : length stream ≡ record_size * (0 + length stream / record_size) = omega (arith, whole_records stream a.orders a.reads) in
    let one = subst (All (λ order. fans_records order ≡ 1)) (orders_are stream a.orders a.reads) (orders_one stream 0 (length stream / record_size) whole) in
    ap (λ (s : Season). get_or s.refused 6 0) a.is ∙ none_by_six one a.each

-- the greatest first class: none is above it; it is "0 and 1 if there is none", or that of an order, above those of all before it
pub greatest_first_class : {stream : List ℕ} {x : AddedUp} (a : Added stream x) → Greatest no_rate a.outcomes x.season.greatest
unfolding season_of
greatest_first_class a =
    let is = ap (λ (s : Season). s.greatest) a.is in
    rw is (greatest_is no_rate a.outcomes none_sound (firsts_sound a.each))

-- ---- each order is read exactly as judging reads it alone

-- refused by its number, whatever the plan; or refused by none but 10
abbrev pub AsJudged : List ℕ → Outcome → Type 0
AsJudged order (refused_by number) = (plan : List ℕ) → (a : Answer) × Judges order plan a × (a.number ≡ number)
AsJudged order (accepted_with grams seconds first) = (plan : List ℕ) → (a : Answer) × Judges order plan a × ((a.number ≡ 0) ⊎ (a.number ≡ 10))

pub read_as_judging : {order : List ℕ} {y : Outcome} → Comes order y → AsJudged order y
read_as_judging (Comes.refuses a r) = λ plan. (a, Judges.refuses a r, refl)
read_as_judging {order} (Comes.accepts o g plan' st v t f q) = λ plan. let j = judges_some order plan in (j.0, j.1, go plan j.1)
  where
    go : (plan : List ℕ) {a : Answer} → Judges order plan a → (a.number ≡ 0) ⊎ (a.number ≡ 10)
    go plan (Judges.refuses b r) = absurd (refused_not_accepted r g)
    go plan (Judges.falls o' g' n) = inr refl
    go plan (Judges.stands o' g' s) = inl refl

-- ---- "grams accepted", "fan_seconds (from the slots, shown equal to the sum of P over classes)", the first class

-- what an accepted order adds: its doses' grams; the time of the slots of every plan that stands, which is the P of its classes; its first class
pub record Adds (o : Order) (grams seconds : ℕ) (first : Rate) : Type 0 where
  pub all_grams : grams ≡ total (λ d. d.grams) o.doses
  pub every_plan : (plan : List ℕ) → Stands o plan → Takes plan seconds
  pub class_times : (p : ℕ) (C : ℕ → Doses) → Classes (setting_of o) (fans_present o) p C → seconds ≡ sum p (class_p (setting_of o) (fans_present o) C)
  pub first_class : FirstRate o first

pub accepted_adds : {order : List ℕ} {grams seconds : ℕ} {first : Rate} → Comes order (accepted_with grams seconds first) → (o : Order) → Accepts most_bay order o
    → Adds o grams seconds first
accepted_adds {order} (Comes.accepts o' g' plan' st' v t first f) o g =
    let same : o' ≡ o = one_order g' g in
    let fit = read_fits most_bay order o g.reads in
    let all = takes_all o fit plan' (subst (λ (o : Order). Stands o plan') same st') v t in
    record {
      all_grams = ap (λ (o : Order). total (λ d. d.grams) o.doses) same;
      every_plan = λ plan st.
          let time = all ∙ sym (classes_time o st.count st.sets st.classes) in
          rw time (stands_takes o fit plan st st.count st.sets st.classes);
      class_times = λ p C c. all ∙ sym (classes_time o p C c);
      first_class = subst (λ (o : Order). FirstRate o first) same f;
    }

-- ---- the orders of two streams: "a season of the orders of two streams (where both open with F) adds up"

-- the figures c are those of a and b together, the greatest first class that of a on a tie
pub record SeasonsAddUp (a b c : Season) : Type 0 where
  pub accepted : c.accepted ≡ a.accepted + b.accepted
  pub refused : (n : ℕ) → n < order_numbers → get_or c.refused n 0 ≡ get_or a.refused n 0 + get_or b.refused n 0
  pub grams : c.grams ≡ a.grams + b.grams
  pub seconds : c.seconds ≡ a.seconds + b.seconds
  pub greatest : c.greatest ≡ greater a.greatest b.greatest

pub seasons_add_up : {s t : List ℕ} {x y u : AddedUp} → AddsUp s x → x.answer.number ≡ 0 → AddsUp t y → y.answer.number ≡ 0 → length s + length t ≤ stream_room
    → AddsUp (s ++ t) u → (u.answer.number ≡ 0) × SeasonsAddUp x.season y.season u.season
unfolding season_of
seasons_add_up {s} {t} {x} {y} {u} hx zx hy zy room hu =
    let a = added hx zx in
    let b = added hy zy in
    let both = AddsUp.adds_up (a.orders ++ b.orders) (joined_reads s t a.orders b.orders a.reads b.reads room) (a.outcomes ++ b.outcomes) (Along-append a.each b.each) in
    let same = adds_up_one hu both in (
      ap (λ (u : AddedUp). u.answer.number) same,
      subst (λ (u : Season). SeasonsAddUp x.season y.season u) (sym (ap (λ (u : AddedUp). u.season) same))
          (subst (λ (w : Season). SeasonsAddUp w y.season (season_of (a.outcomes ++ b.outcomes))) (sym a.is)
          (subst (λ (w : Season). SeasonsAddUp (season_of a.outcomes) w (season_of (a.outcomes ++ b.outcomes))) (sym b.is) (outcomes_add_up a b))),
    )
  where
    outcomes_add_up : {s t : List ℕ} {x y : AddedUp} (a : Added s x) (b : Added t y) → SeasonsAddUp (season_of a.outcomes) (season_of b.outcomes) (season_of (a.outcomes ++ b.outcomes))
    outcomes_add_up a b = record {
      accepted = total_append if_accepted a.outcomes b.outcomes;
      refused = counts_joined a.outcomes b.outcomes;
      grams = total_append grams_of a.outcomes b.outcomes;
      seconds = total_append seconds_of a.outcomes b.outcomes;
      greatest = greatest_joined a.outcomes b.outcomes (firsts_sound a.each) (firsts_sound b.each);
    }
