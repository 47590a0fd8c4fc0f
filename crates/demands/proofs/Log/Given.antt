-- Refusals 13 and 14 of a log as document 02, C-11 has them: a row for each, with its place, and what comes before it passed; and what a log that is read is.
use mathlib.Core.Bool.{Bool, true, false, not, ◌&&◌}
use mathlib.Core.Logic.{◌↔◌, ◌≢◌, ◌⊎◌, inl, inr}
use mathlib.Core.Path.{◌≡◌, refl, sym, ap, subst, ◌∙◌}
use mathlib.Core.List.{List, [], ◌∷◌}
use Prim.Native.Nat.{ℕ, zero, suc, ◌+◌, ◌/◌, ◌%◌, ◌≤◌, ◌<◌}
use native.Mathlib.Nat.{eq-or-lt_of_le, zero-add}
use native.Mathlib.Omega.{arith}
use borrow.Author.Tests.{eq-eqb, eqb-false, le-leb, lt-leb, ne_eqb}
use lib.Dec.{T, T_not, eqb, eqb_refl, eqb→eq, leb, leb→le, ltb, ltb→lt, nleb→lt, nltb→le}
use lib.ListN.{length, get_or}
use Rattle.model.specs.Limits.{log_room, week}
use Rattle.model.specs.Records.{Reading, and_then, blank_at, meter_kind, meter_parts, pick, read, read_all, record_at, record_size, refused}
use Rattle.model.specs.Log.{Logged, figures, flow_fits, flow_in, logged_of, meter_fits, meter_of, missing, read_log, rises, rises_from, value_fits}
use Rattle.model.specs.Answers.{Laid, done, laid_by, not_laid, refusal}
use Rattle.model.proofs.Fractions.{compare≤}
use Rattle.model.proofs.Readings.{First, Listed, Says, refusal_says, says_pick, says_then, walk_read, walk_refused, walk_says}
use Rattle.model.proofs.Sets.{and_left, and_right}
use Rattle.demands.proofs.Log.Stretches.{Rises, RisesBehind, behind, empty, from, last}

-- ---- the rows of one record, r its bytes

-- 13 "a bad .. kind, form, field, or a bay other than the dose's"
pub data BadRecord (bay : ℕ) (r : List ℕ) : Type 0 where
  other_kind : get_or r 0 0 ≢ meter_kind → BadRecord bay r
  -- "rest zero"
  not_blank : T (not (blank_at meter_parts r 0)) → BadRecord bay r
  other_bay : (meter_of r).bay ≢ bay → BadRecord bay r
  -- "tick up to 604,800"
  late : week < (meter_of r).tick → BadRecord bay r
  -- "Forms are 0, 1, 2 in that order"
  other_form : 2 < (meter_of r).form → BadRecord bay r
  -- "a missing one has value 0"
  not_missing : (meter_of r).form ≡ 0 → (meter_of r).value ≢ 0 → BadRecord bay r
  -- "A flow is a multiple of 1/1024 from 0 to 1,000"
  no_flow : (meter_of r).form ≡ 2 → T (not (flow_fits (flow_in (meter_of r).value))) → BadRecord bay r

-- ---- the rows of a log

-- what stands for a record past the last
abbrev pub no_logged : Logged
no_logged = record { tick = 0; reading = missing }

-- a log's length is good
pub record LogSized (log : List ℕ) : Type 0 where
  pub whole : length log % record_size ≡ 0
  pub short : length log ≤ log_room

-- record i is there, and all before it are read
pub record LogReached (bay : ℕ) (log : List ℕ) (i : ℕ) : Type 0 where
  pub sized : LogSized log
  pub there : i < length log / record_size
  pub earlier : (k : ℕ) → k < i → (m : Logged) × (logged_of bay (record_at log k) k ≡ read m)

-- all records are read: record k says what is listed at k
pub record LogRecords (bay : ℕ) (log : List ℕ) (records : List Logged) : Type 0 where
  pub sized : LogSized log
  pub count : length records ≡ length log / record_size
  pub each : (k : ℕ) → k < length records → logged_of bay (record_at log k) k ≡ read (get_or records k no_logged)

-- "a tick not above the one before": that of record i
pub record NotAbove (records : List Logged) (i : ℕ) : Type 0 where
  pub before : ℕ
  pub next : i ≡ suc before
  pub there : i < length records
  pub low : (get_or records i no_logged).tick ≤ (get_or records before no_logged).tick

-- the table: number and place
pub data LogGiven (bay : ℕ) (log : List ℕ) : ℕ → ℕ → Type 0 where
  -- 13 "a bad length": "0 for a length"
  wrong_length : (length log % record_size ≢ 0) ⊎ (log_room < length log) → LogGiven bay log 13 0
  -- 13 "kind, form, field, or a bay other than the dose's": "the first such record's index"
  wrong_record : (i : ℕ) → LogReached bay log i → BadRecord bay (record_at log i) → LogGiven bay log 13 i
  -- "then 14 a tick not above the one before": "the first such record's index"
  not_above_lem : (records : List Logged) → LogRecords bay log records → (i : ℕ) → NotAbove records i → ((k : ℕ) → k < i → NotAbove records k → ⊥) → LogGiven bay log 14 i

-- ---- one record

some_fails : (a b c : Bool) → T (not (a && b && c)) → T (not a) ⊎ (T (not b) ⊎ T (not c))
some_fails true true c t = inr (inr t)
some_fails true false c t = inr (inl tt)
some_fails false b c t = inl tt

one_fails : (a b c : Bool) → T (not a) ⊎ (T (not b) ⊎ T (not c)) → (a && b && c) ≡ false
one_fails true true true (inl x') = elim x' [ ]
one_fails true true true (inr (inl x3)) = elim x3 [ ]
one_fails true true true (inr (inr t)) = absurd t
one_fails true true false s = refl
one_fails true false c s = refl
one_fails false b c s = refl

module _ (bay : ℕ) (r : List ℕ) where
  abbrev form : ℕ
  form = (meter_of r).form

  abbrev value : ℕ
  value = (meter_of r).value

  -- the value does not fit the form
  bad_value : T (not (value_fits form value)) → BadRecord bay r
  unfolding value_fits
  bad_value = at_form (eqb form 0) (eqb form 1) (eqb form 2) refl refl refl
    where
      at_form : (a b c : Bool) → eqb form 0 ≡ a → eqb form 1 ≡ b → eqb form 2 ≡ c
          → T (not (pick a (eqb value 0) (pick b true (c && flow_fits (flow_in value))))) → BadRecord bay r
      at_form true b c e f g t = not_missing (eqb→eq _ _ (rw e tt)) (λ z. T_not (eqb value 0) t (rw z tt))
      at_form false true c e f g t = absurd t
      at_form false false true e f g t = no_flow (eqb→eq _ _ (rw g tt)) t
      at_form false false false e f g t = other_form (omega (arith, eqb-false form 0 e, eqb-false form 1 f, eqb-false form 2 g))

  bad_fits : T (not (meter_fits bay (meter_of r))) → BadRecord bay r
  unfolding meter_fits
  bad_fits t = elim (some_fails (eqb (meter_of r).bay bay) (leb (meter_of r).tick week) (value_fits form value) t) [
    | inl u ↦ other_bay (λ e. T_not (eqb (meter_of r).bay bay) u (rw e (eqb_refl bay)))
    | inr v ↦ elim v [ inl u ↦ late (nleb→lt _ _ u) | inr u ↦ bad_value u ]
  ]

  -- a bad one does not pass
  value_fails : T (not (value_fits form value)) → meter_fits bay (meter_of r) ≡ false
  unfolding meter_fits
  value_fails t = one_fails (eqb (meter_of r).bay bay) (leb (meter_of r).tick week) (value_fits form value) (inr (inr t))

  fits_fails : meter_fits bay (meter_of r) ≡ false → (eqb (get_or r 0 0) meter_kind && blank_at meter_parts r 0 && meter_fits bay (meter_of r)) ≡ false
  fits_fails e = one_fails (eqb (get_or r 0 0) meter_kind) (blank_at meter_parts r 0) (meter_fits bay (meter_of r)) (inr (inr (rw e tt)))

  bad_fails : BadRecord bay r → (eqb (get_or r 0 0) meter_kind && blank_at meter_parts r 0 && meter_fits bay (meter_of r)) ≡ false
  unfolding meter_fits value_fits
  bad_fails (other_kind k) = rw (ne_eqb (get_or r 0 0) meter_kind k)
  bad_fails (not_blank b) = one_fails (eqb (get_or r 0 0) meter_kind) (blank_at meter_parts r 0) (meter_fits bay (meter_of r)) (inr (inl b))
  bad_fails (other_bay b) = fits_fails (rw (ne_eqb (meter_of r).bay bay b))
  bad_fails (late l) = fits_fails (one_fails (eqb (meter_of r).bay bay) (leb (meter_of r).tick week) (value_fits form value) (inr (inl (rw (lt-leb (meter_of r).tick week l) tt))))
  bad_fails (other_form f) =
      fits_fails (value_fails (rw (ne_eqb form 0 (λ z. omega arith), ne_eqb form 1 (λ z. omega arith), ne_eqb form 2 (λ z. omega arith)) tt))
  bad_fails (not_missing e n) = fits_fails (value_fails (rw (eq-eqb form 0 e, ne_eqb value 0 n) tt))
  bad_fails (no_flow e n) = fits_fails (value_fails (rw (ne_eqb form 0 (λ z. omega arith), ne_eqb form 1 (λ z. omega arith), eq-eqb form 2 e) n))

  module _ (i : ℕ) where
    -- the record is bad, and 13 has its index
    abbrev BadAt : ℕ → ℕ → Type 0
    BadAt number place = BadRecord bay r × (number ≡ 13) × (place ≡ i)

    logged_says : Says (logged_of bay r i) (λ m. Unit {0}) BadAt
    unfolding logged_of
    logged_says =
        says_pick _ BadAt (eqb (get_or r 0 0) meter_kind && blank_at meter_parts r 0 && meter_fits bay (meter_of r)) _ _ (λ t. tt) (λ t. (bad t, refl, refl))
      where
        bad : T (not (eqb (get_or r 0 0) meter_kind && blank_at meter_parts r 0 && meter_fits bay (meter_of r))) → BadRecord bay r
        bad t = elim (some_fails (eqb (get_or r 0 0) meter_kind) (blank_at meter_parts r 0) (meter_fits bay (meter_of r)) t) [
          | inl u ↦ other_kind (λ e. T_not (eqb (get_or r 0 0) meter_kind) u (rw e tt))
          | inr v ↦ elim v [ inl u ↦ not_blank u | inr u ↦ bad_fits u ]
        ]

    -- record i is refused exactly when it is bad: 13 with its index
    pub logged_exactly : (number place : ℕ) → (logged_of bay r i ≡ refused number place) ↔ BadAt number place
    unfolding logged_of
    logged_exactly number place = (
      refusal_says _ BadAt (logged_of bay r i) logged_says number place,
      λ row. rw (bad_fails row.0) (rw (row.1, row.2)),
    )

-- ---- 14

-- record k + 1 is not above record k
abbrev Low : List Logged → ℕ → Type 0
Low records k = (suc k < length records) × ((get_or records (suc k) no_logged).tick ≤ (get_or records k no_logged).tick)

-- one is the first that is so
abbrev FirstLow : List Logged → ℕ → ℕ → ℕ → Type 0
FirstLow records i number place = (k : ℕ) × (number ≡ 14) × (place ≡ i + k) × Low records k × ((h : ℕ) → h < k → Low records h → ⊥)

rising_says : (log : List Logged) (m : Logged) (i : ℕ) (later : List Logged)
    → Says (rises_from log m.tick i later) (λ x. (x ≡ log) × RisesBehind m.tick later) (FirstLow (m ∷ later) i)
unfolding rises_from
rising_says log m i [] = (refl, last)
rising_says log m i (n ∷ later) =
    says_pick _ (FirstLow (m ∷ n ∷ later) i) (ltb m.tick n.tick) _ _ (λ t. up (ltb→lt _ _ t) (rises_from log n.tick (suc i) later) (rising_says log n (suc i) later))
    (λ t. (0, refl, omega arith, (omega arith, nltb→le m.tick n.tick t), λ h l. absurd (omega arith)))
  where
    not_first : m.tick < n.tick → (k : ℕ) → ((h : ℕ) → h < k → Low (n ∷ later) h → ⊥) → (h : ℕ) → h < suc k → Low (m ∷ n ∷ later) h → ⊥
    not_first l k none zero q low = omega arith
    not_first l k none (suc h) q low = none h (omega arith) (omega arith, low.1)

    up : m.tick < n.tick → (x : Reading (List Logged)) → Says x (λ x. (x ≡ log) × RisesBehind n.tick later) (FirstLow (n ∷ later) (suc i))
        → Says x (λ x. (x ≡ log) × RisesBehind m.tick (n ∷ later)) (FirstLow (m ∷ n ∷ later) i)
    up l (read x) s = (s.0, behind l s.1)
    up l (refused number place) s = (suc s.0, s.1, omega (arith, s.2), (omega (arith, s.3.0), s.3.1), not_first l s.0 s.4)

-- where ticks rise, none is so
never_low : (m : Logged) (later : List Logged) → RisesBehind m.tick later → (k : ℕ) → Low (m ∷ later) k → ⊥
never_low m [] last k low = omega arith
never_low m (n ∷ later) (behind l r) zero low = omega arith
never_low m (n ∷ later) (behind l r) (suc k) low = never_low n later r k (omega arith, low.1)

module _ (records : List Logged) where
  -- record `place` is the first whose tick is not above the one before
  abbrev FirstNotAbove : ℕ → ℕ → Type 0
  FirstNotAbove number place = (number ≡ 14) × NotAbove records place × ((k : ℕ) → k < place → NotAbove records k → ⊥)

  low_not_above : (k : ℕ) → Low records k → NotAbove records (suc k)
  low_not_above k low = record { before = k; next = refl; there = low.0; low = low.1 }

  not_above_low : (i : ℕ) → NotAbove records i → (k : ℕ) × (i ≡ suc k) × Low records k
  not_above_low i n = (n.before, n.next, (omega (arith, n.there, n.next), rw n.next at n.low))

  first_not_above : (number place : ℕ) → FirstLow records 1 number place → FirstNotAbove number place
  first_not_above number place s =
      let at : place ≡ suc s.0 = omega (arith, s.2) in
      (s.1, rw at (low_not_above s.0 s.3), λ k l n. let b = not_above_low k n in s.4 b.0 (omega (arith, b.1)) b.2)

never_not_above : (records : List Logged) → Rises records → (i : ℕ) → NotAbove records i → ⊥
never_not_above [] empty i n = omega (arith, n.there)
never_not_above (m ∷ later) (from r) i n = let b = not_above_low (m ∷ later) i n in never_low m later r b.0 b.2

rises_says : (records : List Logged) → Says (rises records) (λ x. (x ≡ records) × Rises records) (FirstNotAbove records)
unfolding rises
rises_says [] = (refl, empty)
rises_says (m ∷ later) = go (rises_from (m ∷ later) m.tick 1 later) (rising_says (m ∷ later) m 1 later)
  where
    go : (x : Reading (List Logged)) → Says x (λ x. (x ≡ m ∷ later) × RisesBehind m.tick later) (FirstLow (m ∷ later) 1)
        → Says x (λ x. (x ≡ m ∷ later) × Rises (m ∷ later)) (FirstNotAbove (m ∷ later))
    go (read x) s = (s.0, from s.1)
    go (refused number place) s = first_not_above (m ∷ later) number place s

-- the first such record is refused
not_above_refuses : (records : List Logged) (i : ℕ) → NotAbove records i → ((k : ℕ) → k < i → NotAbove records k → ⊥) → rises records ≡ refused 14 i
not_above_refuses records i n none = go (rises records) (rises_says records)
  where
    go : (x : Reading (List Logged)) → Says x (λ x. (x ≡ records) × Rises records) (FirstNotAbove records) → x ≡ refused 14 i
    go (read x) s = absurd (never_not_above records s.1 i n)
    go (refused number place) s = elim (compare≤ place i) [
      | inl h ↦ elim (eq-or-lt_of_le h) [ inl e ↦ let q = s.0 in cc | inr q ↦ absurd (none place q s.1) ]
      | inr q ↦ absurd (s.2 i q n)
    ]

-- ---- all rows

module _ (bay : ℕ) (log : List ℕ) where
  abbrev log_sized_test : Bool
  log_sized_test = eqb (length log % record_size) 0 && leb (length log) log_room

  from_zero : (k : ℕ) → logged_of bay (record_at log k) k ≡ logged_of bay (record_at log (0 + k)) (0 + k)
  from_zero k = ap (λ (h : ℕ). logged_of bay (record_at log h) h) (sym (zero-add k))

  -- a log that is read: its records, which rise
  pub record ReadAs (records : List Logged) : Type 0 where
    pub are : LogRecords bay log records
    pub rising : Rises records

  log_says : Says (read_log bay log) ReadAs (LogGiven bay log)
  unfolding read_log
  log_says =
      says_pick ReadAs (LogGiven bay log) log_sized_test _ _
      (λ t. says_then ReadAs (LogGiven bay log) (LogRecords bay log) (read_all (logged_of bay) log) rises (walked (sized t)) (λ records g. settled records g (rises records) (rises_says records)))
      (λ t. wrong_length (unsized (eqb (length log % record_size) 0) refl t))
    where
      sized : T log_sized_test → LogSized log
      sized t = record {
        whole = eqb→eq _ _ (and_left (eqb (length log % record_size) 0) (leb (length log) log_room) t);
        short = leb→le _ _ (and_right (eqb (length log % record_size) 0) (leb (length log) log_room) t);
      }

      unsized : (b : Bool) → eqb (length log % record_size) 0 ≡ b → T (not (b && leb (length log) log_room)) → (length log % record_size ≢ 0) ⊎ (log_room < length log)
      unsized true e t = inr (nleb→lt _ _ t)
      unsized false e t = inl (eqb-false _ _ e)

      walked : LogSized log → Says (read_all (logged_of bay) log) (LogRecords bay log) (LogGiven bay log)
      walked z = go (read_all (logged_of bay) log) (walk_says (logged_of bay) log no_logged (length log / record_size) 0)
        where
          go : (x : Reading (List Logged)) → Says x (Listed (logged_of bay) log no_logged 0 (length log / record_size)) (First (logged_of bay) log no_logged 0 (length log / record_size))
              → Says x (LogRecords bay log) (LogGiven bay log)
          go (read records) s = record { sized = z; count = s.0; each = λ k l. from_zero k ∙ s.1 k (omega (arith, s.0)) }
          go (refused number place) s =
              let r = (logged_exactly bay (record_at log s.0) s.0 number place).0 (from_zero s.0 ∙ s.3) in
              rw (r.1, r.2) (wrong_record s.0 (record {
                sized = z;
                there = s.1;
                earlier = λ k l. let e = s.2 k l in (e.0, from_zero k ∙ e.1);
              }) r.0)

      settled : (records : List Logged) → LogRecords bay log records → (x : Reading (List Logged)) → Says x (λ x. (x ≡ records) × Rises records) (FirstNotAbove records)
          → Says x ReadAs (LogGiven bay log)
      settled records g (read x) s = rw s.0 (record { are = g; rising = s.1 })
      settled records g (refused number place) s = rw s.0 (not_above_lem records g place s.1 s.2)

  -- a log's length is good
  past_length : LogSized log → read_log bay log ≡ and_then (read_all (logged_of bay) log) rises
  unfolding read_log
  past_length z = rw (eq-eqb (length log % record_size) 0 z.whole, le-leb (length log) log_room z.short)

  -- and so are all its records
  past_records : (records : List Logged) → LogRecords bay log records → read_log bay log ≡ rises records
  past_records records g =
      past_length g.sized
      ∙ ap (λ (x : Reading (List Logged)). and_then x rises)
      (walk_read (logged_of bay) log no_logged (length log / record_size) 0 records (g.count, λ k l. sym (from_zero k) ∙ g.each k (omega (arith, g.count))))

  -- a row gives its number and place
  row_given : (number place : ℕ) → LogGiven bay log number place → read_log bay log ≡ refused number place
  unfolding read_log
  row_given number place (wrong_length w) = elim w [
    | inl h ↦ rw (ne_eqb (length log % record_size) 0 h)
    | inr h ↦ unsized (eqb (length log % record_size) 0) (lt-leb (length log) log_room h)
  ]
    where
      unsized : (b : Bool) → leb (length log) log_room ≡ false → pick (b && leb (length log) log_room) (and_then (read_all (logged_of bay) log) rises) (refused 13 0) ≡ refused 13 0
      unsized true e = rw e
      unsized false e = refl
  row_given number place (wrong_record i r bad) =
      past_length r.sized
      ∙ ap (λ (x : Reading (List Logged)). and_then x rises)
      (walk_refused (logged_of bay) log no_logged (length log / record_size) 0 13 i (
        i,
        r.there,
        λ k l. let e = r.earlier k l in (e.0, sym (from_zero k) ∙ e.1),
        sym (from_zero i) ∙ (logged_exactly bay (record_at log i) i 13 i).1 (bad, refl, refl),
      ))
  row_given number place (not_above_lem records g i n none) = past_records records g ∙ not_above_refuses records i n none

  -- 13 and 14 are given exactly when their rows say, with their places
  pub log_given_exactly : (number place : ℕ) → (read_log bay log ≡ refused number place) ↔ LogGiven bay log number place
  log_given_exactly number place = (refusal_says ReadAs (LogGiven bay log) (read_log bay log) log_says number place, row_given number place)

  -- a log is read exactly when all its records are, and their ticks rise
  pub log_read_exactly : (records : List Logged) → (read_log bay log ≡ read records) ↔ ReadAs records
  log_read_exactly records = (
    λ e. subst (λ (x : Reading (List Logged)). Says x ReadAs (LogGiven bay log)) e log_says,
    λ a. past_records records a.are ∙ risen (rises records) (rises_says records) a,
  )
    where
      risen : (x : Reading (List Logged)) → Says x (λ x. (x ≡ records) × Rises records) (FirstNotAbove records) → ReadAs records → x ≡ read records
      risen (read x) s a = ap read s.0
      risen (refused number place) s a = absurd (never_not_above records a.rising place s.1)

-- no other number is given
pub log_number : (bay : ℕ) (log : List ℕ) (number place : ℕ) → read_log bay log ≡ refused number place → (number ≡ 13) ⊎ (number ≡ 14)
log_number bay log number place e = row_number ((log_given_exactly bay log number place).0 e)
  where
    row_number : {number place : ℕ} → LogGiven bay log number place → (number ≡ 13) ⊎ (number ≡ 14)
    row_number (wrong_length w) = inl refl
    row_number (wrong_record i r bad) = inl refl
    row_number (not_above_lem records g i n none) = inr refl

-- what a log comes to, by its two cases: what holds of every refusal of it and of its records' figures
pub laid_either : (Claim : Laid → Type 0) (line : ℕ → ℕ) (x : Reading (List Logged))
    → ((number place : ℕ) → x ≡ refused number place → Claim (not_laid (refusal number place)))
    → ((records : List Logged) → x ≡ read records → Claim (record { answer = done; figures = figures line records })) → Claim (laid_by line x)
unfolding laid_by
laid_either Claim line (read records) bad good = good records refl
laid_either Claim line (refused number place) bad good = bad number place refl
