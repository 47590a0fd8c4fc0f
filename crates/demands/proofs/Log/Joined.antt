-- Two logs of which one goes on from the other's last record, over their bytes: joined they are read, and their figures add up. Assumes nothing.
use mathlib.Core.Bool.{Bool, true, false, ◌&&◌}
use mathlib.Core.List.{List, [], ◌∷◌, ◌++◌, append_assoc}
use mathlib.Core.Logic.{inl, inr}
use mathlib.Core.Path.{◌≡◌, refl, sym, ap, ap₂, ◌∙◌}
use Prim.Native.Nat.{ℕ, suc, ◌+◌, ◌-◌, ◌*◌, ◌≤◌, ◌<◌}
use native.Mathlib.Omega.{arith}
use lib.Dec.{eqb}
use lib.ListN.{get_or-append, drop, get_or, length, length-append, length-drop, take}
use lib.Seq.{drop-append-add, drop-append-le, drop-drop, get_or-append-add, get_or-append_seam, take-append-le}
use Rattle.model.specs.Limits.{log_room}
use Rattle.model.specs.Records.{Reading, blank_at, meter_kind, meter_parts, pick, read, record_at, record_size, refused}
use Rattle.model.specs.Log.{Logged, figures, logged_in, logged_of, meter_fits, meter_of, read_log}
use Rattle.model.proofs.Figures.{AddUp}
use Rattle.model.proofs.Fractions.{compare≤}
use Rattle.model.proofs.Readings.{no_refusal}
use Rattle.demands.proofs.Log.Stretches.{Rises, RisesBehind, behind, from, last}
use Rattle.demands.proofs.Log.Metered.{logs_add_up}
use Rattle.demands.proofs.Log.Given.{LogRecords, ReadAs, log_read_exactly, no_logged}

-- ---- records of joined bytes

module _ (front back : List ℕ) (n : ℕ) (whole : length front ≡ record_size * n) where
  -- those of the first
  pub record_front : (k : ℕ) → k < n → record_at (front ++ back) k ≡ record_at front k
  record_front k h =
      let room : record_size ≤ length (drop (record_size * k) front) = omega (arith, length-drop (record_size * k) front) in
      ap (take record_size) (drop-append-le (record_size * k) front back (omega arith)) ∙ take-append-le record_size (drop (record_size * k) front) back room

  -- and those of the second behind them
  pub record_back : (k : ℕ) → record_at (front ++ back) (n + k) ≡ record_at back k
  record_back k =
      let at : record_size * (n + k) ≡ length front + record_size * k = omega arith in
      ap (λ (i : ℕ). take record_size (drop i (front ++ back))) at ∙ ap (take record_size) (drop-append-add front back (record_size * k))

-- without the first record, each is the next one
record_behind : (bytes : List ℕ) (k : ℕ) → record_at (drop record_size bytes) k ≡ record_at bytes (suc k)
record_behind bytes k =
    let at : record_size + record_size * k ≡ record_size * suc k = omega arith in
    ap (take record_size) (drop-drop (record_size * k) record_size bytes ∙ ap (λ (i : ℕ). drop i bytes) at)

-- a record that is read says the same at any index
read_anywhere : (bay : ℕ) (r : List ℕ) (i k : ℕ) (m : Logged) → logged_of bay r i ≡ read m → logged_of bay r k ≡ read m
unfolding logged_of
read_anywhere bay r i k m = kept (eqb (get_or r 0 0) meter_kind && blank_at meter_parts r 0 && meter_fits bay (meter_of r)) (read (logged_in (meter_of r)))
  where
    kept : (b : Bool) (x : Reading Logged) → pick b x (refused 13 i) ≡ read m → pick b x (refused 13 k) ≡ read m
    kept true x e = e
    kept false x e = absurd (no_refusal 13 i m e)

-- ---- ticks

behind_joined : {t : ℕ} (front : List Logged) (m : Logged) (later : List Logged) → RisesBehind t (front ++ m ∷ []) → RisesBehind m.tick later
    → RisesBehind t (front ++ m ∷ later)
behind_joined [] m later (behind h last) r = behind h r
behind_joined (n ∷ front) m later (behind h q) r = behind h (behind_joined front m later q r)

rises_joined : (front : List Logged) (m : Logged) (later : List Logged) → Rises (front ++ m ∷ []) → Rises (m ∷ later) → Rises (front ++ m ∷ later)
rises_joined [] m later q r = r
rises_joined (n ∷ front) m later (from q) (from r) = from (behind_joined front m later q r)

-- ---- two logs

-- the second behind the first, without the record that both have
abbrev pub joined : List ℕ → List ℕ → List ℕ
joined log log' = log ++ drop record_size log'

module _ (bay : ℕ) (log log' : List ℕ) (front : List Logged) (m : Logged) (later : List Logged)
    (r : read_log bay log ≡ read (front ++ m ∷ [])) (r' : read_log bay log' ≡ read (m ∷ later)) where
  abbrev n : ℕ
  n = length (front ++ m ∷ [])

  is : ReadAs bay log (front ++ m ∷ [])
  is = (log_read_exactly bay log (front ++ m ∷ [])).0 r

  is' : ReadAs bay log' (m ∷ later)
  is' = (log_read_exactly bay log' (m ∷ later)).0 r'

  size : length log ≡ record_size * n
  size = omega (arith, is.are.count, is.are.sized.whole)

  size' : length log' ≡ record_size * suc (length later)
  size' = omega (arith, is'.are.count, is'.are.sized.whole)

  size_joined : length (joined log log') ≡ record_size * (n + length later)
  size_joined = omega (arith, length-append log (drop record_size log'), length-drop record_size log', size, size')

  together : front ++ m ∷ later ≡ (front ++ m ∷ []) ++ later
  together = sym (append_assoc front (m ∷ []) later)

  each : (k : ℕ) → k < n + length later → logged_of bay (record_at (joined log log') k) k ≡ read (get_or ((front ++ m ∷ []) ++ later) k no_logged)
  each k l = elim (compare≤ n k) [ inl h ↦ behind_both (k - n) (omega arith) | inr h ↦ in_front h ]
    where
      in_front : k < n → logged_of bay (record_at (joined log log') k) k ≡ read (get_or ((front ++ m ∷ []) ++ later) k no_logged)
      in_front h =
          rw (record_front log (drop record_size log') n size k h, get_or-append (front ++ m ∷ []) later no_logged k h) (is.are.each k h)

      behind_both : (j : ℕ) → k ≡ n + j → logged_of bay (record_at (joined log log') k) k ≡ read (get_or ((front ++ m ∷ []) ++ later) k no_logged)
      behind_both j e =
          rw (e, record_back log (drop record_size log') n size j, record_behind log' j, get_or-append-add (front ++ m ∷ []) later j no_logged)
          (read_anywhere bay (record_at log' (suc j)) (suc j) (n + j) (get_or later j no_logged) (is'.are.each (suc j) (omega arith)))

  -- they are read as one log
  joined_reads : length (joined log log') ≤ log_room → read_log bay (joined log log') ≡ read (front ++ m ∷ later)
  joined_reads short = (log_read_exactly bay (joined log log') (front ++ m ∷ later)).1 (record {
    are = rw together (record {
      sized = record { whole = omega (arith, size_joined); short = short };
      count = omega (arith, size_joined, length-append (front ++ m ∷ []) later);
      each = λ k l. each k (omega (arith, length-append (front ++ m ∷ []) later));
    });
    rising = rises_joined front m later is.rising is'.rising;
  })

-- ---- by their bytes

-- the first record of the second log is the last of the first
pub record Continues (log log' : List ℕ) : Type 0 where
  pub last : ℕ
  pub ends : length log ≡ record_size * suc last
  pub some : 0 < length log'
  pub same : record_at log last ≡ record_at log' 0

-- then it is read as the same, in both
record Shared (records records' : List Logged) : Type 0 where
  front : List Logged
  both : Logged
  later : List Logged
  first : records ≡ front ++ both ∷ []
  second : records' ≡ both ∷ later

split_last : (m : Logged) (later : List Logged) → (front : List Logged) × (l : Logged) × (m ∷ later ≡ front ++ l ∷ [])
split_last m [] = ([], m, refl)
split_last m (n ∷ later) = let s = split_last n later in (m ∷ s.0, s.1, ap (λ (l : List Logged). m ∷ l) s.2)

shared : (bay : ℕ) (log log' : List ℕ) → Continues log log' → (records records' : List Logged) → read_log bay log ≡ read records → read_log bay log' ≡ read records'
    → Shared records records'
shared bay log log' c records records' r r' =
    split records records' ((log_read_exactly bay log records).0 r).are ((log_read_exactly bay log' records').0 r').are
  where
    split : (records records' : List Logged) → LogRecords bay log records → LogRecords bay log' records' → Shared records records'
    split [] records' a a' = absurd (omega (arith, a.count, c.ends))
    split (n ∷ log) [] a a' = absurd (omega (arith, a'.count, a'.sized.whole, c.some))
    split (n ∷ later) (m ∷ later') a a' =
        let s = split_last n later in
        let count : length (n ∷ later) ≡ suc (length s.0) = ap length s.2 ∙ length-append s.0 (s.1 ∷ []) ∙ omega arith in
        let at : c.last ≡ length s.0 = omega (arith, a.count, c.ends, count) in
        let was : logged_of bay (record_at log c.last) c.last ≡ read s.1 =
        a.each c.last (omega arith) ∙ ap read (ap₂ (λ (l : List Logged) (i : ℕ). get_or l i no_logged) s.2 at ∙ get_or-append_seam s.0 s.1 [] no_logged) in
        let is : logged_of bay (record_at log c.last) c.last ≡ read m =
        rw c.same (read_anywhere bay (record_at log' 0) 0 c.last m (a'.each 0 (omega arith))) in
        let same : s.1 ≡ m = cc in
        record { front = s.0; both = m; later = later'; first = rw (← same) s.2; second = refl }

-- "at most 4,096": unless they are too long together, they are read as one log, and its figures are theirs added up, beside any line
pub joined_add_up : (line : ℕ → ℕ) (bay : ℕ) (log log' : List ℕ) → Continues log log' → length (joined log log') ≤ log_room → (records records' : List Logged)
    → read_log bay log ≡ read records → read_log bay log' ≡ read records'
    → (whole : List Logged) × (read_log bay (joined log log') ≡ read whole) × AddUp (figures line records) (figures line records') (figures line whole)
joined_add_up line bay log log' c short records records' r r' = go (shared bay log log' c records records' r r')
  where
    go : Shared records records'
        → (whole : List Logged) × (read_log bay (joined log log') ≡ read whole) × AddUp (figures line records) (figures line records') (figures line whole)
    go s = (
      s.front ++ s.both ∷ s.later,
      joined_reads bay log log' s.front s.both s.later (r ∙ ap read s.first) (r' ∙ ap read s.second) short,
      rw (s.first, s.second) (logs_add_up line s.front s.both s.later),
    )
