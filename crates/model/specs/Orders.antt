-- Orders (document 01, "Records" and refusals 2 to 8; document 02, C-14: 15, and C-16: the rest): from any bytes to fans, rest, top rate and doses,
-- or the refusal with its place. Reading takes the last bay that is open: the caller says whether trial bays are.
use Rattle.std.specs.Prelude.{Bool, true, false, not, ◌&&◌, ◌||◌, List, [], ◌∷◌, ◌++◌, ℕ, suc, ◌+◌, ◌%◌, eqb, leb, length, get_or}
use Rattle.model.specs.Limits.{last_release, last_rule, most_bay, most_doses, most_fans, most_grams, most_top, order_room, valve_rest, week}
use Rattle.model.specs.Records.{pick, within, Reading, read, refused, and_then, record_size, fans_kind, dose_kind, fans_parts, dose_parts, blank_at, field_of, read_all}

-- the fields of an F record
pub record Fans : Type 0 where
  pub fans : ℕ
  pub rule : ℕ
  pub top_grams : ℕ
  pub top_seconds : ℕ

-- the fields of a D record
pub record Dose : Type 0 where
  pub bay : ℕ
  pub release : ℕ
  pub deadline : ℕ
  pub grams : ℕ

-- "An order is exactly one F, anywhere among up to 24 D. Dose number = count of D records before it." Its rest is in seconds, by the rule of its F
pub record Order : Type 0 where
  pub fans : ℕ
  pub rest : ℕ
  pub top_grams : ℕ
  pub top_seconds : ℕ
  pub doses : List Dose

-- what stands for a dose past the last
abbrev pub no_dose : Dose
no_dose = record { bay = 0; release = 0; deadline = 0; grams = 0 }

-- dose k of an order
abbrev pub dose_at : Order → ℕ → Dose
dose_at o k = get_or o.doses k no_dose

-- ---- one record

-- what a record of an order says
pub data Entry : Type 0 where
  fans_entry : Fans → Entry
  dose_entry : Dose → Entry

-- the fields of an F record, from its bytes; field 0 is the kind
abbrev pub fans_of : List ℕ → Fans
fans_of r = record { fans = field_of fans_parts r 1; rule = field_of fans_parts r 2; top_grams = field_of fans_parts r 3; top_seconds = field_of fans_parts r 4 }

-- the fields of a D record, from its bytes
abbrev pub dose_of : List ℕ → Dose
dose_of r = record { bay = field_of dose_parts r 1; release = field_of dose_parts r 2; deadline = field_of dose_parts r 3; grams = field_of dose_parts r 4 }

-- "number of fans, 1 to 8; top grams, top seconds, each 1 to 1,000,000"; "byte 2 above 1 is 5"
abbrev pub fans_fit : Fans → Bool
fans_fit f =
    within 1 most_fans f.fans && leb f.rule last_rule && within 1 most_top f.top_grams && within 1 most_top f.top_seconds

-- "bay, 1 to 999; release, 0 to 604,799; deadline, release+1 to 604,800; grams, 1 to 1,000,000"
abbrev pub dose_fits : Dose → Bool
dose_fits d =
    within 1 most_bay d.bay && leb d.release last_release && within (d.release + 1) week d.deadline && within 1 most_grams d.grams

-- the bay of a dose is open: it is not above the last one that is
abbrev pub bay_open : ℕ → Dose → Bool
bay_open last d = leb d.bay last

-- a record of known kind: 4 "a byte that must be zero isn't", then 5 "a field out of range", then 15 for a bay that is not open: "in 5's
-- place for that record after 5 itself, with the record's place"
abbrev pub checked : Bool → Bool → Bool → Entry → ℕ → Reading Entry
checked blank fits is_open e i = pick blank (pick fits (pick is_open (read e) (refused 15 i)) (refused 5 i)) (refused 4 i)

-- record i from its bytes: 3 "kind in an order neither F nor D", then 4, then 5, then 15, each with the record's index
unfoldable pub entry_of : ℕ → List ℕ → ℕ → Reading Entry
entry_of last r i =
    pick (eqb (get_or r 0 0) fans_kind) (checked (blank_at fans_parts r 0) (fans_fit (fans_of r)) true (fans_entry (fans_of r)) i)
    (pick (eqb (get_or r 0 0) dose_kind) (checked (blank_at dose_parts r 0) (dose_fits (dose_of r)) (bay_open last (dose_of r)) (dose_entry (dose_of r)) i) (refused 3 i))

-- ---- all records

-- the F records among them
unfoldable pub fans_in : List Entry → List Fans
fans_in [] = []
fans_in (fans_entry f ∷ es) = f ∷ fans_in es
fans_in (dose_entry d ∷ es) = fans_in es

-- the D records: "Dose number = count of D records before it."
unfoldable pub doses_in : List Entry → List Dose
doses_in [] = []
doses_in (fans_entry f ∷ es) = doses_in es
doses_in (dose_entry d ∷ es) = d ∷ doses_in es

-- a rest of so many seconds or more lies between the windows; with no rest they may touch
abbrev pub apart : ℕ → Dose → Dose → Bool
apart rest x y = leb (x.deadline + rest) y.release || leb (y.deadline + rest) x.release

-- two doses of one bay with less than the rest between their windows; where the rest is 0, "overlapping windows (touching is allowed)"
abbrev pub clash : ℕ → Dose → Dose → Bool
clash rest x y = eqb x.bay y.bay && not (apart rest x y)

-- a dose clashes with one of these
unfoldable pub clashes_any : ℕ → Dose → List Dose → Bool
clashes_any rest d [] = false
clashes_any rest d (e ∷ es) = clash rest d e || clashes_any rest d es

-- the doses of the records from index i on, behind the earlier ones; or 8 with "the record index of the first D that overlaps an earlier one"
unfoldable pub no_clash : ℕ → List Dose → ℕ → List Entry → Reading (List Dose)
no_clash rest earlier i [] = read earlier
no_clash rest earlier i (fans_entry f ∷ es) = no_clash rest earlier (suc i) es
no_clash rest earlier i (dose_entry d ∷ es) = pick (clashes_any rest d earlier) (refused 8 i) (no_clash rest (earlier ++ d ∷ []) (suc i) es)

-- the rest of a rule, in seconds: "0 lets windows of a bay touch, 1 asks that the later release be at least 300 after the earlier deadline"
abbrev pub rest_by : ℕ → ℕ
rest_by rule = pick (eqb rule 0) 0 valve_rest

-- the order with the fans of an F record
abbrev pub order_with : List Fans → List Dose → Order
order_with [] ds = record { fans = 0; rest = 0; top_grams = 0; top_seconds = 0; doses = ds }
order_with (f ∷ fs) ds = record { fans = f.fans; rest = rest_by f.rule; top_grams = f.top_grams; top_seconds = f.top_seconds; doses = ds }

-- what all records come to; the F may stand behind the doses
abbrev pub order_in : List Entry → Order
order_in es = order_with (fans_in es) (doses_in es)

-- 6 "F records not exactly one", 7 "more than 24 doses", 8 by the order's own rest
unfoldable pub order_of : List Entry → Reading Order
order_of es =
    pick (eqb (length (fans_in es)) 1)
    (pick (leb (length (doses_in es)) most_doses) (and_then (no_clash (order_in es).rest [] 0 es) (λ ds. read (order_with (fans_in es) ds))) (refused 7 0))
    (refused 6 0)

-- 2 "order length no multiple of 32, or over 1,600", "then record by record 3, 4, 5 in that order" and 15, "then 6, 7, 8"; bays are open up to
-- the last that is: in planning last_open_bay, in judging, drawing, laying a log and adding up a season most_bay, so that 15 comes in planning only
unfoldable pub read_order : ℕ → List ℕ → Reading Order
read_order last bytes = pick (eqb (length bytes % record_size) 0 && leb (length bytes) order_room) (and_then (read_all (entry_of last) bytes) order_of) (refused 2 0)
