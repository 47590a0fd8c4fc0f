-- What the reader's steps come to, record by record. Only the contracts of private functions cite this page.
use Rattle.std.specs.Prelude.{Bool, true, List, [], ◌∷◌, ℕ, zero, suc, ◌+◌, eqb, leb, get_or, set, Option, Some, None, is_some, Result, Ok, Err}
use Rattle.model.specs.Limits.{most_doses}
use Rattle.model.specs.Records.{pick, read, refused, blank_at, fans_parts, dose_parts}
use Rattle.model.specs.Records as records
use Rattle.model.specs.Orders.{fans_entry, dose_entry, fans_of, dose_of, fans_fit, dose_fits, bay_open, checked, clash, rest_by}
use Rattle.model.specs.Orders as orders
use Rattle.records.specs.Held.{held_fans, held_dose}
use Rattle.order.specs.Held.{held_refusal, held_entry, dose_held, column, no_order}
use Rattle.records.specs.declared.order_records.Fans.{Fans}
use Rattle.records.specs.declared.order_records.Dose.{Dose}
use Rattle.order.specs.declared.Entry.{Entry}
use Rattle.order.specs.declared.Entry.TheVariants as is
use Rattle.order.specs.declared.Order.{Order}
use Rattle.order.specs.declared.Gathered.{Gathered}
use Rattle.order.specs.declared.refusal.Refusal.{Refusal}
use Rattle.order.specs.declared.refusal.Refusal.TheVariants.{NotBlank, OutOfRange, NotOneFans, TooManyDoses, Clash, TrialBay}

-- ---- a record of known kind

unfoldable pub fault_of : Bool → Bool → Bool → ℕ → Result (Unit {0}) Refusal
fault_of blank fits is_open k =
    pick blank (pick fits (pick is_open (Ok tt) (Err (TrialBay k))) (Err (OutOfRange k))) (Err (NotBlank k))

abbrev pub fans_entered : List ℕ → ℕ → Result Entry Refusal
fans_entered r k = held_entry (checked (blank_at fans_parts r 0) (fans_fit (fans_of r)) true (fans_entry (fans_of r)) k)

abbrev pub dose_entered : ℕ → List ℕ → ℕ → Result Entry Refusal
dose_entered last r k = held_entry (checked (blank_at dose_parts r 0) (dose_fits (dose_of r)) (bay_open last (dose_of r)) (dose_entry (dose_of r)) k)

-- ---- one record more

unfoldable pub no_records : Gathered
no_records = record { heads = 0; doses = 0; places = column 0 (λ (k : ℕ). k) most_doses []; order = no_order }

unfoldable pub with_fans : Gathered → Fans → Gathered
with_fans s f = record {
  heads = s.heads + 1;
  doses = s.doses;
  places = s.places;
  order = record {
    fans = f.fans;
    rest = rest_by f.rule;
    top_grams = f.top_grams;
    top_seconds = f.top_seconds;
    count = s.order.count;
    doses = s.order.doses;
  };
}

-- an order with one dose more, behind so many
abbrev pub dose_behind : Order → Dose → Order
dose_behind o d = record {
  fans = o.fans;
  rest = o.rest;
  top_grams = o.top_grams;
  top_seconds = o.top_seconds;
  count = o.count + 1;
  doses = set o.doses o.count d;
}

-- a dose and its record index k, where the order has room for it
unfoldable pub with_dose : Gathered → Dose → ℕ → Gathered
with_dose s d k = pick (leb most_doses s.order.count)
    (record { heads = s.heads; doses = s.doses + 1; places = s.places; order = s.order })
    (record { heads = s.heads; doses = s.doses + 1; places = set s.places s.order.count k; order = dose_behind s.order d })

-- s, gathered so far, and record k
unfoldable pub added : Gathered → ℕ → Entry → Gathered
added s k (is.Fans f) = with_fans s f
added s k (is.Dose d) = with_dose s d k

-- ---- all records

-- s, gathered so far, and the records from index k on
unfoldable pub adding : Gathered → ℕ → List orders.Entry → Gathered
adding s k [] = s
adding s k (fans_entry f ∷ es) = adding (with_fans s (held_fans f)) (suc k) es
adding s k (dose_entry d ∷ es) = adding (with_dose s (held_dose d) k) (suc k) es

unfoldable pub walked_from : records.Reading (List orders.Entry) → ℕ → Gathered → Result Gathered Refusal
walked_from (read es) k s = Ok (adding s k es)
walked_from (refused number place) k s = Err (held_refusal number place)

-- ---- the checks behind the last record

-- the first of n numbers from k on that the test takes
unfoldable pub first_of : (ℕ → Bool) → ℕ → ℕ → Option ℕ
first_of test k zero = None
first_of test k (suc n) = pick (test k) (Some k) (first_of test (suc k) n)

-- dose k clashes with dose j
abbrev pub doses_clash : ℕ → Order → ℕ → ℕ → Bool
doses_clash rest o k j = clash rest (dose_held o k) (dose_held o j)

-- the first dose before dose k that clashes with it
abbrev pub earlier_clash : ℕ → Order → ℕ → Option ℕ
earlier_clash rest o k = first_of (doses_clash rest o k) 0 k

-- dose k clashes with an earlier one
abbrev pub clashes_earlier : ℕ → Order → ℕ → Bool
clashes_earlier rest o k = is_some (earlier_clash rest o k)

-- the first dose that clashes with an earlier one
abbrev pub first_clash : ℕ → Order → Option ℕ
first_clash rest o = first_of (clashes_earlier rest o) 0 o.count

-- 8 with the place of a dose that clashes; or the order
abbrev pub clashed : Gathered → Option ℕ → Result Order Refusal
clashed s (Some k) = Err (Clash (get_or s.places k 0))
clashed s None = Ok s.order

unfoldable pub settled : Gathered → Result Order Refusal
settled s =
    pick (eqb s.heads 1)
    (pick (leb s.doses most_doses) (clashed s (first_clash s.order.rest s.order)) (Err TooManyDoses))
    (Err NotOneFans)
