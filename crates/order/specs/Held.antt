-- How the types of `order` hold what document 01 speaks of, and back.
use Rattle.std.specs.Prelude.{◌≡◌, List, [], ◌∷◌, ℕ, zero, suc, ◌≤◌, eqb, length, get_or, Result, Ok, Err, IfOk}
use Rattle.model.specs.Limits.{most_doses}
use Rattle.model.specs.Records.{pick, read, refused}
use Rattle.model.specs.Records as records
use Rattle.model.specs.Orders.{fans_entry, dose_entry, no_dose, read_order}
use Rattle.model.specs.Orders as orders
use Rattle.records.specs.declared.order_records.Dose.{Dose}
use Rattle.records.specs.Held.{as_dose, held_fans, held_dose}
use Rattle.order.specs.declared.Entry.{Entry}
use Rattle.order.specs.declared.Entry.TheVariants as is
use Rattle.order.specs.declared.Order.{Order}
use Rattle.order.specs.declared.refusal.Refusal.{Refusal}
use Rattle.order.specs.declared.refusal.Refusal.TheVariants.{Length, Kind, NotBlank, OutOfRange, NotOneFans, TooManyDoses, Clash, TrialBay}

-- ---- a refusal

-- its number in the documents
abbrev pub number_of : Refusal → ℕ
number_of Length = 2
number_of (Kind k) = 3
number_of (NotBlank k) = 4
number_of (OutOfRange k) = 5
number_of NotOneFans = 6
number_of TooManyDoses = 7
number_of (Clash k) = 8
number_of (TrialBay k) = 15

-- and its place; 0 where no record is named
abbrev pub place_of : Refusal → ℕ
place_of Length = 0
place_of (Kind k) = k
place_of (NotBlank k) = k
place_of (OutOfRange k) = k
place_of NotOneFans = 0
place_of TooManyDoses = 0
place_of (Clash k) = k
place_of (TrialBay k) = k

-- the refusal with a number and a place
abbrev pub held_refusal : ℕ → ℕ → Refusal
held_refusal number k =
    pick (eqb number 3) (Kind k)
    (pick (eqb number 4) (NotBlank k)
    (pick (eqb number 5) (OutOfRange k)
    (pick (eqb number 6) NotOneFans
    (pick (eqb number 7) TooManyDoses
    (pick (eqb number 8) (Clash k)
    (pick (eqb number 15) (TrialBay k) Length))))))

-- ---- one record

-- a record's fields or its refusal
unfoldable pub held_entry : records.Reading orders.Entry → Result Entry Refusal
held_entry (read (fans_entry f)) = Ok (is.Fans (held_fans f))
held_entry (read (dose_entry d)) = Ok (is.Dose (held_dose d))
held_entry (refused number place) = Err (held_refusal number place)

-- ---- an order

-- what stands behind the last dose
abbrev pub zeros : Dose
zeros = held_dose no_dose

-- dose k of the array
abbrev pub dose_held : Order → ℕ → orders.Dose
dose_held o k = as_dose (get_or o.doses k zeros)

-- f k, f (k + 1), .. : n of them
unfoldable pub run : {A : Type 0} → (ℕ → A) → ℕ → ℕ → List A
run f k zero = []
run f k (suc n) = f k ∷ run f (suc k) n

-- n doses from dose k on
unfoldable pub doses_from : Order → ℕ → ℕ → List orders.Dose
doses_from o k n = run (dose_held o) k n

-- "Dose number = count of D records before it": as many doses as the count says
abbrev pub doses_held : Order → List orders.Dose
doses_held o = doses_from o 0 o.count

-- the order that the struct holds
unfoldable pub as_order : Order → orders.Order
as_order o = record { fans = o.fans; rest = o.rest; top_grams = o.top_grams; top_seconds = o.top_seconds; doses = doses_held o }

-- an array of n places: what f gives of each member, then z
unfoldable pub column : {A B : Type 0} → B → (A → B) → ℕ → List A → List B
column z f zero l = []
column z f (suc n) [] = z ∷ column z f n []
column z f (suc n) (a ∷ l) = f a ∷ column z f n l

-- the struct that holds an order
unfoldable pub held_order : orders.Order → Order
held_order o = record {
  fans = o.fans;
  rest = o.rest;
  top_grams = o.top_grams;
  top_seconds = o.top_seconds;
  count = length o.doses;
  doses = column zeros held_dose most_doses o.doses;
}

-- zeros
abbrev pub no_order : Order
no_order = held_order (record { fans = 0; rest = 0; top_grams = 0; top_seconds = 0; doses = [] })

-- ---- the answer

-- the order or its refusal
unfoldable pub held_reading : records.Reading orders.Order → Result Order Refusal
held_reading (read o) = Ok (held_order o)
held_reading (refused number place) = Err (held_refusal number place)

-- what such an answer says
abbrev pub as_reading : Result Order Refusal → records.Reading orders.Order
as_reading (Ok o) = read (as_order o)
as_reading (Err x) = refused (number_of x) (place_of x)

-- r is the answer for the bytes, bays open up to `last`: it is settled whole, it says what documents 01 and 02 do, and the doses fit the array
pub record ReadFrom (last : ℕ) (bytes : List ℕ) (r : Result Order Refusal) : Type 0 where
  pub whole : r ≡ held_reading (read_order last bytes)
  pub says : as_reading r ≡ read_order last bytes
  pub few : IfOk r (λ o. o.count ≤ most_doses)
