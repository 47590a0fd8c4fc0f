-- A plan stands (document 01): what plan bytes must meet for an accepted order, clause by clause.
use Rattle.std.specs.Prelude.{◌≡◌, ◌⊎◌, List, ℕ, ◌+◌, ◌*◌, ◌-◌, ◌≤◌, ◌<◌, T, eqb}
use Rattle.model.specs.Sets.{on, Doses}
use Rattle.model.specs.Records.{read}
use Rattle.model.specs.Orders.{Order, dose_at}
use Rattle.model.specs.Lists.{total, All, Pairs}
use Rattle.model.specs.Classes.{W, class_p, Classes}
use Rattle.model.specs.Intervals.{instant_at, interval_count, setting_of, fans_present}
use Rattle.model.specs.Plans.{Slot, plan_records, plan_of}
use Rattle.model.specs.Layout.{classes_of}

-- the ends of a slot in units of 1/W tick: "A moment is a tick plus part/W"
abbrev pub starts : Slot → ℕ
starts s = s.start_tick * s.weight + s.start_part

-- and where it ends
abbrev pub ends : Slot → ℕ
ends s = s.end_tick * s.weight + s.end_part

-- the units of a slot that are dose d's
abbrev pub units_of : ℕ → Slot → ℕ
units_of d s = on (eqb d s.dose) (ends s - starts s)

-- s ends at or before the moment at which u starts: ends/W against starts/W, by exact products
pub record EndsBy (s u : Slot) : Type 0 where
  pub by : ends s * u.weight ≤ starts u * s.weight

-- two slots do not overlap
abbrev pub NoOverlap : Slot → Slot → Type 0
NoOverlap s u = EndsBy s u ⊎ EndsBy u s

-- a slot lies between two ticks
pub record Between (from to : ℕ) (s : Slot) : Type 0 where
  pub low : from * s.weight ≤ starts s
  pub high : ends s ≤ to * s.weight

module _ (o : Order) where
  -- a slot lies within interval j
  abbrev pub InInterval : ℕ → Slot → Type 0
  InInterval j s = Between (instant_at o j) (instant_at o (j + 1)) s

  -- "slots by interval, fan, start": s comes before u
  pub data InOrder (s u : Slot) : Type 0 where
    by_interval : (i j : ℕ) → i < j → InInterval i s → InInterval j u → InOrder s u
    by_fan : (j : ℕ) → InInterval j s → InInterval j u → s.fan < u.fan → InOrder s u
    by_start : (j : ℕ) → InInterval j s → InInterval j u → s.fan ≡ u.fan → starts s * u.weight < starts u * s.weight → InOrder s u

  module _ (p : ℕ) (C : ℕ → Doses) where
    -- "each slot names a dose of its class, that class's W and P, an existing fan, has both parts below W and start before end,
    -- and lies within the dose's window and one interval"; class number i + 1 is class i
    pub record Named (s : Slot) : Type 0 where
      pub dose : s.dose < (setting_of o).doses
      pub class : ℕ
      pub number : s.class ≡ class + 1
      pub known : class < p
      pub member : T (C class s.dose)
      pub weight : s.weight ≡ W (setting_of o) (C class)
      pub time : s.time ≡ class_p (setting_of o) (fans_present o) C class
      pub fan_from : 1 ≤ s.fan
      pub fan_to : s.fan ≤ o.fans
      pub start_part : s.start_part < s.weight
      pub end_part : s.end_part < s.weight
      pub long : starts s < ends s
      pub window : Between (dose_at o s.dose).release (dose_at o s.dose).deadline s
      pub interval : ℕ
      pub in_order : interval < interval_count o
      pub in_interval : InInterval interval s

    -- slots that meet all but the records' own clauses
    pub record SlotsStand (slots : List Slot) : Type 0 where
      pub named : All Named slots
      pub order : Pairs InOrder slots
      -- "no two slots of one fan overlap; no two slots of one dose overlap"
      pub fans_apart : Pairs (λ s u. s.fan ≡ u.fan → NoOverlap s u) slots
      pub doses_apart : Pairs (λ s u. s.dose ≡ u.dose → NoOverlap s u) slots
      -- "each dose's slots total w × P units"
      pub totals : (i d : ℕ) → i < p → d < (setting_of o).doses → T (C i d)
          → total (units_of d) slots ≡ (dose_at o d).grams * class_p (setting_of o) (fans_present o) C i

-- "Plan bytes stand for an accepted order if: they consist of records in the order above with the layouts above; the C records are
-- exactly the order's classes", and the slots meet the rest
pub record Stands (o : Order) (plan : List ℕ) : Type 0 where
  pub count : ℕ
  pub sets : ℕ → Doses
  pub classes : Classes (setting_of o) (fans_present o) count sets
  pub slots : List Slot
  pub records : plan_records plan ≡ read (plan_of (classes_of o count sets) slots)
  pub stand : SlotsStand o count sets slots
