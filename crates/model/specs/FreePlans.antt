-- Any plan at all (document 01, the sentence on refusal 9): "under the window, fan and inlet rules with moments in any fraction 1/q of a
-- tick and each slot's rate any fraction up to the top".
use Rattle.std.specs.Prelude.{◌≡◌, ◌⊎◌, List, ℕ, ◌*◌, ◌-◌, ◌≤◌, ◌<◌, eqb}
use Rattle.model.specs.Sets.{on}
use Rattle.model.specs.Orders.{Order, dose_at}
use Rattle.model.specs.Lists.{total, All, Pairs}
use Rattle.model.specs.Intervals.{setting_of}

-- a fan feeds a dose from `start` up to `end`, in 1/q ticks, at `rate`/r grams a tick
pub record FreeSlot : Type 0 where
  pub fan : ℕ
  pub dose : ℕ
  pub start : ℕ
  pub end : ℕ
  pub rate : ℕ

-- two slots do not overlap
abbrev pub FreeNoOverlap : FreeSlot → FreeSlot → Type 0
FreeNoOverlap s u = (s.end ≤ u.start) ⊎ (u.end ≤ s.start)

-- an existing dose and fan, some time inside the dose's window, and a rate up to the top
pub record FreeNamed (o : Order) (q r : ℕ) (s : FreeSlot) : Type 0 where
  pub dose : s.dose < (setting_of o).doses
  pub fan_from : 1 ≤ s.fan
  pub fan_to : s.fan ≤ o.fans
  pub long : s.start < s.end
  pub opened : q * (dose_at o s.dose).release ≤ s.start
  pub closed : s.end ≤ q * (dose_at o s.dose).deadline
  pub slow : s.rate * o.top_seconds ≤ o.top_grams * r

-- slots that deliver every dose
pub record FreePlan (o : Order) : Type 0 where
  pub q : ℕ
  pub r : ℕ
  pub ticks : 0 < q
  pub whole : 0 < r
  pub slots : List FreeSlot
  pub named : All (FreeNamed o q r) slots
  -- the fan rule: a fan feeds one dose at a time
  pub fans_apart : Pairs (λ s u. s.fan ≡ u.fan → FreeNoOverlap s u) slots
  -- the inlet rule: one fan at a time feeds a dose
  pub doses_apart : Pairs (λ s u. s.dose ≡ u.dose → FreeNoOverlap s u) slots
  -- each dose gets its grams
  pub delivers : (d : ℕ) → d < (setting_of o).doses
      → total (λ s. on (eqb d s.dose) ((s.end - s.start) * s.rate)) slots ≡ q * r * (dose_at o d).grams
