-- From classes to slots (document 01): wrap-around, from shares to the list of slots.
use Rattle.std.specs.Prelude.{List, [], ◌∷◌, map, ℕ, ◌+◌, ◌*◌, ◌-◌, ◌/◌, ◌%◌, eqb, leb}
use Rattle.model.specs.Sets.{sum, Doses, weight}
use Rattle.model.specs.Records.{pick}
use Rattle.model.specs.Orders.{Order}
use Rattle.model.specs.Lists.{gather}
use Rattle.model.specs.Classes.{W, class_p, reserved}
use Rattle.model.specs.Intervals.{instant_at, setting_of, fans_present}
use Rattle.model.specs.Plans.{Class, Slot}

-- ---- one class in one interval: "shares above zero are laid end to end in dose order and the line is cut at each multiple of L × W"

-- a piece of a share: `dose` has the class's fan number `fan`, from 0, for the units from `low` up to `high` of that fan's stretch
pub record Piece : Type 0 where
  pub fan : ℕ
  pub dose : ℕ
  pub low : ℕ
  pub high : ℕ

-- the whole of a share on one stretch of C units, laid from unit a of the line on
abbrev pub uncut : ℕ → ℕ → ℕ → ℕ → Piece
uncut C k a x = record { fan = a / C; dose = k; low = a % C; high = a % C + x }

-- or what is before the cut, and what is behind it: "A cut share gives two slots."
abbrev pub before : ℕ → ℕ → ℕ → ℕ → Piece
before C k a x = record { fan = a / C; dose = k; low = a % C; high = C }

-- what is behind the cut: from 0 of the next fan
abbrev pub behind : ℕ → ℕ → ℕ → ℕ → Piece
behind C k a x = record { fan = a / C + 1; dose = k; low = 0; high = a % C + x - C }

-- the share x of dose k, from a up to a + x, cut where a multiple of C lies inside; "No slot has length zero"
unfoldable pub cut : ℕ → ℕ → ℕ → ℕ → List Piece
cut C k a x = pick (eqb x 0) [] (pick (leb (a % C + x) C) (uncut C k a x ∷ []) (before C k a x ∷ behind C k a x ∷ []))

-- the shares of the doses below n: dose k's starts at the sum of those before
unfoldable pub line : ℕ → (ℕ → ℕ) → ℕ → List Piece
line C x n = gather n (λ k. cut C k (sum k x) (x k))

-- a class in an interval: where and how long, its W and P, its number, and the fans below its own
pub record Lane : Type 0 where
  pub start : ℕ
  pub len : ℕ
  pub weight : ℕ
  pub time : ℕ
  pub class : ℕ
  pub below : ℕ

-- the slot of a piece: "A moment is a tick plus part/W, part below W."
unfoldable pub piece_slot : Lane → Piece → Slot
piece_slot l t = record {
  fan = l.below + t.fan + 1;
  dose = t.dose;
  start_tick = l.start + t.low / l.weight;
  start_part = t.low % l.weight;
  end_tick = l.start + t.high / l.weight;
  end_part = t.high % l.weight;
  weight = l.weight;
  time = l.time;
  class = l.class;
}

-- the slots of the doses below n with shares x
unfoldable pub lane_slots : Lane → (ℕ → ℕ) → ℕ → List Slot
lane_slots l x n = map (piece_slot l) (line (l.len * l.weight) x n)

-- ---- all classes, all intervals: "class 1 takes the lowest fans, class 2 the next, and so on"

-- n doses, p classes, J intervals; class i has the number i + 1, and W, P, reserved fans and shares
pub record Table : Type 0 where
  pub n : ℕ
  pub p : ℕ
  pub J : ℕ
  pub start : ℕ → ℕ
  pub len : ℕ → ℕ
  pub weight : ℕ → ℕ
  pub time : ℕ → ℕ
  pub fans : ℕ → ℕ → ℕ
  pub share : ℕ → ℕ → ℕ → ℕ

module _ (t : Table) where
  open t use {n, p, J, start, len, weight, time, fans, share}

  -- class i in interval j, above the fans of the classes before it
  abbrev pub lane : ℕ → ℕ → Lane
  lane i j = record { start = start j; len = len j; weight = weight i; time = time i; class = i + 1; below = sum i (λ h. fans h j) }

  -- the classes of interval j, one behind the other
  unfoldable pub interval_slots : ℕ → List Slot
  interval_slots j = gather p (λ i. lane_slots (lane i j) (λ k. share i k j) n)

  -- "slots by interval, fan, start"
  unfoldable pub table_slots : List Slot
  table_slots = gather J interval_slots

module _ (o : Order) (p : ℕ) (C : ℕ → Doses) where
  -- the table of an order's classes C and shares x, x i k j being class i's for dose k in interval j
  abbrev pub table_of : (ℕ → ℕ → ℕ → ℕ) → Table
  table_of x = record {
    n = (setting_of o).doses;
    p = p;
    J = (setting_of o).intervals;
    start = instant_at o;
    len = (setting_of o).len;
    weight = λ i. W (setting_of o) (C i);
    time = class_p (setting_of o) (fans_present o) C;
    fans = reserved (setting_of o) (fans_present o) C;
    share = x;
  }

  -- the slots of a plan
  abbrev pub slots_of : (ℕ → ℕ → ℕ → ℕ) → List Slot
  slots_of x = table_slots (table_of x)

  -- "the C records are exactly the order's classes": class i + 1, its doses, W and P
  abbrev pub class_at : ℕ → Class
  class_at i = record {
    number = i + 1;
    doses = weight (setting_of o).doses (λ k. 1) (C i);
    weight = W (setting_of o) (C i);
    time = class_p (setting_of o) (fans_present o) C i;
  }

  -- "classes by number"
  abbrev pub classes_of : List Class
  classes_of = gather p (λ i. class_at i ∷ [])
