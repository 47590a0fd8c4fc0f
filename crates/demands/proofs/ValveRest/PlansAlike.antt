-- What is planned, judged and drawn for an order does not hang on its rest: the same plans stand and the same points are drawn. Assumes nothing.
use mathlib.Core.Path.{◌≡◌, refl}
use mathlib.Core.List.{List}
use Prim.Native.Nat.{ℕ}
use Rattle.model.specs.Sets.{Doses}
use Rattle.model.specs.Orders.{Order}
use Rattle.model.specs.Plans.{Slot}
use Rattle.model.specs.Stands.{InOrder, Named, Stands, by_fan, by_interval, by_start}
use Rattle.model.specs.Line.{point_at, state_at}
use Rattle.model.proofs.Lists.{All-imp, Pairs-imp}
use Rattle.demands.proofs.ValveRest.Rules.{resting}

module _ (rest : ℕ) (o : Order) where
  abbrev with_rest : Order
  with_rest = resting rest o

  named : (p : ℕ) (C : ℕ → Doses) (s : Slot) → Named o p C s → Named with_rest p C s
  named p C s n = record {
    dose = n.dose;
    class = n.class;
    number = n.number;
    known = n.known;
    member = n.member;
    weight = n.weight;
    time = n.time;
    fan_from = n.fan_from;
    fan_to = n.fan_to;
    start_part = n.start_part;
    end_part = n.end_part;
    long = n.long;
    window = n.window;
    interval = n.interval;
    in_order = n.in_order;
    in_interval = n.in_interval;
  }

  in_order : (s u : Slot) → InOrder o s u → InOrder with_rest s u
  in_order s u (by_interval i j l a b) = by_interval i j l a b
  in_order s u (by_fan j a b f) = by_fan j a b f
  in_order s u (by_start j a b e l) = by_start j a b e l

  pub stands_resting : (plan : List ℕ) → Stands o plan → Stands with_rest plan
  stands_resting plan h =
      let s = h.stand in
      record {
        count = h.count;
        sets = h.sets;
        classes = h.classes;
        slots = h.slots;
        records = h.records;
        stand = record {
          named = All-imp (named h.count h.sets) s.named;
          order = Pairs-imp in_order s.order;
          fans_apart = s.fans_apart;
          doses_apart = s.doses_apart;
          totals = s.totals;
        };
      }

  pub points_resting : (slots : List Slot) (d t : ℕ) → point_at with_rest slots d t ≡ point_at o slots d t
  unfolding state_at
  points_resting slots d t = refl
