-- `slot_in` meets its contract: the fields of an S record, each read at its place.
use Rattle.model.specs.Records.{fields_at}
use Rattle.records.proofs.plan_records.slot_in.Goals as goal

pub returns : goal.returns
unfolding fields_at
returns c = λ i. record {
  fan = c.read.ensures.0 i;
  dose = c.read-2.ensures.0 i;
  start_tick = c.read-3.ensures.0 i;
  start_part = c.read-4.ensures.0 i;
  end_tick = c.read-5.ensures.0 i;
  end_part = c.read-6.ensures.0 i;
  weight = c.read-7.ensures.0 i;
  time = c.read-8.ensures.0 i;
  class = c.read-9.ensures.0 i;
}
