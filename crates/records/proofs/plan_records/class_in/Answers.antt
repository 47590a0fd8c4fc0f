-- `class_in` meets its contract: the fields of a C record, each read at its place.
use Rattle.model.specs.Records.{fields_at}
use Rattle.records.proofs.plan_records.class_in.Goals as goal

pub returns : goal.returns
unfolding fields_at
returns c = λ i. record {
  number = c.read.ensures.0 i;
  doses = c.read-2.ensures.0 i;
  weight = c.read-3.ensures.0 i;
  time = c.read-4.ensures.0 i;
}
