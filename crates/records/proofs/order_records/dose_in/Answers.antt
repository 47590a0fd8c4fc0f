-- `dose_in` meets its contract: the fields of a D record, each read at its place.
use Rattle.model.specs.Records.{fields_at}
use Rattle.records.proofs.order_records.dose_in.Goals as goal

pub returns : goal.returns
unfolding fields_at
returns c = λ i. record {
  bay = c.read.ensures.0 i;
  release = c.read-2.ensures.0 i;
  deadline = c.read-3.ensures.0 i;
  grams = c.read-4.ensures.0 i;
}
