-- `fans_in` meets its contract: the fields of an F record, each read at its place.
use Rattle.model.specs.Records.{fields_at}
use Rattle.records.proofs.order_records.fans_in.Goals as goal

pub returns : goal.returns
unfolding fields_at
returns c = λ i. record {
  fans = c.read.ensures.0 i;
  rule = c.read-2.ensures.0 i;
  top_grams = c.read-3.ensures.0 i;
  top_seconds = c.read-4.ensures.0 i;
}
