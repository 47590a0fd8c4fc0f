-- `put_pair` meets its contract: four bytes and the four behind them are one run of eight.
use mathlib.Core.Path.{refl}
use Rattle.records.proofs.Laws.{join}
use Rattle.model.specs.Records.{number_bytes}
use Rattle.records.proofs.number.put_pair.Goals as goal

pub returns : goal.returns
unfolding number_bytes
returns c = join _ _ _ _ c.put.ensures c.put-2.ensures refl
