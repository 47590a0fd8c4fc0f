-- `moment` meets its contract: a product of two fields and a third fit 64 bits.
use Rattle.steps.proofs.Products.{product_fits}
use native.Mathlib.Omega.{arith}
use Rattle.records.proofs.plan_records.moment.Goals as goal

pub overflow_mul-result : goal.overflow_mul-result
overflow_mul-result c = omega (arith, product_fits c.from.result c.from-2.result c.args.part (omega arith) (omega arith) (omega arith))

pub overflow_add-result : goal.overflow_add-result
overflow_add-result c = omega (arith, product_fits c.from.result c.from-2.result c.args.part (omega arith) (omega arith) (omega arith))
