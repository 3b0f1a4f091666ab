-- `normal::layout::row_start` meets its contract. Assumes nothing.
use native.Mathlib.Omega.{arith}
use Rattle.normal.proofs.Triangle.{start_is, start_small}
use Rattle.std.proofs.Common.{rules}
use Rattle.normal.proofs.layout.row_start.Goals as goal

pub overflow_mul-result : goal.overflow_mul-result
overflow_mul-result c = record { fits = omega (arith, start_small c.args.i (search rules)) }

pub returns : goal.returns
returns c = start_is c.args.i
