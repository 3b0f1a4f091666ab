-- `leaves::matrix::put_product_row` meets its contract: after j numbers a row of j is put. Assumes nothing.
use Rattle.std.proofs.Common.{arith}
use Rattle.leaves.proofs.Rows.{no_row, row_as, row_then}
use Rattle.leaves.proofs.matrix.put_product_row.Goals as goal

pub loop-j-init : goal.loop-j-init
loop-j-init c = no_row c.clip.ensures

pub loop-j-preserved : goal.loop-j-preserved
loop-j-preserved c = row_then _ c.loop-j.invariant c.put_floats.ensures

pub returns : goal.returns
returns c = row_as (omega arith) c.loop-j.invariant
