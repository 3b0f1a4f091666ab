-- `leaves::matrix::put_equations` meets its contract: its numbers come one after the other. Assumes nothing.
use Rattle.std.proofs.Common.{◌∙◌, arith}
use Rattle.leaves.proofs.Rows.{part_long, row_then, row_ended}
use Rattle.leaves.proofs.matrix.put_equations.Goals as goal

pub returns : goal.returns
returns c =
    let row = row_then _ (row_then _ c.put_product.ensures c.put_floats.ensures) c.put_floats-2.ensures in
    let gradient = part_long 108 c.args.p c.args.scratch.now (omega arith) in
    row_ended row (row.long ∙ omega (arith, gradient)) c.end_line.ensures
