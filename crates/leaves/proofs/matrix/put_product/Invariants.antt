-- `leaves::matrix::put_product` meets its contract: after i rows i times p numbers are put. Assumes nothing.
use Rattle.std.proofs.Common.{◌*◌}
use Rattle.leaves.specs.Lines.{PutsRow}
use Rattle.leaves.proofs.matrix.put_product.Given as goal

abbrev pub invariant-loop-i : goal.invariant-loop-i
invariant-loop-i l = PutsRow (l.i * l.p) l.fn.output l.output
