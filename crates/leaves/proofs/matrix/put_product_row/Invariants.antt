-- `leaves::matrix::put_product_row` meets its contract: after j numbers a row of j is put. Assumes nothing.
use Rattle.leaves.specs.Lines.{PutsRow}
use Rattle.leaves.proofs.matrix.put_product_row.Given as goal

abbrev pub invariant-loop-j : goal.invariant-loop-j
invariant-loop-j l = PutsRow l.j l.fn.output l.output
