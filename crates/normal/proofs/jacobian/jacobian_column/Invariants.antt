-- `normal::jacobian::jacobian_column` meets its contract: the loop writes the column from its first entry on. Assumes nothing.
use mathlib.Core.Path.{◌≡◌}
use Rattle.normal.specs.Jacobian.{column_of, with_column}
use Rattle.normal.proofs.jacobian.jacobian_column.Given as goal

abbrev pub invariant-loop-i : goal.invariant-loop-i
invariant-loop-i l = l.jacobian ≡ with_column l.initial.jacobian l.q (column_of l.plus l.minus l.i l.between)
