-- `dls::columns::with_differences` meets its contract: the column out of `denom` is written, and nothing else. Assumes nothing.
use Rattle.dls.proofs.Differences.{column-written}
use Rattle.dls.proofs.columns.with_differences.Goals as goal

pub returns : goal.returns
returns c = column-written c.args.config _ _ _ _ _ _ (c.between-d.ensures _) (rw c.operand_count-m.ensures at c.jacobian_column.ensures)
