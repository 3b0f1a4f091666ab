-- `lensanswers::evaluation::put_evaluation` meets its contract. Assumes nothing.
use Rattle.streams.specs.OutputLaws.{puts_then}
use Rattle.lensanswers.proofs.evaluation.put_evaluation.Goals as goal

pub returns : goal.returns
returns c = puts_then (puts_then (puts_then c.put.ensures c.put_float.ensures) c.put_row.ensures) c.put_row-2.ensures
