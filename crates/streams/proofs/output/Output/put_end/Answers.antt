-- `streams::output::Output::put_end` meets its contract: its texts come one after the other. Assumes nothing.
use Rattle.streams.specs.OutputLaws.{puts_then}
use Rattle.streams.proofs.output.Output.put_end.Goals as goal

pub returns : goal.returns
returns c = puts_then (puts_then (puts_then c.put.ensures c.put_count.ensures) c.put_count-2.ensures) c.put_count-3.ensures
