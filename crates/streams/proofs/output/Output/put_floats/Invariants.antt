-- `streams::output::Output::put_floats` meets its contract: after i floats what waits is what i floats add. Assumes nothing.
use Rattle.std.proofs.Common.{take}
use Rattle.streams.specs.Output.{Puts, float_texts}
use Rattle.streams.proofs.output.Output.put_floats.Given as goal

abbrev pub invariant-loop-x : goal.invariant-loop-x
invariant-loop-x l = Puts l.initial.self (float_texts (take l.x-index l.row)) l.self
