-- `answers::entries::put_all_there` meets its contract: after so many entries what waits is what they add. Assumes nothing.
use Rattle.std.specs.Prelude.{take}
use Rattle.streams.specs.Output.{Puts}
use Rattle.answers.specs.Entries.{all_texts}
use Rattle.answers.proofs.entries.put_all_there.Given as goal

abbrev pub invariant-loop-entry : goal.invariant-loop-entry
invariant-loop-entry g l = Puts l.initial.output (all_texts g.T.ConsoleEntry.texts (take l.entry-index l.entries)) l.output
