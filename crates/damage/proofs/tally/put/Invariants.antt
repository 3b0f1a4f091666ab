-- `damage::tally::put` meets its contract: after so many entries what waits is what their lines add. Assumes nothing.
use Rattle.std.proofs.Common.{length, take}
use Rattle.std.specs.List.{zip}
use Rattle.streams.specs.Output.{Puts}
use Rattle.answers.specs.Entries.{all_texts}
use Rattle.damage.specs.Tally.{entry_texts}
use Rattle.damage.specs.declared.entries.TheConstants.{ENTRIES}
use Rattle.damage.proofs.tally.put.Given as goal

abbrev pub invariant-loop-entry : goal.invariant-loop-entry
invariant-loop-entry l = Puts l.fn.output (all_texts entry_texts (take (length l.yielded) (zip ENTRIES l.tally))) l.output
