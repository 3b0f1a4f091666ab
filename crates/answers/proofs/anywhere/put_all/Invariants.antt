-- `answers::anywhere::put_all` meets its contract: after so many entries what waits is what they add. Assumes nothing.
use Rattle.std.specs.Prelude.{take}
use Rattle.answers.specs.Anywhere.{PutsAnywhere}
use Rattle.answers.specs.Entries.{all_texts}
use Rattle.answers.proofs.anywhere.put_all.Given as goal

abbrev pub invariant-loop-entry : goal.invariant-loop-entry
invariant-loop-entry g l = PutsAnywhere l.initial.output (all_texts g.T.Entry.texts (take l.entry-index l.entries)) l.output
