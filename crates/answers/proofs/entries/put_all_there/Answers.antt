-- `answers::entries::put_all_there` meets its contract: after so many entries what waits is what they add. Assumes nothing.
use Rattle.std.proofs.Common.{rules}
use Rattle.streams.specs.OutputLaws.{puts_then, puts_as, nothing_puts}
use Rattle.answers.specs.Entries.{all_texts}
use Rattle.answers.specs.EntryLaws.{this_more}
use Rattle.answers.proofs.entries.put_all_there.Goals as goal

pub loop-entry-init : goal.loop-entry-init
unfolding all_texts
loop-entry-init g c = nothing_puts c.clip.new.self (rw c.clip.ensures (search rules))

pub loop-entry-preserved : goal.loop-entry-preserved
loop-entry-preserved g c =
    let l = c.loop-entry in
    puts_as (this_more g.T.ConsoleEntry.texts c.args.entries.now l.entry-index c.loop-entry-test.true c.entry-item.is) (puts_then l.invariant c.put.ensures)
