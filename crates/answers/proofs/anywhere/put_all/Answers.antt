-- `answers::anywhere::put_all` meets its contract: after so many entries what waits is what they add. Assumes nothing.
use Rattle.std.proofs.Common.{rules}
use Rattle.streams.specs.OutputLaws.{nothing_puts}
use Rattle.answers.specs.Anywhere.{anywhere, anywhere_then, anywhere_as}
use Rattle.answers.specs.Entries.{all_texts}
use Rattle.answers.specs.EntryLaws.{this_more}
use Rattle.answers.proofs.anywhere.put_all.Goals as goal

pub loop-entry-init : goal.loop-entry-init
unfolding all_texts
loop-entry-init g c = anywhere (nothing_puts c.clip.new.self (rw c.clip.ensures (search rules)))

pub loop-entry-preserved : goal.loop-entry-preserved
loop-entry-preserved g c =
    let l = c.loop-entry in
    anywhere_as (this_more g.T.Entry.texts c.args.entries.now l.entry-index c.loop-entry-test.true c.entry-item.is) (anywhere_then l.invariant c.put.ensures)
