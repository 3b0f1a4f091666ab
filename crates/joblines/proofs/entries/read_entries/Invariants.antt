-- `joblines::entries::read_entries` meets its contract. Assumes nothing.
use Rattle.std.proofs.Common.{◌≡◌, length}
use Rattle.joblines.specs.Entries.{put_from, stored_at, entries_from}
use Rattle.joblines.proofs.Reading.{Reading}
use Rattle.joblines.proofs.entries.read_entries.Given as goal

abbrev pub invariant-loop-i : goal.invariant-loop-i
invariant-loop-i g l =
    let line = l.initial.reader.line.now in
    let room = length l.initial.kept in
    record {
      same : l.reader.line ≡ l.initial.reader.line;
      reading : Reading (λ i. put_from g.T.Entry.from (stored_at room i)) line l.count
          (entries_from g.T.Entry.from l.count l.initial.kept line l.initial.reader.at) l.kept l.reader.at l.i;
    }
