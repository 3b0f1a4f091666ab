-- `joblines::lens::read_rows` meets its contract. Assumes nothing.
use Rattle.std.proofs.Common.{◌≡◌}
use Rattle.joblines.specs.Lens.{row_from, rows_from}
use Rattle.joblines.proofs.Reading.{Reading}
use Rattle.joblines.proofs.lens.read_rows.Given as goal

abbrev pub invariant-loop-i : goal.invariant-loop-i
invariant-loop-i l =
    let line = l.initial.reader.line.now in
    record {
      same : l.reader.line ≡ l.initial.reader.line;
      reading : Reading (row_from l.slots) line l.count
          (rows_from l.count l.slots l.initial.indices line l.initial.reader.at) l.indices l.reader.at l.i;
    }
