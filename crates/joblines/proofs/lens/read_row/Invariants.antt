-- `joblines::lens::read_row` meets its contract. Assumes nothing.
use Rattle.std.proofs.Common.{◌≡◌}
use Rattle.text.specs.Reader.{float_from}
use Rattle.joblines.specs.Entries.{put_from}
use Rattle.joblines.specs.Lens.{index_stored, row_from}
use Rattle.joblines.proofs.Reading.{Reading}
use Rattle.joblines.proofs.lens.read_row.Given as goal

abbrev pub invariant-loop-w : goal.invariant-loop-w
invariant-loop-w l =
    let line = l.initial.reader.line.now in
    record {
      same : l.reader.line ≡ l.initial.reader.line;
      reading : Reading (λ w. put_from float_from (index_stored l.i w)) line l.slots
          (row_from l.slots l.i l.initial.indices line l.initial.reader.at) l.indices l.reader.at l.w;
    }
