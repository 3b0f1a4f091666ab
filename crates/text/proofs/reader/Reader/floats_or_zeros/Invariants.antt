-- `text::reader::Reader::floats_or_zeros` meets its contract. Assumes nothing.
use Rattle.std.specs.Prelude.{◌≡◌, length}
use Rattle.text.specs.Reader.{past_floats, floats_or_zeros}
use Rattle.text.proofs.FloatsOrZeros.{Reading}
use Rattle.text.proofs.reader.Reader.floats_or_zeros.Given as goal

abbrev pub invariant-loop-i : goal.invariant-loop-i
invariant-loop-i l =
    let line = l.initial.self.line.now in
    let from = l.initial.self.at in
    let row = l.initial.row in
    record {
      same : l.self.line ≡ l.initial.self.line;
      reading : Reading line (past_floats (length row) line from) (floats_or_zeros line from row) l.self.at l.row l.i;
    }
