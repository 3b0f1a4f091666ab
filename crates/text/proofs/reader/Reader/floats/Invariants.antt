-- `text::reader::Reader::floats` meets its contract. Assumes nothing.
use Rattle.std.specs.Prelude.{◌≡◌, length}
use Rattle.text.specs.Reader.{past_floats, floats_over}
use Rattle.text.proofs.Floats.{Reading}
use Rattle.text.proofs.reader.Reader.floats.Given as goal

abbrev pub invariant-loop-x : goal.invariant-loop-x
invariant-loop-x l =
    let line = l.initial.self.line.now in
    let from = l.initial.self.at in
    let row = l.initial.x-items in
    record {
      same : l.self.line ≡ l.initial.self.line;
      reading : Reading line (past_floats (length row) line from) (floats_over line from row) l.self.at l.x-items l.x-index;
    }
