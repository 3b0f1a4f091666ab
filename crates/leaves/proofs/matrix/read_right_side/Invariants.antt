-- `leaves::matrix::read_right_side` meets its contract: what is left to be read makes the rest. Assumes nothing.
use Rattle.std.proofs.Common.{◌≡◌, ◌-◌}
use Rattle.text.specs.Reader.{past_floats}
use Rattle.leaves.proofs.matrix.read_right_side.Given as goal

abbrev pub invariant-loop-i : goal.invariant-loop-i
invariant-loop-i l =
    let line = l.initial.reader.line.now in
    record {
      same : l.reader.line ≡ l.initial.reader.line;
      left : past_floats (l.p) line l.initial.reader.at ≡ past_floats (l.p - l.i) line l.reader.at;
    }
