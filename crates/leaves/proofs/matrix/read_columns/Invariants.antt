-- `leaves::matrix::read_columns` meets its contract: what is left to be read makes the rest. Assumes nothing.
use Rattle.std.proofs.Common.{◌≡◌, ◌-◌, ◌*◌}
use Rattle.text.specs.Reader.{past_floats}
use Rattle.leaves.proofs.matrix.read_columns.Given as goal

abbrev pub invariant-loop-q : goal.invariant-loop-q
invariant-loop-q l =
    let line = l.initial.reader.line.now in
    record {
      same : l.reader.line ≡ l.initial.reader.line;
      left : past_floats (l.p * l.m) line l.initial.reader.at ≡ past_floats ((l.p - l.q) * l.m) line l.reader.at;
    }
