-- `leaves::matrix::put_solved` meets its contract: its numbers come one after the other. Assumes nothing.
use Rattle.std.proofs.Common.{arith}
use Rattle.streams.specs.OutputLaws.{puts_then}
use Rattle.leaves.specs.Replies.{numbers}
use Rattle.leaves.proofs.Rows.{part_long}
use Rattle.leaves.proofs.matrix.put_solved.Goals as goal

pub returns : goal.returns
returns c =
    let long = part_long 116 c.args.p c.solve.new.scratch (omega (arith, c.solve.ensures.long)) in
    record { answer = numbers _; is = long; puts = puts_then c.put_floats.ensures c.end_line.ensures }
