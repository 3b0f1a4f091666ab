-- `benchcalls::lent::take_turn` meets its contract. Assumes nothing.
use Rattle.benchcalls.specs.Placed.{turn-past, turned-there}
use Rattle.benchcalls.proofs.lent.take_turn.Goals as goal

pub returns-then-place-gt3 : goal.returns-then-place-gt3
returns-then-place-gt3 c = turn-past c.args.bench.now c.args.place c.if-place-gt3.true c.args.scratch.now

pub returns : goal.returns
returns c = turned-there c.args.bench.now c.args.place c.if-place-gt3.false c.args.scratch.now _ _ _ c.row_long.ensures c.row_long-2.ensures
    c.turn_row-done.ensures
