-- `benchcalls::lent::release_at` meets its contract. Assumes nothing.
use Rattle.benchcalls.specs.Placed.{release-past, released-there}
use Rattle.benchcalls.proofs.lent.release_at.Goals as goal

pub returns-then-place-gt3 : goal.returns-then-place-gt3
returns-then-place-gt3 c = release-past c.args.bench.now c.args.place c.if-place-gt3.true

pub returns : goal.returns
returns c = released-there c.args.bench.now c.args.place c.if-place-gt3.false _ _ c.release_row.ensures
