-- `benchcalls::lent::fetch_at` meets its contract. Assumes nothing.
use Rattle.benchcalls.specs.Placed.{fetch-past, fetched-there}
use Rattle.benchcalls.proofs.lent.fetch_at.Goals as goal

pub returns-then-place-gt3 : goal.returns-then-place-gt3
returns-then-place-gt3 c = fetch-past c.args.bench.now c.args.place c.if-place-gt3.true c.args.res.now

pub returns : goal.returns
returns c = fetched-there c.args.bench.now c.args.place c.if-place-gt3.false c.args.res.now _ _ c.fetch_row.ensures
