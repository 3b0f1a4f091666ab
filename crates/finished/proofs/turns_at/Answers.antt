-- `finished::turns_at` meets its contract. Assumes nothing.
use Rattle.finished.specs.Inserted.{turns-past, turns-there}
use Rattle.finished.proofs.turns_at.Goals as goal

pub returns-then-place-gt3 : goal.returns-then-place-gt3
returns-then-place-gt3 c = turns-past c.args.turns c.args.place c.if-place-gt3.true

pub returns : goal.returns
returns c = turns-there c.args.turns c.args.place c.if-place-gt3.false
