-- `benchcalls::lent::admit` meets its contract. Assumes nothing.
use Rattle.std.proofs.Common.{◌∙◌}
use Rattle.benchcalls.specs.Placed.{admit-past, admitted-there}
use Rattle.benchcalls.proofs.lent.admit.Goals as goal

pub returns-then-place-gt3 : goal.returns-then-place-gt3
returns-then-place-gt3 c =
    let e = admit-past c.args.bench.now c.args.place c.if-place-gt3.true c.args.request in
    (c.admit_refusal.ensures ∙ e.0, e.1)

pub returns : goal.returns
returns c = admitted-there c.args.bench.now c.args.place c.if-place-gt3.false c.args.request _ _ c.admit_row.ensures
