-- `intervalcalls::ends::lesser_of` meets its contract: the test decides. Assumes nothing.
use Rattle.std.proofs.Common.{Bool, sym, ap}
use Rattle.std.specs.Prelude.{cond}
use Rattle.intervals.specs.Interval.{lesser}
use Rattle.intervalcalls.proofs.ends.lesser_of.Goals as goal

pub returns-then-b-a : goal.returns-then-b-a
unfolding lesser
returns-then-b-a c = ap (λ (t : Bool). cond t c.args.b c.args.a) (sym c.if-b-a.true)

pub returns-else-b-a : goal.returns-else-b-a
unfolding lesser
returns-else-b-a c = ap (λ (t : Bool). cond t c.args.b c.args.a) (sym c.if-b-a.false)
