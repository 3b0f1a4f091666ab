-- `normal::elimination::subtract` meets its contract: the part is written as far as the loop has come. Assumes nothing.
use mathlib.Core.Path.{◌≡◌}
use native.Mathlib.Omega.{arith}
use Rattle.lists.specs.Tab.{tab}
use Rattle.normal.proofs.Turns.{subtract-turn}
use Rattle.std.proofs.Common.{rules}
use Rattle.normal.proofs.elimination.subtract.Goals as goal

pub loop-k-init : goal.loop-k-init
unfolding tab
loop-k-init c = search rules

pub loop-k-preserved : goal.loop-k-preserved
loop-k-preserved c =
    let l = c in
    subtract-turn l.args.scratch.now l.args.a l.args.b l.args.n
    l.loop-k.k (search rules) (omega arith) _ _ l.loop-k.invariant

pub returns : goal.returns
returns c =
    let e : c.loop-k.k ≡ c.args.n = omega arith in
    rw e at c.loop-k.invariant
