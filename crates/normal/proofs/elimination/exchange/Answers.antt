-- `normal::elimination::exchange` meets its contract: the parts are exchanged as far as the loop has come. Assumes nothing.
use mathlib.Core.Path.{◌≡◌, ◌∙◌}
use native.Mathlib.Omega.{arith}
use Rattle.lists.specs.Tab.{tab}
use Rattle.normal.proofs.Turns.{swap-turn}
use Rattle.std.proofs.Common.{rules}
use Rattle.normal.proofs.elimination.exchange.Goals as goal

pub loop-k-init : goal.loop-k-init
unfolding tab
loop-k-init c = search rules

pub loop-k-preserved : goal.loop-k-preserved
loop-k-preserved c =
    let x = c.args in
    c.swap.ensures.after
    ∙ swap-turn x.scratch.now x.a x.b x.n c.loop-k.k (search rules) (omega arith) c.loop-k.scratch c.loop-k.invariant (omega arith)

pub returns : goal.returns
returns c =
    let e : c.loop-k.k ≡ c.args.n = omega arith in
    rw e at c.loop-k.invariant
