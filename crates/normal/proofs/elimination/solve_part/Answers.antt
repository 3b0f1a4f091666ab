-- `normal::elimination::solve_part` meets its contract: the two calls one after another; the first one's answer decides. Assumes nothing.
use Rattle.normal.proofs.Solving.{solve-none, solve-some}
use Rattle.std.proofs.Common.{rules}
use Rattle.normal.proofs.elimination.solve_part.Goals as goal

pub returns-then-not-eliminate : goal.returns-then-not-eliminate
returns-then-not-eliminate c =
    let x = c.args in
    solve-none x.p.count x.scratch.now c.eliminate.new.scratch (rw c.if-not-eliminate.true at c.eliminate.ensures)

pub returns : goal.returns
returns c =
    let x = c.args in
    solve-some x.p.count x.scratch.now c.eliminate.new.scratch c.solve_upward.new.scratch (search rules) (search rules)
    (rw c.if-not-eliminate.false at c.eliminate.ensures) c.solve_upward.ensures
