-- `normal::step::attempt_part` meets its contract: the three calls one after another; the solver's answer decides. Assumes nothing.
use Rattle.normal.proofs.Attempts.{attempt-none, attempt-some}
use Rattle.std.proofs.Common.{rules}
use Rattle.normal.proofs.step.attempt_part.Goals as goal

pub returns-else-solve_part : goal.returns-else-solve_part
returns-else-solve_part c =
    let x = c.args in
    rw c.if-solve_part.false
    (attempt-none x.p.count x.damping x.scratch.now c.system.new.scratch c.solve_part.new.scratch (search rules) (search rules) c.system.ensures
    (rw c.if-solve_part.false at c.solve_part.ensures))

pub returns-then-solve_part : goal.returns-then-solve_part
returns-then-solve_part c =
    let x = c.args in
    attempt-some x.p.count x.damping x.scratch.now c.system.new.scratch c.solve_part.new.scratch (search rules) (search rules) c.system.ensures
    c.all_finite.result (rw c.if-solve_part.true at c.solve_part.ensures) c.all_finite.ensures
