-- `normal::elimination::solve` meets its contract: it solves in the front of scratch. Assumes nothing.
use Rattle.normal.proofs.Whole.{solving-whole}
use Rattle.normal.proofs.elimination.solve.Goals as goal

pub returns-in-Some : goal.returns-in-Some
returns-in-Some c =
    let e = c.solve_part.ensures in
    solving-whole c.args.scratch.now c.in-Some.part.now c.solve_part.new.scratch c.requires.fact_1 c.in-Some.ensures.cases.same e.long c.args.p
    c.requires.fact_2 c.solve_part.result e
