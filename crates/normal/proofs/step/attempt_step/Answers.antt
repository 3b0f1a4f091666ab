-- `normal::step::attempt_step` meets its contract: it attempts in the front of scratch. Assumes nothing.
use Rattle.normal.proofs.Whole.{attempt-whole}
use Rattle.normal.proofs.step.attempt_step.Goals as goal

pub returns-in-Some : goal.returns-in-Some
returns-in-Some c =
    let e = c.attempt_part.ensures in
    attempt-whole c.args.scratch.now c.in-Some.part.now c.attempt_part.new.scratch c.requires.fact_1 c.in-Some.ensures.cases.same e.long c.args.p
    c.requires.fact_2 c.args.damping.value c.attempt_part.result e
