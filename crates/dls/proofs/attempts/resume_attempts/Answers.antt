-- `dls::attempts::resume_attempts` meets its contract: the loop's invariant is `Trying`. Assumes nothing.
use native.Mathlib.Omega.{arith}
use Rattle.variables.proofs.CallerLaws.{active-le}
use Rattle.held.specs.JobFrom.{variables_from}
use Rattle.dls.proofs.Trying.{trying-on, trying-found, trying-over}
use Rattle.dls.proofs.attempts.resume_attempts.Goals as goal

pub loop-k-preserved : goal.loop-k-preserved
loop-k-preserved c =
    let a = c.attempt_step in
    let n = active-le (variables_from c.args.job.held.counts.now c.args.job.held.numbers.now) in (
      c.loop-k.invariant.0,
      trying-on c.loop-k.invariant.1 c.requires.fact_2 (omega arith) a.ensures (omega (arith, n)) c.if-not-attempt_step.true c.raise-now.ensures,
    )

pub returns-in-loop-k : goal.returns-in-loop-k
returns-in-loop-k c =
    let a = c.attempt_step in
    trying-found c.loop-k.invariant.1
    c.requires.fact_2
    (omega arith) a.ensures c.if-not-attempt_step.false (rw c.loop-k.invariant.0 at c.candidate_params-found.ensures)
    (rw c.loop-k.invariant.0 at c.at_candidate.ensures)

pub returns : goal.returns
returns c = trying-over c.loop-k.invariant.1 (omega arith) (rw c.loop-k.invariant.0 at c.ended.ensures)
