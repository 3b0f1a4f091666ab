-- `dls::attempts::resume_attempts` meets its contract: the loop's invariant is `Trying`, and the run stays. Assumes nothing.
use mathlib.Core.Path.{◌≡◌}
use Rattle.held.specs.JobFrom.{variables_from}
use Rattle.held.specs.RowFrom.{damped_from}
use Rattle.dls.proofs.Trying.{Trying}
use Rattle.dls.proofs.attempts.resume_attempts.Given as goal

abbrev pub invariant-loop-k : goal.invariant-loop-k
invariant-loop-k l = (l.run ≡ l.initial.run)
    × Trying (variables_from l.job.held.counts.now l.job.held.numbers.now) (damped_from l.h l.initial.run) l.initial.scratch l.initial.now l.fn.first
    l.scratch l.now l.k
