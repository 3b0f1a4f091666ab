-- `heldmerit::evaluation::residuals_of` meets its contract: the loop's invariant: the residuals of the values passed stand. Assumes nothing.
use mathlib.Core.Path.{◌≡◌}
use Rattle.held.specs.JobFrom.{operand_count_from, operands_from}
use Rattle.merit.specs.Steps.{RootKnown}
use Rattle.heldmerit.specs.Over.{residual_over}
use Rattle.heldmerit.proofs.Over.{Standing}
use Rattle.heldmerit.proofs.evaluation.residuals_of.Given as goal

abbrev pub invariant-loop-n : goal.invariant-loop-n
invariant-loop-n l = (l.many ≡ operand_count_from l.job.counts.now)
    × Standing (residual_over (operands_from l.job.counts.now l.job.numbers.now) l.values) l.n l.residuals × RootKnown l.known
