-- `heldmerit::evaluation::merit_of` meets its contract: the loop's invariant: the terms of the values passed are added. Assumes nothing.
use mathlib.Core.Path.{◌≡◌}
use Rattle.held.specs.JobFrom.{operand_count_from, operands_from}
use Rattle.heldmerit.specs.Over.{terms_over}
use Rattle.heldmerit.proofs.evaluation.merit_of.Given as goal

abbrev pub invariant-loop-n : goal.invariant-loop-n
invariant-loop-n l = (l.many ≡ operand_count_from l.job.counts.now) × (l.total ≡ terms_over (operands_from l.job.counts.now l.job.numbers.now) l.values l.n)
