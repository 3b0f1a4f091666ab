-- Merit and residuals of any values under a held job. Definitions only.
use Rattle.std.specs.Prelude.{List, ℕ, Float}
use Rattle.merit.specs.Evaluation.{counted_total, entries}
use Rattle.held.specs.JobFrom.{operand_count_from, operands_from}
use Rattle.heldmerit.specs.Over.{terms_over, residual_over}

unfoldable pub merit_over : (counts : List ℕ) (numbers values : List Float) → Float
merit_over counts numbers values = counted_total (terms_over (operands_from counts numbers) values (operand_count_from counts))

unfoldable pub residuals_over : (counts : List ℕ) (numbers values : List Float) → List Float
residuals_over counts numbers values = entries (residual_over (operands_from counts numbers) values) (operand_count_from counts)
