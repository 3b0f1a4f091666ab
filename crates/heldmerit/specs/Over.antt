-- Merit and residuals out of values alone. Definitions only.
use Rattle.std.specs.Prelude.{List, Float, get_or, ℕ, zero, suc}
use Rattle.std.specs.Float.{nan}
use Rattle.std.specs.Float.Ieee.{binary64, add}
use Rattle.floats.specs.Constants.{zero64}
use Rattle.merit.specs.Evaluation.{residual, term}
use Rattle.merit.specs.OperandTable.{operand_at}
use Rattle.merit.specs.declared.types.MeritFunction.{MeritFunction}

module _ (f : MeritFunction) (values : List Float) where
  -- the terms of the first n values, added in rising order
  unfoldable pub terms_over : ℕ → Float
  terms_over zero = zero64
  terms_over (suc n) = add binary64 (terms_over n) (term (operand_at f n) (get_or values n nan))

  abbrev pub residual_over : ℕ → Float
  residual_over n = residual (operand_at f n) (get_or values n nan)
