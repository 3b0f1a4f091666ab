-- Operands by their number, and the evaluation that is all zero: apart from the evaluation, for files that name them and evaluate nothing. Definitions only.
use Rattle.std.specs.Prelude.{ℕ, get_or, replicate}
use Rattle.std.specs.Float.{nan}
use Rattle.floats.specs.Constants.{zero64}
use Rattle.merit.specs.declared.types.MeritEvaluation.{MeritEvaluation}
use Rattle.merit.specs.declared.types.MeritFunction.{MeritFunction}
use Rattle.merit.specs.declared.types.MeritOperand.{MeritOperand}
use Rattle.merit.specs.declared.types.OperandType.TheVariants.{EffectiveFocalLength}

-- the checker's default for a read past the end
abbrev pub no_operand : MeritOperand
no_operand = record { operand_type = EffectiveFocalLength 0; target = nan; weight = nan }

abbrev pub operand_at : MeritFunction → ℕ → MeritOperand
operand_at f n = get_or f.operands n no_operand

abbrev pub zero_evaluation : MeritEvaluation
zero_evaluation = record { values = replicate 12 zero64; residuals = replicate 12 zero64; total_merit = zero64 }
