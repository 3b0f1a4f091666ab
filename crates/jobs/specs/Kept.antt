-- A job as it is kept: "unused entries .. are zero". Definitions only.
use Rattle.std.specs.Prelude.{ℕ, false, List, get_or}
use Rattle.floats.specs.Constants.{zero64}
use Rattle.lists.specs.Kept.{kept, below}
use Rattle.optics.specs.Kept.{kept_prescription}
use Rattle.variables.specs.declared.types.Follower.TheVariants.{None}
use Rattle.variables.specs.declared.types.VariableDef.{VariableDef}
use Rattle.variables.specs.declared.types.VariableSet.{VariableSet}
use Rattle.variables.specs.declared.types.VariableType.TheVariants.{Curvature}
use Rattle.variables.specs.Active.{no_variable}
use Rattle.merit.specs.declared.types.MeritFunction.{MeritFunction}
use Rattle.merit.specs.declared.types.MeritOperand.{MeritOperand}
use Rattle.merit.specs.declared.types.OperandType.TheVariants.{EffectiveFocalLength}
use Rattle.merit.specs.OperandTable.{no_operand}
use Rattle.jobs.specs.declared.types.Job.{Job}
use Rattle.jobs.specs.declared.types.JobRequest.{JobRequest}
use Rattle.jobs.specs.Filled.{filled}

-- the variable and the operand whose numbers are all zero
abbrev pub zero_variable : VariableDef
zero_variable = record { var_type = Curvature 0; min_value = zero64; max_value = zero64; step_size = zero64; enabled = false; follower = None }

abbrev pub zero_operand : MeritOperand
zero_operand = record { operand_type = EffectiveFocalLength 0; target = zero64; weight = zero64 }

abbrev pub cleared_variables : (count : ℕ) → List VariableDef → List VariableDef
cleared_variables count l = kept (below count) (λ (i : ℕ). get_or l i no_variable) zero_variable 8

abbrev pub cleared_operands : (count : ℕ) → List MeritOperand → List MeritOperand
cleared_operands count l = kept (below count) (λ (i : ℕ). get_or l i no_operand) zero_operand 12

abbrev pub kept_variables : VariableSet → VariableSet
kept_variables v = record { variables = cleared_variables v.variable_count v.variables; variable_count = v.variable_count }

abbrev pub kept_operands : MeritFunction → MeritFunction
kept_operands f = record { operands = cleared_operands f.operand_count f.operands; operand_count = f.operand_count }

abbrev pub kept_job : Job → Job
kept_job j = record {
  prescription = kept_prescription j.prescription;
  variables = kept_variables j.variables;
  merit_function = kept_operands j.merit_function;
  method = j.method;
}

-- the job that a request makes
abbrev pub job_from : JobRequest → Job
job_from r = kept_job (filled r)
