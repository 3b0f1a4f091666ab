-- A lens by itself, in numbers alone: the lens and the operands of a job's record. What else stands there, variables and settings, is not looked at.
-- Definitions only.
use Rattle.std.specs.Prelude.{ℕ, Bool, not, cond, ◌&&◌, ltb, Result, Ok, Err}
use Rattle.optics.specs.declared.types.OpticalPrescription.{OpticalPrescription}
use Rattle.merit.specs.declared.types.MeritEvaluation.{MeritEvaluation}
use Rattle.merit.specs.declared.types.MeritFunction.{MeritFunction}
use Rattle.merit.specs.declared.types.Traced.{Traced}
use Rattle.merit.specs.declared.types.Traced.TheVariants.{Done, Failed}
use Rattle.merit.specs.Calls.{unless_refused, evaluate_number, lens_evaluation, trace_answer}
use Rattle.jobs.specs.declared.types.JobRecord.{JobRecord}
use Rattle.jobs.specs.Records.{job_of, known_operands}

-- of a job of any kind
abbrev pub lens_of : JobRecord → OpticalPrescription
lens_of j = (job_of 1 j).prescription

abbrev pub function_of : JobRecord → MeritFunction
function_of j = (job_of 1 j).merit_function

-- ---- evaluate: where an operand's number for a kind is none, 1, as in admission
unfoldable pub are_operands : JobRecord → Bool
are_operands j = not (ltb 12 j.operand_count) && known_operands j

unfoldable pub evaluate_record_number : JobRecord → ℕ
evaluate_record_number j = cond (are_operands j) (evaluate_number (lens_of j) (function_of j)) 1

-- what is lent, at exit
abbrev pub evaluated_record : (old : MeritEvaluation) → JobRecord → MeritEvaluation
evaluated_record old j = unless_refused (evaluate_record_number j) (lens_evaluation (lens_of j) (function_of j)) old

-- ---- trace
-- A failed trace is not refused, and its row stays as it was. So that no caller takes such a row for a trace it has a number here, beyond those of 01.
abbrev pub not_traced : ℕ
not_traced = 100

unfoldable pub number_of : Result Traced ℕ → ℕ
number_of (Ok Done) = 0
number_of (Ok Failed) = not_traced
number_of (Err n) = n

abbrev pub trace_record_number : JobRecord → (slot rows : ℕ) → ℕ
trace_record_number j slot rows = number_of (trace_answer (lens_of j) slot rows)
