-- The evaluation of a record: what the call keeps or stores of it. Assumes nothing.
use Rattle.std.specs.Prelude.{◌≡◌, refl, true, false, ℕ, ◌<◌, ◌≤◌}
use Rattle.std.proofs.Math.Path.{sym, ap}
use Rattle.std.proofs.Common.{◌∙◌}
use Rattle.merit.specs.declared.types.MeritEvaluation.{MeritEvaluation}
use Rattle.merit.specs.OperandTable.{zero_evaluation}
use Rattle.merit.specs.Calls.{unless_refused, evaluate_number, lens_evaluation, evaluated_as}
use Rattle.merit.proofs.CallLaws.{none, stays}
use Rattle.jobs.specs.declared.types.JobRecord.{JobRecord}
use Rattle.exports.specs.Lenses.{lens_of, function_of, are_operands, evaluate_record_number, evaluated_record}

module _ (j : JobRecord) (old : MeritEvaluation) where
  with_number : (n : ℕ) → evaluate_record_number j ≡ n
      → (n ≡ evaluate_record_number j) × (unless_refused n (lens_evaluation (lens_of j) (function_of j)) old ≡ evaluated_record old j)
  with_number n e = (sym e, ap (λ (k : ℕ). unless_refused k (lens_evaluation (lens_of j) (function_of j)) old) (sym e))

  pub no-operands : are_operands j ≡ false → (1 ≡ evaluate_record_number j) × (old ≡ evaluated_record old j)
  unfolding evaluate_record_number
  no-operands e = with_number 1 (rw e)

  pub operands : are_operands j ≡ true
      → (evaluate_number (lens_of j) (function_of j) ≡ evaluate_record_number j)
      × (evaluated_as old (lens_of j) (function_of j) ≡ evaluated_record old j)
  unfolding evaluate_record_number
  operands e = with_number (evaluate_number (lens_of j) (function_of j)) (rw e)

-- ---- by value, and what the lent call keeps or stores of it
pub record ByValue : Type 0 where
  pub evaluation : MeritEvaluation
  pub number : ℕ

-- where it is refused the evaluation is zero
unfoldable pub record_evaluated : JobRecord → ByValue
record_evaluated j = record { evaluation = evaluated_record zero_evaluation j; number = evaluate_record_number j }

module _ (j : JobRecord) (old : MeritEvaluation) where
  pub record-kept : 0 < (record_evaluated j).number → ((record_evaluated j).number ≡ evaluate_record_number j) × (old ≡ evaluated_record old j)
  unfolding record_evaluated
  record-kept h = (refl, sym (stays (evaluate_record_number j) (lens_evaluation (lens_of j) (function_of j)) old h))

  pub record-stored : (record_evaluated j).number ≤ 0 →
      ((record_evaluated j).number ≡ evaluate_record_number j) × ((record_evaluated j).evaluation ≡ evaluated_record old j)
  unfolding record_evaluated
  record-stored h =
      let z = none (evaluate_record_number j) h in
      let new = lens_evaluation (lens_of j) (function_of j) in
      (refl, ap (λ (k : ℕ). unless_refused k new zero_evaluation) z ∙ sym (ap (λ (k : ℕ). unless_refused k new old) z))
