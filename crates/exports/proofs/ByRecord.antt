-- A lens by itself, asked by the record of a job: each call is the call by value on the job's lens and operands, whatever the job. Assumes nothing.
use Rattle.std.specs.Prelude.{◌≡◌, Bool, List, ℕ, ◌<◌, ◌≤◌, get_or, Ok, Err}
use Rattle.std.proofs.Math.Path.{refl, sym, ap}
use Rattle.std.proofs.Common.{◌∙◌, arith}
use Rattle.std.proofs.Math.Bool.{true, false}
use Rattle.std.proofs.Math.Dec.{ltb}
use Rattle.std.specs.Float.Ieee.Bits.{is_true}
use Rattle.std.specs.Float.Ieee.Fits.{and_r}
use borrow.Author.Tests.{ltb-true, ltb-false, le-ltb}
use Rattle.lists.specs.Tab.{tab, get_or-tab}
use Rattle.lists.specs.All.{all_below}
use Rattle.optics.specs.declared.types.ParaxialRay.{ParaxialRay}
use Rattle.merit.specs.declared.types.MeritEvaluation.{MeritEvaluation}
use Rattle.merit.specs.declared.types.MeritOperand.{MeritOperand}
use Rattle.merit.specs.declared.types.Traced.TheVariants.{Done, Failed}
use Rattle.merit.specs.Calls.{evaluate_number, evaluated_as, trace_answer, traced_rays}
use Rattle.merit.specs.OperandTable.{no_operand, operand_at}
use Rattle.merit.proofs.UsedLaws.{SameLens, SameOperands, evaluate-same, evaluated-same}
use Rattle.intervals.specs.Calls.{limits_number, limits_as}
use Rattle.intervals.specs.declared.types.ThicknessLimits.{ThicknessLimits}
use Rattle.intervals.specs.declared.types.TraceLimits.{TraceLimits}
use Rattle.jobs.specs.declared.types.Job.{Job}
use Rattle.jobs.specs.declared.types.JobRecord.{JobRecord}
use Rattle.jobs.specs.Entries.{operand_record, operand_of, no_operand_record}
use Rattle.jobs.specs.Kept.{kept_job}
use Rattle.jobs.proofs.RecordLaws.{job-back, record-known}
use Rattle.jobs.specs.Records.{record_of, operand_record_at, known_variables, known_operands}
use Rattle.exports.proofs.AnyRecord.{too_many, all_known, when-known, when-unknown}
use Rattle.exports.specs.Lenses.{lens_of, function_of, are_operands, evaluate_record_number, evaluated_record, number_of, trace_record_number}

-- of any record of numbers
pub record ByKinds (r : JobRecord) : Type 0 where
  -- each operand's number for a kind one of the eight, 0 to 7: `evaluate` of the lens and the operands that are read
  pub known : ((n : ℕ) → n < r.operand_count → (operand_record_at r n).kind < 8) → evaluate_record_number r ≡ evaluate_number (lens_of r) (function_of r)
  -- one of them none of the eight: 1
  pub unknown : (n : ℕ) → n < r.operand_count → 8 ≤ (operand_record_at r n).kind → evaluate_record_number r ≡ 1

-- of a job and its record of numbers
pub record ByRecord (j : Job) : Type 0 where
  -- `lens_evaluate` answers as `evaluate`, and leaves what it leaves
  pub evaluate : evaluate_record_number (record_of j) ≡ evaluate_number j.prescription j.merit_function
  pub evaluated : (old : MeritEvaluation) → evaluated_record old (record_of j) ≡ evaluated_as old j.prescription j.merit_function
  -- `lens_trace` answers 0 where `trace` is done, 100 where it fails, its number where it refuses, and leaves its rays
  pub trace_done : (slot rows : ℕ) → trace_answer j.prescription slot rows ≡ Ok Done → trace_record_number (record_of j) slot rows ≡ 0
  pub trace_failed : (slot rows : ℕ) → trace_answer j.prescription slot rows ≡ Ok Failed → trace_record_number (record_of j) slot rows ≡ 100
  pub trace_refused : (slot rows n : ℕ) → trace_answer j.prescription slot rows ≡ Err n → trace_record_number (record_of j) slot rows ≡ n
  pub traced : (slot : ℕ) (old : List ParaxialRay) → traced_rays (lens_of (record_of j)) slot old ≡ traced_rays j.prescription slot old
  -- `lens_trace_limits` answers as `trace_limits`, and leaves what it leaves
  pub limits : (l : ThicknessLimits) (slot : ℕ) → limits_number (lens_of (record_of j)) l slot ≡ limits_number j.prescription l slot
  pub limits_traced : (l : ThicknessLimits) (slot : ℕ) (old : TraceLimits) →
      limits_as old (lens_of (record_of j)) l slot ≡ limits_as old j.prescription l slot

-- ---- any record
module _ (r : JobRecord) where
  pub by-kinds : ByKinds r
  by-kinds = record { known = λ h. when-known r (all_known r h); unknown = when-unknown r }

-- ---- the record of a job
module _ (j : Job) where
  abbrev count : ℕ
  count = j.merit_function.operand_count

  -- the job with other operands, and without variables
  abbrev job_with : List MeritOperand → Job
  job_with operands = record {
    prescription = j.prescription;
    variables = record { variables = (kept_job j).variables.variables; variable_count = 0 };
    merit_function = record { operands = operands; operand_count = count };
    method = j.method;
  }

  -- ---- an operand, read back out of the record of a job that has no other
  operand-back : (o : MeritOperand) → operand_of (operand_record o) ≡ o
  unfolding tab
  operand-back o =
      ap (λ (k : Job). operand_at k.merit_function 0)
      (job-back (job_with (tab (λ (i : ℕ). o) 12)) (record { variables = refl; operands = refl }))

  operands-back : count ≤ 12 → SameOperands (function_of (record_of j)) j.merit_function
  operands-back m = record { count = refl; operands = λ n h. back n (omega arith) }
    where
      back : (n : ℕ) → n < 12 → operand_at (function_of (record_of j)) n ≡ operand_at j.merit_function n
      back n h =
          get_or-tab (λ (i : ℕ). operand_of (get_or (record_of j).operands i no_operand_record)) 12 n no_operand h
          ∙ ap operand_of (get_or-tab (λ (i : ℕ). operand_record (operand_at j.merit_function i)) 12 n no_operand_record h)
          ∙ operand-back (operand_at j.merit_function n)

  same-lens : SameLens (lens_of (record_of j)) j.prescription
  same-lens = record { count = refl; slots = refl; pupil = refl; surfaces = λ i h. refl; indices = λ i w h l. refl }

  -- ---- its operands are operands, where they are no more than 12
  are-known : count ≤ 12 → known_operands (record_of j) ≡ true
  unfolding all_below
  are-known m =
      let alone = job_with j.merit_function.operands in
      is_true (known_operands (record_of j)) (and_r (known_variables (record_of alone)) (known_operands (record_of alone)) (record-known alone (omega arith) m))

  are-operands : count ≤ 12 → are_operands (record_of j) ≡ true
  unfolding are_operands
  are-operands m = simp (le-ltb _ _ m, are-known m)

  evaluates : evaluate_record_number (record_of j) ≡ evaluate_number j.prescription j.merit_function
  unfolding evaluate_record_number are_operands
  evaluates = by (ltb 12 count) refl
    where
      by : (b : Bool) → ltb 12 count ≡ b → evaluate_record_number (record_of j) ≡ evaluate_number j.prescription j.merit_function
      by true e = rw e (sym (too_many j.prescription j.merit_function (ltb-true _ _ e)))
      by false e =
          let m = ltb-false _ _ e in
          rw (are-operands m) (evaluate-same (lens_of (record_of j)) j.prescription same-lens _ _ (operands-back m))

  evaluated : (old : MeritEvaluation) → evaluated_record old (record_of j) ≡ evaluated_as old j.prescription j.merit_function
  unfolding evaluate_record_number are_operands
  evaluated old = by (ltb 12 count) refl
    where
      by : (b : Bool) → ltb 12 count ≡ b → evaluated_record old (record_of j) ≡ evaluated_as old j.prescription j.merit_function
      by true e = rw (e, too_many j.prescription j.merit_function (ltb-true _ _ e))
      by false e =
          let m = ltb-false _ _ e in
          rw (are-operands m) (evaluated-same (lens_of (record_of j)) j.prescription same-lens _ _ (operands-back m) old)

pub by-record : (j : Job) → ByRecord j
unfolding number_of
by-record j = record {
  evaluate = evaluates j;
  evaluated = evaluated j;
  trace_done = λ slot rows e. ap number_of e;
  trace_failed = λ slot rows e. ap number_of e;
  trace_refused = λ slot rows n e. ap number_of e;
  traced = λ slot old. refl;
  limits = λ l slot. refl;
  limits_traced = λ l slot old. refl;
}
