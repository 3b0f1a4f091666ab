-- What stands in unused entries changes no answer: the job as kept is refused as the job as asked for. Assumes nothing.
use Rattle.std.specs.Prelude.{◌≡◌, refl, Bool, true, false, not, [], ◌∷◌, ◌++◌, ℕ, zero, suc, ◌≤◌, ◌<◌, eqb, length}
use Rattle.std.proofs.Common.{sym, ◌∙◌, le_refl, arith, lt-ltb}
use Rattle.std.proofs.Math.Path.{ap}
use Rattle.lists.specs.All.{all_same}
use Rattle.lists.specs.Kept.{below, kept-used}
use Rattle.lists.specs.Refusals.{refusal, first_refusal}
use Rattle.optics.specs.KeptLaws.{lens-kept}
use Rattle.variables.specs.Active.{no_variable, variable_at, if_enabled, enabled_of, num_active}
use Rattle.variables.specs.Taken.{variable_taken, variables_taken, follower_taken, followers_taken}
use Rattle.variables.specs.declared.types.VariableDef.{VariableDef}
use Rattle.variables.specs.declared.types.VariableSet.{VariableSet}
use Rattle.merit.specs.Check.{operand_taken, operands_taken}
use Rattle.merit.specs.OperandTable.{no_operand as past_operand, operand_at}
use Rattle.merit.specs.declared.types.MeritFunction.{MeritFunction}
use Rattle.jobs.specs.declared.types.Job.{Job}
use Rattle.jobs.specs.declared.types.JobRequest.{JobRequest}
use Rattle.jobs.specs.Filled.{filled}
use Rattle.jobs.specs.Kept.{zero_variable, zero_operand, kept_variables, kept_operands, kept_job, job_from}
use Rattle.jobs.specs.Counts.{Counts, counts}
use Rattle.jobs.specs.Checks.{counts_taken, counts_wrong, settings_refused, no_operand, job_refusals, admission_refusals, job_taken}

-- ---- variables and operands in use are those asked for
variable-kept : (v : VariableSet) (i : ℕ) → v.variable_count ≤ 8 → i < v.variable_count → variable_at (kept_variables v) i ≡ variable_at v i
variable-kept v i m h = kept-used (below v.variable_count) (variable_at v) zero_variable 8 i no_variable (omega arith) (lt-ltb i _ h)

operand-kept : (f : MeritFunction) (i : ℕ) → f.operand_count ≤ 12 → i < f.operand_count → operand_at (kept_operands f) i ≡ operand_at f i
operand-kept f i m h = kept-used (below f.operand_count) (operand_at f) zero_operand 12 i past_operand (omega arith) (lt-ltb i _ h)

enabled-kept : (v : VariableSet) (n : ℕ) → v.variable_count ≤ 8 → n ≤ v.variable_count → enabled_of (kept_variables v) n ≡ enabled_of v n
unfolding enabled_of
enabled-kept v zero m h = refl
enabled-kept v (suc n) m h = λ i. enabled-kept v n m (omega arith) i ++ if_enabled (variable-kept v n m h i)

active-kept : (v : VariableSet) → v.variable_count ≤ 8 → num_active (kept_variables v) ≡ num_active v
active-kept v m = ap length (enabled-kept v v.variable_count m (le_refl _))

-- ---- the answer
module _ (j : Job) where
  kept-causes : Counts j → first_refusal (job_refusals (kept_job j)) ≡ first_refusal (job_refusals j)
  unfolding variables_taken followers_taken
  kept-causes n = λ i.
      first_refusal
      (refusal 1 (counts_wrong j)
      ∷ refusal 3 (not (lens-kept j.prescription n.surfaces n.slots i))
      ∷ refusal 4 (not (variables i))
      ∷ refusal 17 (not (followers i))
      ∷ refusal 5 (not (operands i))
      ∷ refusal 6 (settings_refused j)
      ∷ refusal 7 (eqb (active-kept j.variables n.variables i) 0)
      ∷ refusal 8 (no_operand j)
      ∷ [])
    where
      variables : variables_taken j.prescription.surface_count (kept_variables j.variables)
          ≡ variables_taken j.prescription.surface_count j.variables
      variables =
          all_same _ _ j.variables.variable_count (λ k h. ap (variable_taken j.prescription.surface_count)
          (variable-kept j.variables k n.variables h))

      followers : followers_taken j.prescription.surface_count (kept_variables j.variables)
          ≡ followers_taken j.prescription.surface_count j.variables
      followers =
          all_same _ _ j.variables.variable_count
          (λ k h. ap (λ (d : VariableDef). follower_taken j.prescription.surface_count d.var_type d.follower)
          (variable-kept j.variables k n.variables h))

      operands : operands_taken j.prescription.slot_count (kept_operands j.merit_function)
          ≡ operands_taken j.prescription.slot_count j.merit_function
      operands =
          all_same _ _ j.merit_function.operand_count
          (λ k h. ap (operand_taken j.prescription.slot_count) (operand-kept j.merit_function k n.operands h))

  pub kept-refused : first_refusal (job_refusals (kept_job j)) ≡ first_refusal (job_refusals j)
  kept-refused = by (counts_taken j) refl
    where
      by : (b : Bool) → counts_taken j ≡ b → first_refusal (job_refusals (kept_job j)) ≡ first_refusal (job_refusals j)
      by true e = kept-causes (counts j e)
      by false e = rw e

-- A request that is not refused makes a job that is taken.
pub admitted-taken : (r : JobRequest) → first_refusal (admission_refusals r) ≡ 0 → job_taken (job_from r) ≡ true
admitted-taken r e = rw (kept-refused (filled r), e)

-- Requests that make one job are answered alike.
pub one_answer : (a b : JobRequest) → job_from a ≡ job_from b → first_refusal (admission_refusals a) ≡ first_refusal (admission_refusals b)
one_answer a b e = sym (kept-refused (filled a)) ∙ ap (λ (j : Job). first_refusal (job_refusals j)) e ∙ kept-refused (filled b)
