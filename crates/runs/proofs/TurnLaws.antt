-- What rows come to under the evaluation that a turn works out. Assumes nothing but what is named.
use Rattle.std.specs.Prelude.{◌≡◌, refl, true, List, ℕ, ◌+◌, ◌-◌, T, get_or, length, replicate, Float}
use Rattle.std.proofs.Common.{sym, ap, ◌∙◌, subst, arith, get_or-append-add}
use Rattle.std.proofs.lemmas.List.{get_or-replicate}
use Rattle.std.specs.Float.{nan}
use Rattle.floats.specs.Constants.{zero64}
use Rattle.lists.specs.Tab.{tab, length-tab}
use Rattle.floatlaws.specs.CallerLaws.{test-finite}
use Rattle.optics.specs.Check.{surfaces_taken}
use Rattle.optics.specs.Types.{surface_at, slot_index}
use Rattle.variables.specs.Active.{num_active}
use Rattle.variables.specs.Values.{applied}
use Rattle.merit.specs.Evaluation.{entries}
use Rattle.merit.proofs.EvaluationLaws.{total-finite}
use Rattle.merit.specs.declared.types.MeritEvaluation.{MeritEvaluation}
use Rattle.jobs.specs.declared.types.DlsConfig.{DlsConfig}
use Rattle.jobs.specs.declared.types.Job.{Job}
use Rattle.jobs.specs.declared.types.Method.{Method}
use Rattle.jobs.specs.declared.types.Method.TheVariants.{Damped}
use Rattle.runs.specs.Run.{Surfaces, value, value-done}
use Rattle.runs.proofs.Ends.{Ends-value}
use Rattle.runs.specs.JobRun.{base_of, operand_count_of, optimizer_of, run_by, run}
use Rattle.runs.specs.Rows.{is_finished, result_of}
use Rattle.runs.proofs.RowLaws.{ReadBack, resumption-done}
use Rattle.runs.specs.Outcomes.{Evaluated, FiniteAnswer, Descended}
use Rattle.runs.proofs.RunEnds.{run-checked, damped-descends}
use Rattle.runs.specs.RowAfter.{row_after}
use Rattle.runs.proofs.Turned.{row-stands}
use Rattle.runs.specs.JobMerit.{evaluate_of}
use Rattle.runs.specs.Unused.{ZeroFrom, CleanEvaluation}

-- ---- every merit is finite
pub merit-finite : (job : Job) (s : Surfaces) → FiniteAnswer s (evaluate_of job s)
unfolding evaluate_of
merit-finite job s =
    test-finite _ (total-finite (surface_at s) (slot_index job.prescription.indices) job.prescription.entrance_pupil_diameter_mm
    job.prescription.surface_count job.merit_function)

-- ---- it is zero past the operands
entries-zero : (g : ℕ → Float) (n : ℕ) → ZeroFrom n 12 (entries g n)
entries-zero g n i l b =
    let e : i ≡ length (tab g n) + (i - n) = split (length (tab g n)) (length-tab g n) in
    ap (λ (k : ℕ). get_or (entries g n) k nan) e ∙ get_or-append-add (tab g n) (replicate (12 - n) zero64) (i - n) nan
    ∙ get_or-replicate (12 - n) (i - n) zero64 nan (omega arith)
  where
    split : (k : ℕ) → k ≡ n → i ≡ k + (i - n)
    split k e = omega arith

pub evaluation-clean : (job : Job) (s : Surfaces)
    → CleanEvaluation job.prescription.surface_count (num_active job.variables) (operand_count_of job) (evaluate_of job s)
unfolding evaluate_of
evaluation-clean job s = (entries-zero _ (operand_count_of job), entries-zero _ (operand_count_of job))

-- ---- a finished row holds what its job's run comes to
pub row-result : (f : Surfaces → MeritEvaluation) (job : Job) → ReadBack job → (k : ℕ) → is_finished (row_after f k job) ≡ true
    → result_of (row_after f k job) ≡ value f (run job)
row-result f job back k h = sym
    (value-done f k (run job) (result_of (row_after f k job)) (sym (row-stands f job back k) ∙ resumption-done (row_after f k job) h))

-- ---- "the surfaces handed back have the merit printed beside them", and pass check 3
pub result-evaluated : (job : Job)
    → ((values : List Float) (x : Surfaces) → T (surfaces_taken x job.prescription.surface_count)
    → T (surfaces_taken (applied job.variables values x) job.prescription.surface_count)) →
    T (surfaces_taken (base_of job) job.prescription.surface_count) →
    Evaluated (evaluate_of job) (value (evaluate_of job) (run job))
    × T (surfaces_taken (value (evaluate_of job) (run job)).surfaces job.prescription.surface_count)
result-evaluated job applies h = Ends-value (evaluate_of job) (λ s. refl) (run-checked (evaluate_of job) job applies h)

-- ---- a damped job's final merit is finite and not above the first
pub damped-result-descends : (job : Job) (config : DlsConfig) → job.method ≡ Damped config → Descended (value (evaluate_of job) (run job))
unfolding run run_by
damped-result-descends job config e =
    subst (λ (m : Method). Descended (value (evaluate_of job) (run_by m job))) (sym e)
    (Ends-value (evaluate_of job) (merit-finite job) (damped-descends (optimizer_of job config) (base_of job)))
