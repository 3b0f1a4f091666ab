-- A row stands where its job's run stands. Assumes nothing.
use Rattle.std.specs.Prelude.{◌≡◌, refl, true, false, suc}
use Rattle.std.proofs.Common.{ap, ◌∙◌}
use Rattle.merit.specs.declared.types.MeritEvaluation.{MeritEvaluation}
use Rattle.jobs.specs.declared.types.Job.{Job}
use Rattle.jobs.specs.declared.types.Method.{Method}
use Rattle.jobs.specs.declared.types.Method.TheVariants.{Damped, MultiStart, Annealing}
use Rattle.jobs.specs.Records.{job_of, record_of, kind_of}
use Rattle.runs.specs.declared.types.Row.{Row}
use Rattle.runs.specs.Run.{done, ask}
use Rattle.runs.specs.JobRun.{base_of, optimizer_of, annealer_of, run_by, run}
use Rattle.runs.specs.State.{State, state_of}
use Rattle.runs.proofs.DampedLaws as DampedLaws
use Rattle.runs.proofs.MultiStartLaws as MultiStartLaws
use Rattle.runs.proofs.AnnealingLaws as AnnealingLaws
use Rattle.runs.specs.Rows.{job_of_row, began, admitted, pending_by, pending_surfaces, advance_by, advance, finished_by, is_finished, result_by, result_of}
use Rattle.runs.specs.Resumption.{resumption_by, resumption}

-- the row reads the job back that it was given, as it does every job as kept
abbrev pub ReadBack : Job → Type 0
ReadBack job = job_of (kind_of job) (record_of job) ≡ job

-- ---- law 1: a row as admitted stands for its job's run
begins-by : (m : Method) (job : Job) → resumption_by m job (began m job) ≡ run_by m job
unfolding resumption_by began run_by
begins-by (Damped config) job = DampedLaws.begins (optimizer_of job config) (base_of job)
begins-by (MultiStart config) job = MultiStartLaws.begins (optimizer_of job config.local_dls_config) (base_of job) config.num_trials config.seed
begins-by (Annealing config) job = AnnealingLaws.begins (annealer_of job config) (base_of job)

pub resumption-admitted : (job : Job) → ReadBack job → resumption (admitted job) ≡ run job
unfolding resumption admitted run
resumption-admitted job back = ap (λ (j : Job). resumption_by j.method j (began job.method job)) back ∙ begins-by job.method job

-- ---- law 2: a row that is not finished asks for its pending surfaces, and goes on as its advance, whatever the answer
goes-on-by : (m : Method) (job : Job) (s : State) → finished_by m s ≡ false
    → resumption_by m job s ≡ ask (pending_by m job s) λ e. resumption_by m job (advance_by m job s e)
unfolding resumption_by finished_by pending_by advance_by
goes-on-by (Damped config) job s h = DampedLaws.goes_on (optimizer_of job config) s.damped h
goes-on-by (MultiStart config) job s h = MultiStartLaws.goes_on (optimizer_of job config.local_dls_config) (base_of job) config.num_trials s h
goes-on-by (Annealing config) job s h = AnnealingLaws.goes_on (annealer_of job config) s h

pub resumption-asks : (r : Row) → is_finished r ≡ false → resumption r ≡ ask (pending_surfaces r) λ e. resumption (advance r e)
unfolding resumption is_finished pending_surfaces advance
resumption-asks r h = goes-on-by (job_of_row r).method (job_of_row r) (state_of r) h

-- ---- law 3: a row that is finished stands for its result
ends_by : (m : Method) (job : Job) (s : State) → finished_by m s ≡ true → resumption_by m job s ≡ done (result_by m job s)
unfolding resumption_by finished_by result_by
ends_by (Damped config) job s h = DampedLaws.ends (optimizer_of job config) s.damped h
ends_by (MultiStart config) job s h = MultiStartLaws.ends (optimizer_of job config.local_dls_config) (base_of job) config.num_trials s h
ends_by (Annealing config) job s h = AnnealingLaws.ends (annealer_of job config) s h

pub resumption-done : (r : Row) → is_finished r ≡ true → resumption r ≡ done (result_of r)
unfolding resumption is_finished result_of
resumption-done r h = ends_by (job_of_row r).method (job_of_row r) (state_of r) h

-- ---- law 4: the job is kept, and turns count
pub job-admitted : (job : Job) → ReadBack job → job_of_row (admitted job) ≡ job
unfolding admitted
job-admitted job back = back

pub job-advance : (r : Row) (e : MeritEvaluation) → job_of_row (advance r e) ≡ job_of_row r
unfolding advance
job-advance r e = refl

pub kind-admitted : (job : Job) → (admitted job).kind ≡ kind_of job
unfolding admitted
kind-admitted job = refl

pub kind-advance : (r : Row) (e : MeritEvaluation) → (advance r e).kind ≡ r.kind
unfolding advance
kind-advance r e = refl

pub turns-admitted : (job : Job) → (admitted job).turns ≡ 0
unfolding admitted
turns-admitted job = refl

pub turns-advance : (r : Row) (e : MeritEvaluation) → (advance r e).turns ≡ suc r.turns
unfolding advance
turns-advance r e = refl
