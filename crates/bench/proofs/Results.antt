-- What the run of an admissible job comes to. Assumes nothing.
use Rattle.std.specs.Prelude.{◌≡◌, refl, true, not, ◌&&◌, ℕ, T, leb}
use Rattle.std.proofs.Common.{sym, subst, le_refl, le-leb}
use Rattle.std.proofs.Math.Path.{ap}
use Rattle.lists.specs.All.{all-at}
use Rattle.lists.specs.Refusals.{not-refusing}
use Rattle.optics.specs.Check.{surface_taken, surfaces_taken, lens_taken}
use Rattle.optics.specs.CheckLaws.{lens-parts, lens_from}
use Rattle.optics.specs.Types.{surface_at}
use Rattle.variables.specs.Active.{num_active}
use Rattle.merit.specs.declared.types.MeritEvaluation.{MeritEvaluation}
use Rattle.merit.specs.Calls.{evaluate_number}
use Rattle.merit.specs.Check.{operands_taken}
use Rattle.merit.proofs.CallLaws.{evaluate-0}
use Rattle.jobs.specs.declared.types.DlsConfig.{DlsConfig}
use Rattle.jobs.specs.declared.types.Job.{Job}
use Rattle.jobs.specs.declared.types.Method.{Method}
use Rattle.jobs.specs.declared.types.Method.TheVariants.{Damped}
use Rattle.jobs.specs.Passed.{passed}
use Rattle.runs.specs.Run.{Surfaces, value}
use Rattle.runs.proofs.Ends.{Ends-value}
use Rattle.runs.specs.DampedRun.{Optimizer, Current, damped}
use Rattle.runs.proofs.DampedEnds.{ends-damped}
use Rattle.runs.proofs.RunEnds.{By}
use Rattle.runs.specs.JobRun.{Result, base_of, operand_count_of, optimizer_of, run_by, run}
use Rattle.runs.specs.Rows.{bound}
use Rattle.runs.specs.RowAfter.{row_after}
use Rattle.runs.proofs.Turned.{finished-at-bound, job-after}
use Rattle.runs.proofs.TurnLaws.{evaluation-clean, row-result, result-evaluated, damped-result-descends}
use Rattle.runs.specs.Unused.{CleanResult}
use Rattle.runs.proofs.UnusedLaws.{unused-zero, result-unused}
use Rattle.runs.specs.JobMerit.{lens_with, evaluate_of}
use Rattle.runs.proofs.Usable.{usable}
use Rattle.bench.proofs.Admission.{Admissible}
use Rattle.bench.specs.Theorem.{Returned}

module _ (job : Job) where
  -- a damped run's first merit is that of the surfaces it starts from
  first-merit : (o : Optimizer) (initial : Surfaces) → (value (evaluate_of job) (damped o initial)).initial_merit ≡ (evaluate_of job initial).total_merit
  first-merit o initial =
      Ends-value (evaluate_of job) (λ s. refl)
      (ends-damped o (By (evaluate_of job)) (λ (s : Current). s.initial_merit ≡ (evaluate_of job initial).total_merit) (λ s k. k) (λ s k. k) (λ c e s k q t. k)
      (λ (r : Result). r.initial_merit ≡ (evaluate_of job initial).total_merit) initial
      (λ e q. ap (λ (e : MeritEvaluation). e.total_merit) q)
      (λ end h. h))

  -- the run of a damped job
  run-damped : (config : DlsConfig) → job.method ≡ Damped config → run job ≡ damped (optimizer_of job config) (base_of job)
  unfolding run run_by
  run-damped config e = ap (λ (m : Method). run_by m job) e

  abbrev come : Result
  come = value (evaluate_of job) (run job)

  come-damped : (P : Result → Type 0) (config : DlsConfig) → job.method ≡ Damped config
      → P (value (evaluate_of job) (damped (optimizer_of job config) (base_of job))) → P come
  come-damped P config e h = subst P (sym (ap (value (evaluate_of job)) (run-damped config e))) h

  module _ (a : Admissible job) where
    -- the job's lens with other surfaces that pass check 3 is taken by `evaluate`
    lens-with : (s : Surfaces) → T (surfaces_taken s job.prescription.surface_count) → T (lens_taken (lens_with job s))
    lens-with s t =
        let l = lens-parts job.prescription (passed job a.taken).lens in
        lens_from (lens_with job s) (record {
          pupil = l.pupil;
          surfaces = λ i h. all-at (λ (k : ℕ). surface_taken (surface_at s k)) job.prescription.surface_count i t h;
          indices = l.indices;
        })

    pub evaluable : (s : Surfaces) → T (surfaces_taken s job.prescription.surface_count) → evaluate_number (lens_with job s) job.merit_function ≡ 0
    evaluable s t =
        let has = passed job a.taken in
        let n = has.counted in
        let p = job.prescription in
        let counted : leb p.surface_count 16 && leb 1 p.slot_count && leb p.slot_count 4 && leb job.merit_function.operand_count 12
        ≡ true =
        (λ i. le-leb p.surface_count 16 n.surfaces i && le-leb 1 p.slot_count n.some_slot i && le-leb p.slot_count 4 n.slots i
        && le-leb job.merit_function.operand_count 12 n.operands i) in
        (evaluate-0 (lens_with job s) job.merit_function).1 (
          ap not counted,
          (
            not-refusing (lens_taken (lens_with job s)) (lens-with s t),
            (not-refusing (operands_taken p.slot_count job.merit_function) has.operands, tt),
          ),
        )

    -- a finished row is clean, and holds the result
    come-clean : CleanResult job.prescription.surface_count (num_active job.variables) (operand_count_of job) come
    come-clean =
        let f = evaluate_of job in
        let k = bound job in
        let finished = finished-at-bound f job a.back k (le_refl k) in
        subst (CleanResult job.prescription.surface_count (num_active job.variables) (operand_count_of job)) (row-result f job a.back k finished)
        (result-unused job a.kept (row_after f k job) (job-after f job a.back k) (unused-zero f job a.back a.kept (evaluation-clean job) k) finished)

    pub returned : Returned job come
    returned =
        let u = usable job a.taken in
        let h = result-evaluated job u.applies u.based in
        record {
          result = refl;
          evaluated = h.0;
          clean = come-clean;
          checked = h.1;
          evaluable = evaluable come.surfaces h.1;
          descended = damped-result-descends job;
          first = λ config e. come-damped (λ (r : Result). r.initial_merit ≡ (evaluate_of job (base_of job)).total_merit) config e
              (first-merit (optimizer_of job config) (base_of job));
        }
