-- `turns::pending::pending_surfaces` meets its contract: by kind. Assumes nothing.
use Rattle.runs.specs.DampedRow as Damped
use mathlib.Core.Path.{◌≡◌, refl, sym, ap, ◌∙◌}
use Rattle.jobs.specs.declared.types.DlsConfig.{DlsConfig}
use Rattle.jobs.specs.declared.types.Method.{Method}
use Rattle.jobs.specs.Records.{annealing_config, dls_config, method}
use Rattle.jobs.specs.declared.types.SettingsRecord.{SettingsRecord}
use Rattle.jobs.specs.declared.types.Job.{Job}
use Rattle.runs.specs.State.{State}
use Prim.Native.Nat.{ℕ, ◌≤◌}
use Rattle.runs.specs.JobRun.{annealer_of, optimizer_of}
use Rattle.runs.specs.Rows.{pending_by}
use Rattle.dls.specs.DampedSteps.{optimizer}
use Rattle.dls.specs.RunWith.{run_with}
use Rattle.kinds.specs.Methods.{is-damped, is-multi-start, is-annealing}
use Rattle.held.specs.JobFrom.{operand_count_from, settings_from, variables_from, held_job}
use Rattle.held.specs.RowFrom.{damped_from, state_from}
use Rattle.std.proofs.Common.{inl, inr, eq-or-lt_of_le, arith}
use Rattle.turns.proofs.pending.pending_surfaces.Goals as goal

-- kinds 1 and 2 have one pending: a damped part's, by the same settings
damped-or-trial : (kind : ℕ) (s : SettingsRecord) (job : Job) (st : State) → 1 ≤ kind → kind ≤ 2
    → Damped.pending (optimizer_of job (dls_config s)) st.damped ≡ pending_by (method kind s) job st
unfolding pending_by
damped-or-trial kind s job st lo hi = elim (eq-or-lt_of_le lo) [
  | inl e ↦ ap (λ (m : Method). pending_by m job st) (sym (is-damped kind s (sym e)))
  | inr l ↦ ap (λ (m : Method). pending_by m job st) (sym (is-multi-start kind s (omega arith)))
]

pub returns-in-1-clause-fact_1 : goal.returns-in-1-clause-fact_1
returns-in-1-clause-fact_1 c = λ run best.
    let x = c.args in
    let r = run_with x.surfaces.now x.params.now x.candidate.now run in
    let lo : 1 ≤ x.kind = omega arith in
    let hi : x.kind ≤ 2 = omega arith in
    c.pending_damped.ensures.fact_1 (operand_count_from x.job.held.counts.now) run
    ∙ ap (λ (k : DlsConfig). Damped.pending (optimizer k (variables_from x.job.held.counts.now x.job.held.numbers.now)
    (operand_count_from x.job.held.counts.now))
    (damped_from x.h.damped r)) c.dls_config-config.ensures
    ∙ damped-or-trial x.kind (settings_from x.job.held.counts.now x.job.held.numbers.now) _ (state_from x.h r best) lo hi

pub returns-in_default-clause-fact_1 : goal.returns-in_default-clause-fact_1
unfolding pending_by
returns-in_default-clause-fact_1 c = λ run best.
    let x = c.args in
    let r = run_with x.surfaces.now x.params.now x.candidate.now run in
    let job = held_job x.job.held.counts.now x.job.held.numbers.now x.kind in
    let settings = settings_from x.job.held.counts.now x.job.held.numbers.now in
    c.pending_annealing.ensures.fact_1 (annealer_of job (annealing_config settings)) refl run best
    ∙ ap (λ (m : Method). pending_by m job (state_from x.h r best)) (sym (is-annealing x.kind settings (λ e. omega arith) (λ e. omega arith)))
