-- `turns::advance::advance_run` meets its contract: by kind. Assumes nothing.
use mathlib.Core.Path.{◌≡◌, sym, ap, ◌∙◌}
use native.Mathlib.Omega.{arith}
use Rattle.jobs.specs.declared.types.DlsConfig.{DlsConfig}
use Rattle.jobs.specs.declared.types.Job.{Job}
use Rattle.jobs.specs.declared.types.Method.{Method}
use Rattle.merit.specs.declared.types.MeritEvaluation.{MeritEvaluation}
use Rattle.runs.specs.DampedRow as Damped
use Rattle.runs.specs.JobMerit.{evaluate_of}
use Rattle.runs.specs.Rows.{advance_by}
use Rattle.runs.specs.State.{State, with_damped}
use Rattle.dls.specs.DampedSteps.{optimizer}
use Rattle.kinds.specs.Methods.{is-damped, is-multi-start, is-annealing}
use Rattle.held.specs.JobFrom.{operand_count_from, settings_from, variables_from, held_job}
use Rattle.held.specs.RowFrom.{state_from}
use Rattle.turns.proofs.advance.advance_run.Goals as goal

by_method : (job : Job) (s : State) (e : MeritEvaluation) {m m' : Method} {r : State} → m' ≡ m → r ≡ advance_by m job s e → r ≡ advance_by m' job s e
by_method job s e k f = f ∙ ap (λ (m : Method). advance_by m job s e) (sym k)

pub returns-in-1-clause-fact_1 : goal.returns-in-1-clause-fact_1
unfolding advance_by
returns-in-1-clause-fact_1 c = λ k lens w.
    let x = c.args in
    let s = state_from x.h x.run.now x.best.now in
    let e = evaluate_of (held_job x.job.held.counts.now x.job.held.numbers.now k) lens in
    by_method _ s e (is-damped x.kind (settings_from x.job.held.counts.now x.job.held.numbers.now) c.in-1.is)
    (c.advance_part.ensures.fact_1 k lens w x.best.now
    ∙ ap (λ (l : DlsConfig). with_damped s (Damped.advance
    (optimizer l (variables_from x.job.held.counts.now x.job.held.numbers.now) (operand_count_from x.job.held.counts.now)) s.damped e)) c.dls_config.ensures)

pub returns-in-2-clause-fact_1 : goal.returns-in-2-clause-fact_1
unfolding advance_by
returns-in-2-clause-fact_1 c = λ k lens w.
    let x = c.args in
    by_method _ _ _ (is-multi-start x.kind (settings_from x.job.held.counts.now x.job.held.numbers.now) c.in-2.is) (c.advance_trials.ensures.fact_1 k lens w)

pub returns-in_default-clause-fact_1 : goal.returns-in_default-clause-fact_1
unfolding advance_by
returns-in_default-clause-fact_1 c = λ k lens w.
    let x = c.args in
    by_method _ _ _ (is-annealing x.kind (settings_from x.job.held.counts.now x.job.held.numbers.now) (λ e. omega arith) (λ e. omega arith))
    (c.advance_annealing.ensures.fact_1 k lens w)
