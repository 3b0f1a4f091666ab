-- `rows::results::result_of` meets its contract: by kind. Assumes nothing.
use Rattle.runs.specs.DampedRow as Damped
use mathlib.Core.Path.{refl, sym, subst, ap, ◌∙◌}
use Rattle.jobs.specs.declared.types.Method.{Method}
use Rattle.jobs.specs.Records.{annealing_config}
use Rattle.runs.specs.AnnealingRun.{with_prior}
use Rattle.runs.specs.JobRun.{annealer_of}
use Rattle.runs.specs.Rows.{job_of_row, result_by, result_of}
use Rattle.runs.specs.State.{state_of}
use Rattle.kinds.specs.Limits.{CountsWithin}
use Rattle.held.specs.JobFrom.{settings_from}
use Rattle.held.specs.RowFrom.{kind_from, damped_from, result_from, row_from}
use Rattle.held.specs.declared.types.RowHead.{RowHead}
use Rattle.kinds.specs.Methods.{is-damped, is-multi-start, is-annealing}
use native.Mathlib.Omega.{arith}
use Rattle.rows.proofs.results.result_of.Goals as goal

pub returns-in-1 : goal.returns-in-1
unfolding result_of result_by
returns-in-1 c =
    let x = c.args.row.now in
    let r = row_from x in
    c.damped_result.ensures
    ∙ ap (λ (h : RowHead). Damped.result_of (damped_from h.damped x.run)) c.numbers-h.ensures
    ∙ ap (λ (m : Method). result_by m (job_of_row r) (state_of r))
    (sym (is-damped (kind_from x.head.words) (settings_from x.job.counts x.job.numbers)
    (sym c.kind.ensures ∙ c.in-1.is)))

pub returns-in-2 : goal.returns-in-2
unfolding result_of result_by
returns-in-2 c =
    let x = c.args.row.now in
    let r = row_from x in
    c.best_result.ensures
    ∙ ap (λ (h : RowHead). result_from h.best x.best)
    c.numbers-h.ensures
    ∙ ap (λ (m : Method). result_by m (job_of_row r) (state_of r))
    (sym (is-multi-start (kind_from x.head.words) (settings_from x.job.counts x.job.numbers)
    (sym c.kind.ensures ∙ c.in-2.is)))

pub polished-requires : goal.polished-requires
polished-requires c =
    let x = c.args.row.now in
    let pre = c.requires in
    let m = is-annealing (kind_from x.head.words) (settings_from x.job.counts x.job.numbers) (λ z. omega (arith, c.kind.ensures))
    (λ z. omega (arith, c.kind.ensures)) in
    let within = subst CountsWithin m pre.0 in
    (within.0, within.1, rw c.numbers-h.ensures pre.1)

pub returns-in_default : goal.returns-in_default
unfolding result_of result_by
returns-in_default c =
    let x = c.args.row.now in
    let r = row_from x in
    let s = settings_from x.job.counts x.job.numbers in
    let a = annealer_of (job_of_row r) (annealing_config s) in
    c.polished.ensures a refl
    ∙ ap (λ (h : RowHead). with_prior a h.best.initial_merit
    (Damped.result_of (damped_from h.damped x.run)))
    c.numbers-h.ensures
    ∙ ap (λ (m : Method). result_by m (job_of_row r) (state_of r))
    (sym (is-annealing (kind_from x.head.words) s (λ z. omega (arith, c.kind.ensures))
    (λ z. omega (arith, c.kind.ensures))))
