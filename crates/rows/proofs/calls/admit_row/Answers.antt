-- `rows::calls::admit_row` meets its contract. Assumes nothing.
use Rattle.runs.specs.Rows as Rows
use mathlib.Core.Path.{ap, ◌∙◌}
use mathlib.Core.Bool.{not}
use native.Mathlib.Omega.{arith}
use Prim.Native.Nat.{ℕ}
use lib.Dec.{eqb}
use Rattle.std.proofs.lemmas.Result.{err_from_is_err_and}
use Rattle.lists.specs.Refusals.{first_refusal}
use Rattle.jobs.specs.declared.types.JobRecord.{JobRecord}
use Rattle.jobs.specs.Kept.{job_from}
use Rattle.jobs.specs.Records.{kind_of}
use Rattle.runs.specs.State.{row_of}
use Rattle.held.specs.Written.{held_from}
use Rattle.bench.specs.Refusals.{admit_refusals}
use Rattle.rows.specs.Calls.{admit_row_number, admitted_row}
use Rattle.rows.proofs.Refused.{kept_by, made_by, above-zero}
use Rattle.rows.proofs.calls.admit_row.Goals as goal

pub returns-in_err-admit_refusal : goal.returns-in_err-admit_refusal
unfolding admit_row_number admitted_row
returns-in_err-admit_refusal c =
    let x = c.args in
    let p = err_from_is_err_and c.from_residual.result c.from_residual.ensures.1 in
    let e = c.in_err-admit_refusal.ensures ∙ ap (λ (k : ℕ). first_refusal (admit_refusals x.place x.request (not (eqb k 0)))) c.kind.ensures in
    rw (p.1, p.2) (e, kept_by _ _ e (held_from (Rows.admitted (job_from x.request))) x.row.now (above-zero _))

pub returns : goal.returns
unfolding admit_row_number admitted_row Rows.admitted
returns c =
    let x = c.args in
    let e = c.in_ok-admit_refusal.ensures ∙ ap (λ (k : ℕ). first_refusal (admit_refusals x.place x.request (not (eqb k 0)))) c.kind.ensures in
    let job = c.job_from-job.result in
    let row =
    c.began.ensures ∙ ap (λ (held : JobRecord). row_of held (kind_of job) 0 (Rows.began job.method job)) c.from.ensures
    ∙ ap Rows.admitted c.job_from-job.ensures in
    let held = c.held_of.ensures ∙ ap held_from row in
    (e, held ∙ made_by _ _ e (held_from (Rows.admitted (job_from x.request))) x.row.now (omega arith))
