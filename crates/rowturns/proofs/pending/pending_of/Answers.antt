-- `rowturns::pending::pending_of` meets its contract. Assumes nothing.
use mathlib.Core.Path.{◌≡◌, ◌∙◌}
use mathlib.Core.List.{List}
use Prim.Native.Nat.{ℕ}
use lib.Ieee.{Float}
use native.Mathlib.Omega.{arith}
use Rattle.normal.specs.Layout.{scratch_length}
use Rattle.jobs.specs.declared.types.Job.{Job}
use Rattle.jobs.specs.Passed.{passed}
use Rattle.runs.specs.Rows.{job_of_row, pending_by, pending_surfaces}
use Rattle.runs.specs.JobMerit.{evaluate_of}
use Rattle.held.specs.JobFrom.{held_job}
use Rattle.held.specs.RowFrom.{kind_from, state_from, row_from}
use Rattle.turns.proofs.Laid.{operands-known}
use Rattle.rows.specs.Calls.{turn_row_number}
use Rattle.rowturns.specs.Next.{next_of, pending_of}
use Rattle.rows.proofs.Refused.{turnable}
use Rattle.refusals.proofs.Laws.{value-refused, value-given}
use Rattle.std.proofs.lemmas.Result.{err_from_is_err_and}
use Rattle.rows.proofs.Undamaged.{job-taken, column-below}
use Rattle.std.proofs.Common.{rules}
use Rattle.rowturns.proofs.pending.pending_of.Goals as goal

pub returns-in_err-turn_refusal : goal.returns-in_err-turn_refusal
unfolding pending_of
returns-in_err-turn_refusal c =
    let r = row_from c.args.row.now in
    let p = err_from_is_err_and c.from_residual.result c.from_residual.ensures.1 in
    rw (p.1, p.2) (value-refused _ (turn_row_number scratch_length r) (next_of r) c.in_err-turn_refusal.ensures)

pub invariant_of-pending_surfaces : goal.invariant_of-pending_surfaces
invariant_of-pending_surfaces c =
    let r = row_from c.args.row.now in
    let t = turnable _ scratch_length r c.in_ok-turn_refusal.ensures (omega arith) in
    rw c.lent-job.ensures.counts (record { varied = (passed (job_of_row r) (job-taken r t.sound)).counted.variables })

pub pending_surfaces-requires : goal.pending_surfaces-requires
pending_surfaces-requires c =
    let r = row_from c.args.row.now in
    let t = turnable _ scratch_length r c.in_ok-turn_refusal.ensures (omega arith) in
    let e = c.lent-job.ensures in
    record { fact_1 = rw (c.numbers.ensures, e.counts, e.numbers) (column-below r t.sound); fact_2 = search rules }

pub stand-surfaces-requires : goal.stand-surfaces-requires
stand-surfaces-requires c = omega (arith, c.pending_surfaces.ensures.fact_2.long)

pub merit_at-requires : goal.merit_at-requires
merit_at-requires c =
    let r = row_from c.args.row.now in
    let t = turnable _ scratch_length r c.in_ok-turn_refusal.ensures (omega arith) in
    let n = (passed (job_of_row r) (job-taken r t.sound)).counted in
    let e = c.lent-job.ensures in
    rw (e.counts, e.numbers) (record { fact_1 = n.surfaces; fact_2 = n.operands; fact_3 = operands-known (job_of_row r) (job-taken r t.sound) })

pub returns : goal.returns
unfolding pending_of pending_surfaces
returns c =
    let h = c.args.row.now in
    let r = row_from h in
    let e = c.lent-job.ensures in
    let job : (counts : List ℕ) (numbers : List Float) (kind : ℕ) → Job = held_job in
    let pending : c.stand-surfaces.result ≡ pending_surfaces r =
    c.stand-surfaces.ensures ∙ c.pending_surfaces.ensures.fact_1 h.run h.best
    ∙ (λ i. pending_by (job (e.counts i) (e.numbers i) (c.kind-kind.ensures i)).method (job (e.counts i) (e.numbers i) (c.kind-kind.ensures i))
    (state_from (c.numbers.ensures i) h.run h.best)) in
    let merit = c.merit_at.ensures (kind_from h.head.words)
    ∙ (λ i. (evaluate_of (job (e.counts i) (e.numbers i) (kind_from h.head.words)) (pending i)).total_merit) in
    value-given (turn_row_number scratch_length r) (next_of r) _ c.in_ok-turn_refusal.ensures (λ i. record { surfaces = pending i; merit = merit i })
