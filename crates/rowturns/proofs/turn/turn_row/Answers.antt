-- `rowturns::turn::turn_row` meets its contract: a refused turn leaves all, any other is the row's. Assumes nothing.
use Prim.Native.Nat.{ℕ, ◌+◌}
use mathlib.Core.Path.{ap, ◌∙◌}
use mathlib.Core.List.{◌++◌}
use native.Mathlib.Numerals.{add-one}
use native.Mathlib.Omega.{arith}
use lib.ListN.{length, replicate}
use Rattle.floats.specs.Constants.{zero64}
use Rattle.normal.specs.Layout.{scratch_length}
use Rattle.jobs.specs.Checks.{job_taken}
use Rattle.runs.specs.State.{State, row_of}
use Rattle.runs.specs.Rows.{advance, pending_surfaces}
use Rattle.runs.specs.Cleared.{cleared}
use Rattle.runs.specs.Turn as Turn
use Rattle.held.specs.JobFrom.{job_record_from, held_job}
use Rattle.held.specs.RowFrom.{row_from, turns_from, state_from}
use Rattle.turns.specs.Turned.{turned_by}
use Rattle.rows.specs.Calls.{turn_row_number, turned_row, scratch_of}
use Rattle.rows.proofs.Refused.{kept_by, made_by, above-zero, turnable}
use Rattle.rows.proofs.Undamaged.{job-taken, column-below, turns-below}
use Rattle.std.proofs.lemmas.Result.{err_from_is_err_and}
use Rattle.rowturns.proofs.turn.turn_row.Goals as goal

pub returns-in_err-turn_refusal : goal.returns-in_err-turn_refusal
unfolding turned_row scratch_of
returns-in_err-turn_refusal c =
    let r = row_from c.args.row.now in
    let l = c.args.scratch.now in
    let e = c.in_err-turn_refusal.ensures in
    let n = turn_row_number (length l) r in
    let p = err_from_is_err_and c.from_residual.result c.from_residual.ensures.1 in
    rw (p.1, p.2) (e, kept_by _ n e (Turn.turned r) r (above-zero _), kept_by _ n e (cleared l) l (above-zero _))

pub overflow_add-turns : goal.overflow_add-turns
overflow_add-turns c =
    let r = row_from c.args.row.now in
    let t = turnable _ (length c.args.scratch.now) r c.in_ok-turn_refusal.ensures (omega arith) in
    omega (arith, c.turns-turns.ensures, turns-below r t.sound t.going)

pub turned-next-requires : goal.turned-next-requires
turned-next-requires c =
    let x = c.args in
    let r = row_from x.row.now in
    let e = c.lent.ensures in
    let t = turnable _ (length x.scratch.now) r c.in_ok-turn_refusal.ensures (omega arith) in
    record {
      fact_1 = t.long;
      fact_2 = (λ i. job_taken (held_job (e.counts i) (e.numbers i) (c.kind-kind.ensures i))) ∙ job-taken r t.sound;
      fact_3 = rw (c.numbers.ensures, e.counts, e.numbers) (column-below r t.sound);
    }

pub zero_first-requires : goal.zero_first-requires
zero_first-requires c =
    let t = turnable _ (length c.args.scratch.now) (row_from c.args.row.now) c.in_ok-turn_refusal.ensures (omega arith) in
    omega (arith, t.long, c.turned-next.ensures.fact_2.long)

pub returns : goal.returns
unfolding turned_row scratch_of Turn.turned advance pending_surfaces
returns c =
    let h = c.args.row.now in
    let r = row_from h in
    let l = c.args.scratch.now in
    let e = c.in_ok-turn_refusal.ensures in
    let n = turn_row_number (length l) r in
    let j = job_record_from h.job.counts h.job.numbers in
    let t = c.turned-next.ensures in (
      e,
      rw c.of-row.ensures
          (ap (λ (s : State). row_of j c.kind-kind.result (c.turns-turns.result + 1) s) t.fact_1
          ∙ (λ i. row_of j (c.kind-kind.ensures i)
          ((ap (λ (m : ℕ). m + 1) c.turns-turns.ensures ∙ add-one (turns_from h.head.words)) i)
          (turned_by (held_job (c.lent.ensures.counts i) (c.lent.ensures.numbers i) (c.kind-kind.ensures i)) (state_from (c.numbers.ensures i) h.run h.best)))
          ∙ made_by _ n e (Turn.turned r) r (omega arith)),
      c.zero_first.ensures ∙ (λ i. replicate scratch_length zero64 ++ t.fact_2.rest i) ∙ made_by _ n e (cleared l) l (omega arith),
    )
