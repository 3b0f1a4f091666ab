-- `meritcalls::calls::trace` meets its contract. Assumes nothing.
use mathlib.Core.Path.{sym, ◌∙◌}
use Rattle.std.proofs.lemmas.Result.{err_from_is_err_and}
use Rattle.merit.proofs.CallLaws.{traceable}
use Rattle.meritcalls.proofs.Answers.{trace-refused, trace-failed, trace-done}
use Rattle.meritcalls.proofs.calls.trace.Goals as goal

pub returns-in_err-trace_refusal : goal.returns-in_err-trace_refusal
returns-in_err-trace_refusal c =
    let p = err_from_is_err_and c.from_residual.result c.from_residual.ensures.1 in
    rw (p.1, p.2) (trace-refused _ _ _ _ c.in_err-trace_refusal.ensures)

pub returns-then-prescription-lt2 : goal.returns-then-prescription-lt2
returns-then-prescription-lt2 c = trace-failed _ _ _ (sym c.in_ok-trace_refusal.ensures) c.if-prescription-lt2.true

pub fill_trace-requires : goal.fill_trace-requires
fill_trace-requires c = traceable _ _ _ (sym c.in_ok-trace_refusal.ensures)

pub returns : goal.returns
returns c =
    let done = trace-done c.args.prescription c.args.slot c.args.rays.now (sym c.in_ok-trace_refusal.ensures) c.if-prescription-lt2.false in
    (done.0, c.fill_trace.ensures ∙ done.1)
