-- `intervalcalls::calls::limits_traced` meets its contract. Assumes nothing.
use mathlib.Core.Path.{sym}
use Rattle.std.proofs.lemmas.Result.{err_from_is_err_and}
use Rattle.merit.proofs.CallLaws.{traceable}
use Rattle.intervalcalls.proofs.Answers.{by-trace, by-limits}
use Rattle.intervalcalls.proofs.calls.limits_traced.Goals as goal

pub returns-in_err-trace_refusal : goal.returns-in_err-trace_refusal
returns-in_err-trace_refusal c =
    let p = err_from_is_err_and c.from_residual.result c.from_residual.ensures.1 in
    rw (p.1, p.2) (by-trace _ _ _ _ c.in_err-trace_refusal.ensures)

pub limits_of-requires : goal.limits_of-requires
limits_of-requires c =
    let ok = traceable _ _ _ (sym c.in_ok-trace_refusal.ensures) in
    (ok.surfaces, ok.below)

pub returns : goal.returns
returns c = rw c.ok_or.ensures.value (by-limits _ _ _ c.in_ok-trace_refusal.ensures _ c.limits_of.ensures)
