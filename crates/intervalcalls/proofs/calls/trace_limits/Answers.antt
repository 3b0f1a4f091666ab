-- `intervalcalls::calls::trace_limits` meets its contract. Assumes nothing.
use Rattle.std.proofs.lemmas.Result.{err_from_is_err_and}
use Rattle.intervalcalls.proofs.Answers.{limits-kept, limits-stored}
use Rattle.intervalcalls.proofs.calls.trace_limits.Goals as goal

pub returns-in_err-traced : goal.returns-in_err-traced
returns-in_err-traced c =
    let p = err_from_is_err_and c.from_residual.result c.from_residual.ensures.1 in
    rw (p.1, p.2) (limits-kept _ _ _ _ _ c.in_err-traced.ensures)

pub returns : goal.returns
returns c = limits-stored _ _ _ _ _ c.in_ok-traced.ensures
