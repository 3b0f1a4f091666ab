-- `meritcalls::calls::evaluate` meets its contract. Assumes nothing.
use mathlib.Core.Path.{sym}
use Rattle.merit.proofs.CallLaws.{evaluable}
use Rattle.meritcalls.proofs.calls.evaluate.Goals as goal

pub lens_evaluation-requires : goal.lens_evaluation-requires
lens_evaluation-requires c = evaluable _ _ (sym c.in_ok-evaluation_refusal.ensures)
