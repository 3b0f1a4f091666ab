-- `dls::accepting::moved` meets its contract: the calls one after the other. Assumes nothing.
use mathlib.Core.Path.{sym}
use Rattle.runs.specs.DampedRun.{test_presc}
use Rattle.heldmerit.proofs.HeldOver.{residuals-held}
use Rattle.dls.proofs.accepting.moved.Goals as goal

pub returns : goal.returns
unfolding test_presc
returns c =
    λ k lens w em config m. simp (
      c.apply_values.ensures.fact_1,
      c.ease.ensures,
      residuals-held _ _ _ c.residuals_of-run.ensures k lens w,
      w,
      sym em,
    )
