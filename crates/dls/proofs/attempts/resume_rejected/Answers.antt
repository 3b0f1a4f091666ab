-- `dls::attempts::resume_rejected` meets its contract: the normal equations stand through the attempts. Assumes nothing.
use Rattle.dls.proofs.Kept.{kept-equations, kept_on}
use Rattle.dls.proofs.attempts.resume_rejected.Goals as goal

pub returns-clause-fact_2 : goal.returns-clause-fact_2
returns-clause-fact_2 c =
    kept_on (kept-equations c.normal_equations-norm.ensures) c.resume_attempts.ensures.kept
