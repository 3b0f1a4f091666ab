-- `dls::attempts::resume_stationary` meets its contract: the norm decides; the normal equations stand through the attempts. Assumes nothing.
use Rattle.held.specs.RowFrom.{damped_from}
use Rattle.dls.proofs.Kept.{kept-equations, kept_on}
use mathlib.Core.Path.{refl}
use Rattle.dls.proofs.Trying.{stationary-over, stationary-on}
use Rattle.dls.proofs.attempts.resume_stationary.Goals as goal

pub returns-then-is_stationary : goal.returns-then-is_stationary
returns-then-is_stationary c =
    let e = rw c.operand_count-m.ensures at c.normal_equations-norm.ensures in
    record {
      fact_1 = stationary-over c.args.config _ _ (damped_from c.args.h c.args.run.now)
          c.num_active-p.ensures e c.is_stationary.ensures c.if-is_stationary.true c.ended.ensures;
      fact_2 = kept-equations e;
    }

pub returns : goal.returns
returns c =
    let e = rw c.operand_count-m.ensures at c.normal_equations-norm.ensures in
    let a = c.resume_attempts.ensures in
    record {
      fact_1 = stationary-on c.args.config _ _ _
          c.num_active-p.ensures e c.is_stationary.ensures c.if-is_stationary.false refl a;
      fact_2 = kept_on (kept-equations e) a.kept;
    }
