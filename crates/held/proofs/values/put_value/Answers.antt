-- `held::values::put_value` meets its contract. Assumes nothing.
use native.Mathlib.Omega.{arith}
use mathlib.Core.Path.{◌∙◌}
use Rattle.held.proofs.Stored.{put-stored, put-past}
use Rattle.held.proofs.values.put_value.Goals as goal

pub returns-then-i-lt16-clause-fact_1 : goal.returns-then-i-lt16-clause-fact_1
returns-then-i-lt16-clause-fact_1 c =
    c.put_surface.ensures.fact_1 ∙ put-stored _ _ _ _ _ _ (omega arith) c.surface_at-old.ensures c.with_value.ensures

pub returns-else-i-lt16-clause-fact_1 : goal.returns-else-i-lt16-clause-fact_1
returns-else-i-lt16-clause-fact_1 c = let a = c.args in put-past a.flat.now a.i a.kind a.x (omega arith)
