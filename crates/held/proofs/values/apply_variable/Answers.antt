-- `held::values::apply_variable` meets its contract. Assumes nothing.
use mathlib.Core.Path.{refl, ◌∙◌}
use Rattle.variables.specs.Kinds.{put_at, followed}
use Rattle.held.specs.JobFrom.{standing}
use Rattle.held.proofs.Stored.{further}
use Rattle.held.proofs.values.apply_variable.Goals as goal

pub returns : goal.returns
returns c =
    let a = c.args in
    let kind = a.d.var_type in
    let first = c.put_value.ensures.fact_1 ∙ (λ i. put_at (standing a.flat.now) (c.surface_index.ensures i) kind (c.apply_clamp-x.ensures i)) in record {
      fact_1 = c.follow.ensures.fact_1 ∙ (λ i. followed (first i) kind a.d.follower (c.apply_clamp-x.ensures i));
      fact_2 = further c.put_value.ensures.fact_2 c.follow.ensures.fact_2 refl;
    }
