-- `rows::zeros::zero_result` meets its contract. Assumes nothing.
use Rattle.rows.proofs.zeros.zero_result.Goals as goal

pub returns : goal.returns
returns c = simp c.zero_surfaces-surfaces.ensures
