-- `rows::zeros::zero_surfaces` meets its contract. Assumes nothing.
use Rattle.rows.proofs.zeros.zero_surfaces.Goals as goal

pub returns : goal.returns
returns c = simp c.zero_surface-zero.ensures
