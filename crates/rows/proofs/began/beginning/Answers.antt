-- `rows::began::beginning` meets its contract. Assumes nothing.
use Rattle.rows.proofs.began.beginning.Goals as goal

pub returns : goal.returns
returns c = simp c.zero_evaluation-evaluation.ensures
