-- `rows::began::fresh` meets its contract. Assumes nothing.
use Rattle.rows.proofs.began.fresh.Goals as goal

pub returns : goal.returns
returns c = simp c.zero_result-best.ensures
