-- `rows::results::result_from` meets its contract. Assumes nothing.
use Rattle.rows.proofs.results.result_from.Goals as goal

pub returns : goal.returns
returns c = simp c.stand-standing.ensures
