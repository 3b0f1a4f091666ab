-- `lending::evaluate_over` meets its contract: what was lent is what is answered. Assumes nothing.
use Rattle.lending.proofs.evaluate_over.Goals as goal

pub returns-clause-evaluation : goal.returns-clause-evaluation
returns-clause-evaluation c = c.evaluate-answer.ensures.1
