-- `replay::evaluate::answer` meets its contract: the rest comes behind the head. Assumes nothing.
use Rattle.replay.proofs.Tells.{tells_behind}
use Rattle.replay.proofs.evaluate.answer.Goals as goal

pub returns-clause-ok : goal.returns-clause-ok
returns-clause-ok c = tells_behind c.put_head.ensures c.put_evaluated.ensures
