-- `jump::drawn` meets its contract: the words before the place reached are the stored ones. Assumes nothing.
use Rattle.jump.proofs.Words.{Right}
use Rattle.jump.proofs.drawn.Given as goal

abbrev pub invariant-loop-at : goal.invariant-loop-at
invariant-loop-at l = Right l.tables l.at
