-- `jump::jump` meets its contract: from the state reached, the draws of the bits that are left come to the end. Assumes nothing.
use Rattle.jump.proofs.Turns.{Going}
use Rattle.jump.proofs.jump.Given as goal

abbrev pub invariant-loop-k : goal.invariant-loop-k
invariant-loop-k l = Going l.state l.n l.x l.left l.k
