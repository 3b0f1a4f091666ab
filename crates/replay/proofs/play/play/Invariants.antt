-- `replay::play::play` meets its contract: steps move the bench. Assumes nothing.
use Rattle.replay.specs.Moves.{Moves}
use Rattle.replay.proofs.play.play.Given as goal

abbrev pub invariant-loop : goal.invariant-loop
invariant-loop l = Moves l.fn.bench l.bench
