-- `replay::play::play` meets its contract: steps move the bench. Assumes nothing.
use Rattle.replay.specs.Moves.{stays, moves_then}
use Rattle.replay.proofs.play.play.Goals as goal

pub loop-init : goal.loop-init
loop-init c = stays c.args.bench.now

pub loop-preserved : goal.loop-preserved
loop-preserved c = moves_then c.loop.invariant c.step.ensures

pub returns-in_default : goal.returns-in_default
returns-in_default c = moves_then c.loop.invariant c.step.ensures
