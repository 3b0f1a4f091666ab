-- `replay::play::step` meets its contract: turns move the bench. Assumes nothing.
use Rattle.std.proofs.Common.{length}
use Rattle.bench.specs.Book.{turn}
use Rattle.bench.specs.Calls.{bench_step}
use Rattle.replay.specs.Moves.{stays, moves_then, moves_by}
use Rattle.replay.proofs.play.step.Goals as goal

pub returns-in_err-hash : goal.returns-in_err-hash
returns-in_err-hash c = stays c.args.bench.now

pub returns-then-turn-gt0 : goal.returns-then-turn-gt0
unfolding bench_step
returns-then-turn-gt0 c = moves_by (turn c.args.place 128) c.turn.ensures.1

pub returns : goal.returns
unfolding bench_step
returns c = moves_then (moves_by (turn c.args.place 128) c.turn.ensures.1) (moves_by (turn c.other_place.result (length c.turn.new.scratch)) c.turn-2.ensures.1)
