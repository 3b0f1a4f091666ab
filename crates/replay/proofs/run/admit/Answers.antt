-- `replay::run::admit` meets its contract: two calls move the bench. Assumes nothing.
use Rattle.bench.specs.Book.{release, admit}
use Rattle.bench.specs.Calls.{bench_step}
use Rattle.replay.specs.Moves.{moves_then, moves_by}
use Rattle.replay.proofs.run.admit.Goals as goal

pub returns : goal.returns
unfolding bench_step
returns c =
    let a = c.args in
    moves_then (moves_by (release a.place) c.release.ensures.1) (moves_by (admit a.place a.request) c.admit.ensures.1)
