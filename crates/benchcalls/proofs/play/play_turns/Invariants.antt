-- `benchcalls::play::play_turns`: as many turns are left, and together with those taken they are the play.
use Rattle.std.proofs.Common.{◌≡◌, ◌-◌}
use Rattle.benchcalls.specs.Play.{play_from}
use Rattle.benchcalls.proofs.play.play_turns.Given as goal

abbrev pub invariant-loop-taken : goal.invariant-loop-taken
invariant-loop-taken l =
    play_from l.place (l.count - l.taken) l.taken l.bench l.scratch ≡ play_from l.place l.count 0 l.fn.bench l.fn.scratch
