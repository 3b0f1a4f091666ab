-- `meritcalls::operands::total_track` meets its contract. Assumes nothing.
use mathlib.Core.Path.{◌≡◌}
use Rattle.optics.specs.Laid.{laid_surface}
use Rattle.merit.specs.Operands.{track}
use Rattle.meritcalls.proofs.operands.total_track.Given as goal

abbrev pub invariant-loop-k : goal.invariant-loop-k
invariant-loop-k l = l.sum ≡ track (laid_surface l.surfaces) l.k
