-- `optics::rays::fill_rays`. The loop's invariant: the records before i are made, and the rest of the row stands.
use Rattle.std.proofs.Common.{◌≡◌, ◌++◌, drop}
use Rattle.optics.specs.Trace.{rays_of}
use Rattle.optics.proofs.rays.fill_rays.Given as goal

abbrev pub invariant-loop-i : goal.invariant-loop-i
invariant-loop-i l = l.rays ≡ rays_of l.heights l.slopes l.i ++ drop l.i l.initial.rays
