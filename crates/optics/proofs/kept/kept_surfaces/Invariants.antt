-- `optics::kept::kept_surfaces` meets its contract. The loop's invariant: the entries passed are zero. Assumes nothing.
use Rattle.lists.specs.Kept.{Clearing, below}
use Rattle.optics.specs.Types.{no_surface, zero_surface}
use Rattle.optics.proofs.kept.kept_surfaces.Given as goal

abbrev pub invariant-loop-i : goal.invariant-loop-i
invariant-loop-i l = Clearing (below l.count) zero_surface no_surface l.initial.kept l.kept l.i
