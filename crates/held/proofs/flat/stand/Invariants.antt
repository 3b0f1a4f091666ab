-- `held::flat::stand` meets its contract: the loop's invariant: the first i surfaces stand. Assumes nothing.
use mathlib.Core.Path.{◌≡◌}
use mathlib.Core.List.{◌++◌}
use lib.ListN.{drop}
use Rattle.lists.specs.Tab.{tab}
use Rattle.optics.specs.Types.{flat_surface}
use Rattle.held.proofs.flat.stand.Given as goal

abbrev pub invariant-loop-i : goal.invariant-loop-i
invariant-loop-i l = l.surfaces ≡ tab (flat_surface l.flat) l.i ++ drop l.i l.initial.surfaces
