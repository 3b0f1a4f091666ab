-- Zero surfaces stand in zeros. Assumes nothing.
use mathlib.Core.Path.{◌≡◌, refl}
use lib.ListN.{replicate}
use Rattle.floats.specs.Constants.{zero64}
use Rattle.lists.specs.Tab.{tab}
use Rattle.runs.specs.Zeros.{zero_surfaces}
use Rattle.held.specs.JobFrom.{standing}

pub standing-zero : standing (replicate 64 zero64) ≡ zero_surfaces
unfolding standing tab
standing-zero = refl
