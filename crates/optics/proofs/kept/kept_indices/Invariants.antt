-- `optics::kept::kept_indices` meets its contract. The loop's invariant: of the entries passed those not in use are zero. Assumes nothing.
use lib.Ieee.{nan}
use Rattle.floats.specs.Constants.{zero64}
use Rattle.lists.specs.Kept.{Clearing}
use Rattle.optics.specs.Kept.{index_used}
use Rattle.optics.proofs.kept.kept_indices.Given as goal

abbrev pub invariant-loop-k : goal.invariant-loop-k
invariant-loop-k l = Clearing (index_used l.count l.slots) zero64 nan l.initial.index-items l.index-items l.k
