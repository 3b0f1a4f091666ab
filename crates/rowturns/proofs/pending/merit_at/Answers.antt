-- `rowturns::pending::merit_at` meets its contract. Assumes nothing.
use Prim.Native.Nat.{◌*◌}
use lib.ListN.{drop, replicate}
use Rattle.floats.specs.Constants.{zero64}
use Rattle.held.specs.JobFrom.{surface_count_from}
use Rattle.heldmerit.proofs.HeldOver.{merit-held}
use Rattle.rowturns.proofs.pending.merit_at.Goals as goal

pub returns : goal.returns
returns c = λ kind.
    let x = c.args in
    let laid =
    rw c.surface_count.ensures at
    c.lay_flat.ensures in
    merit-held _ _ _ c.merit_of.ensures kind x.lens (c.values_of-found.ensures kind x.lens (drop (4 * surface_count_from x.job.counts.now)
    (replicate 64 zero64)) laid)
