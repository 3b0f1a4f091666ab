-- `helddamage::checks::lens_taken` meets its contract: the indices are as many as a prescription has. Assumes nothing.
use mathlib.Core.Path.{ap, ◌∙◌}
use native.Mathlib.Omega.{arith}
use lib.ListN.{length}
use Rattle.held.specs.EntryLaws.{indices-long}
use Rattle.helddamage.proofs.checks.lens_taken.Goals as goal

pub indices_taken-requires : goal.indices_taken-requires
indices_taken-requires c =
    let e = ap length c.indices.ensures ∙ indices-long
    c.args.job.numbers.now in
    (omega (arith, c.slot_count.ensures), omega (arith, e, c.surface_count-count.ensures))
