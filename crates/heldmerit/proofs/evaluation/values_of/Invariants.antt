-- `heldmerit::evaluation::values_of` meets its contract: the loop's invariant: the values of the operands passed stand. Assumes nothing.
use mathlib.Core.Path.{◌≡◌}
use Prim.Native.Nat.{ℕ, ◌<◌}
use lib.ListN.{get_or}
use Rattle.optics.specs.Types.{slot_index}
use Rattle.held.specs.JobFrom.{surface_count_from, operand_count_from, pupil_from, indices_from, operands_from}
use Rattle.optics.specs.Properties.{paraxial_of}
use Rattle.optics.specs.Types.{flat_surface}
use Rattle.std.specs.Prelude.{None}
use Rattle.merit.specs.Evaluation.{value_at}
use Rattle.heldmerit.proofs.Over.{Standing}
use Rattle.heldmerit.proofs.evaluation.values_of.Given as goal

abbrev pub invariant-loop-n : goal.invariant-loop-n
invariant-loop-n l = Standing (value_at (flat_surface l.flat) (slot_index (indices_from l.job.numbers.now)) (pupil_from l.job.numbers.now)
    (surface_count_from l.job.counts.now) (operands_from l.job.counts.now l.job.numbers.now)) l.n l.values
    × (l.many ≡ operand_count_from l.job.counts.now) × (l.count ≡ surface_count_from l.job.counts.now)
    × ((w : ℕ) → w < 4 → get_or l.slots w None
    ≡ paraxial_of (flat_surface l.flat) (slot_index (indices_from l.job.numbers.now) w) (pupil_from l.job.numbers.now) (surface_count_from l.job.counts.now))
