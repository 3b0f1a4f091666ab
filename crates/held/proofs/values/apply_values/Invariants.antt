-- `held::values::apply_values` meets its contract: the loop's invariant is `Applying`, of the surfaces that stand there. Assumes nothing.
use Prim.Native.Nat.{◌≤◌}
use mathlib.Core.Path.{◌≡◌}
use Rattle.variables.proofs.Applying.{Applying}
use Rattle.held.specs.JobFrom.{standing, variable_count_from, variables_from}
use Rattle.held.specs.Standing.{Behind}
use Rattle.held.proofs.values.apply_values.Given as goal

abbrev pub invariant-loop-i : goal.invariant-loop-i
invariant-loop-i l = Applying (variables_from l.job.held.counts.now l.job.held.numbers.now) l.values (standing l.initial.flat) (standing l.flat) l.q l.i
    × (l.count ≡ variable_count_from l.job.held.counts.now) × Behind l.initial.flat l.flat × (l.q ≤ l.i)
