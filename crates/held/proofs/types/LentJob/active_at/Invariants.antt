-- `held::types::LentJob::active_at` meets its contract: the loop's invariant: p of the variables passed are enabled, and p is at most q. Assumes nothing.
use Prim.Native.Nat.{◌≤◌}
use mathlib.Core.Path.{◌≡◌}
use Rattle.variables.proofs.ActiveLaws.{enabled_count}
use Rattle.held.specs.JobFrom.{variable_count_from, variables_from}
use Rattle.held.proofs.types.LentJob.active_at.Given as goal

abbrev pub invariant-loop-i : goal.invariant-loop-i
invariant-loop-i l = (l.count ≡ variable_count_from l.self.counts.now)
    × (l.p ≡ enabled_count (variables_from l.self.counts.now l.self.numbers.now) l.i) × (l.p ≤ l.q)
