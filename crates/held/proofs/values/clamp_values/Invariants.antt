-- `held::values::clamp_values` meets its contract: the loop's invariant is `Filling`. Assumes nothing.
use Prim.Native.Nat.{ℕ, ◌≤◌}
use mathlib.Core.Path.{◌≡◌}
use Rattle.variables.specs.declared.types.VariableDef.{VariableDef}
use Rattle.held.specs.JobFrom.{variable_count_from, variables_from}
use Rattle.variables.proofs.Filling.{Filling}
use lib.ListN.{get_or}
use lib.Ieee.{nan}
use Rattle.floats.specs.Basic.{clamp_of}
use Rattle.held.proofs.values.clamp_values.Given as goal

abbrev pub invariant-loop-i : goal.invariant-loop-i
invariant-loop-i l = Filling (variables_from l.job.held.counts.now l.job.held.numbers.now)
    (λ (d : VariableDef) (k : ℕ). clamp_of (get_or l.values k nan) d.min_value d.max_value) l.initial.x l.x l.q l.i
    × (l.count ≡ variable_count_from l.job.held.counts.now) × (l.q ≤ l.i)
