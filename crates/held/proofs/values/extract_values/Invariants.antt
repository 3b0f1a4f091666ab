-- `held::values::extract_values` meets its contract: the loop's invariant is `Filling`. Assumes nothing.
use Prim.Native.Nat.{ℕ, ◌≤◌}
use mathlib.Core.Path.{◌≡◌}
use Rattle.variables.specs.declared.types.VariableDef.{VariableDef}
use Rattle.held.specs.JobFrom.{variable_count_from, variables_from}
use Rattle.variables.proofs.Filling.{Filling}
use Rattle.variables.specs.Kinds.{value_of}
use Rattle.held.specs.JobFrom.{standing}
use Rattle.held.proofs.values.extract_values.Given as goal

abbrev pub invariant-loop-i : goal.invariant-loop-i
invariant-loop-i l = Filling (variables_from l.job.held.counts.now l.job.held.numbers.now) (λ (d : VariableDef) (k : ℕ). value_of (standing l.flat) d.var_type)
    l.initial.x l.x l.q l.i
    × (l.count ≡ variable_count_from l.job.held.counts.now) × (l.q ≤ l.i)
