-- `draws::params::draw_each` meets its contract: the loop's invariant is `Drawing`. Assumes nothing.
use Rattle.std.proofs.Common.{◌≡◌, ℕ, ◌≤◌, Float, get_or}
use Rattle.std.specs.Float.{nan}
use Rattle.variables.specs.declared.types.VariableDef.{VariableDef}
use Rattle.held.specs.JobFrom.{variable_count_from}
use Rattle.held.specs.JobOf.{variables_of}
use Rattle.draws.proofs.Drawing.{Drawing}
use Rattle.draws.proofs.params.draw_each.Given as goal

abbrev pub invariant-loop-i : goal.invariant-loop-i
invariant-loop-i g l = Drawing (variables_of l.job.held)
    (λ (d : VariableDef) (k : ℕ) (unit : Float). g.R.Rule.rule unit (get_or l.start k nan) d) l.initial.rng l.initial.x l.x l.rng l.q l.i
    × (l.count ≡ variable_count_from l.job.held.counts.now) × (l.q ≤ l.i)
