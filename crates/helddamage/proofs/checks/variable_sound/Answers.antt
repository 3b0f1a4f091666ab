-- `helddamage::checks::variable_sound` meets its contract. Assumes nothing.
use Rattle.std.proofs.Common.{Bool, ◌&&◌, ap, ◌∙◌, sym}
use Rattle.variables.specs.declared.types.VariableDef.{VariableDef}
use Rattle.variables.specs.Taken.{variable_taken, follower_taken}
use Rattle.jobs.specs.Entries.{variable_known}
use Rattle.held.specs.JobFrom.{variable_record_from}
use Rattle.helddamage.proofs.checks.variable_sound.Goals as goal

pub returns-then-variable_taken : goal.returns-then-variable_taken
returns-then-variable_taken c =
    let job = c.args.job in
    let taken = λ (d : VariableDef). variable_taken c.args.surfaces d && follower_taken c.args.surfaces d.var_type d.follower in
    c.variable_known.ensures job.numbers.now
    ∙ ap (λ (b : Bool). b && variable_known (variable_record_from job.counts.now job.numbers.now c.args.i))
    (sym c.if-variable_taken.true ∙ c.variable_taken.ensures ∙ ap taken c.variable_at.ensures)
