-- `exports::lenses::evaluate` meets its contract. Assumes nothing.
use mathlib.Core.Path.{sym, ap, ◌∙◌}
use Rattle.jobs.specs.declared.types.Job.{Job}
use Rattle.merit.specs.Calls.{evaluate_number, evaluated_as}
use Rattle.exports.proofs.LensLaws.{no-operands, operands}
use Rattle.exports.proofs.lenses.evaluate.Goals as goal

pub returns-then-not-are_operands : goal.returns-then-not-are_operands
returns-then-not-are_operands c = no-operands _ _ (sym c.are_operands.ensures ∙ c.if-not-are_operands.true)

pub returns : goal.returns
returns c =
    let old = c.args.evaluation.now in
    let same = operands c.args.held old (sym c.are_operands.ensures ∙ c.if-not-are_operands.false) in
    let job = c.job_of-job.ensures in (
      c.evaluate.ensures.0 ∙ ap (λ (j : Job). evaluate_number j.prescription j.merit_function) job ∙ same.0,
      c.evaluate.ensures.1 ∙ ap (λ (j : Job). evaluated_as old j.prescription j.merit_function) job ∙ same.1,
    )
