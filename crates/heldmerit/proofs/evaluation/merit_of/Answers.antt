-- `heldmerit::evaluation::merit_of` meets its contract: the loop's invariant: the terms of the values passed are added. Assumes nothing.
use mathlib.Core.Path.{◌≡◌, refl, ap, ◌∙◌}
use native.Mathlib.Omega.{arith}
use lib.Ieee.{nan}
use lib.ListN.{get_or}
use Rattle.merit.specs.declared.types.MeritOperand.{MeritOperand}
use Rattle.held.specs.JobFrom.{operand_count_from, operands_from}
use Rattle.merit.specs.Evaluation.{term, counted_total}
use Rattle.meritcalls.proofs.Evaluating.{term_is}
use Rattle.heldmerit.specs.HeldOver.{merit_over}
use Rattle.heldmerit.specs.Over.{terms_over}
use Rattle.heldmerit.proofs.Over.{terms-more}
use Rattle.heldmerit.proofs.evaluation.merit_of.Goals as goal

pub loop-n-init : goal.loop-n-init
unfolding terms_over
loop-n-init c = (c.operand_count-many.ensures, refl)

pub loop-n-preserved : goal.loop-n-preserved
loop-n-preserved c =
    let x = c.args in
    let f = operands_from x.job.counts.now x.job.numbers.now in
    let v = get_or x.values.now c.loop-n.n nan in
    let is = c.operand_at-o.ensures in (
      c.loop-n.invariant.0,
      terms-more f x.values.now c.loop-n.n _ _ c.loop-n.invariant.1
          (term_is c.operand_at-o.result refl c.difference_of-d.ensures ∙ ap (λ (o : MeritOperand). term o v) is),
    )

pub returns : goal.returns
unfolding merit_over
returns c =
    let x = c.args in
    let f = operands_from x.job.counts.now x.job.numbers.now in
    let m : c.loop-n.n ≡ operand_count_from x.job.counts.now = omega (arith, c.loop-n.invariant.0) in
    c.counted_total.ensures ∙ ap counted_total (c.loop-n.invariant.1 ∙ ap (terms_over f x.values.now) m)
