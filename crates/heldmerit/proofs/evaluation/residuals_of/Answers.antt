-- `heldmerit::evaluation::residuals_of` meets its contract: the loop's invariant: the residuals of the values passed stand. Assumes nothing.
use mathlib.Core.Path.{◌≡◌, refl, sym, ap, ◌∙◌}
use native.Mathlib.Omega.{arith}
use lib.Ieee.{nan}
use lib.ListN.{get_or}
use Rattle.merit.specs.declared.types.MeritOperand.{MeritOperand}
use Rattle.held.specs.JobFrom.{operand_count_from, operands_from}
use Rattle.floatlaws.specs.CallerLaws.{root-one}
use Rattle.lists.specs.Tab.{tab, tab-step}
use Rattle.merit.specs.Evaluation.{residual}
use Rattle.meritcalls.proofs.Evaluating.{residual-is}
use Rattle.heldmerit.specs.HeldOver.{residuals_over}
use Rattle.heldmerit.specs.Over.{residual_over}
use Rattle.heldmerit.proofs.Over.{all-stand}
use Rattle.heldmerit.proofs.evaluation.residuals_of.Goals as goal

pub loop-n-init : goal.loop-n-init
unfolding tab
loop-n-init c = (c.operand_count-many.ensures, refl, sym root-one)

pub loop-n-preserved : goal.loop-n-preserved
loop-n-preserved c =
    let x = c.args in
    let f = operands_from x.job.counts.now x.job.numbers.now in
    let v = get_or x.values.now c.loop-n.n nan in
    let is = c.operand_at-o.ensures in (
      c.loop-n.invariant.0,
      tab-step (residual_over f x.values.now) _ c.loop-n.residuals
          c.loop-n.n _ nan c.loop-n.invariant.1
          (residual-is c.operand_at-o.result refl c.difference_of-d.ensures c.root_of-known.ensures.0
          ∙ ap (λ (o : MeritOperand). residual o v) is) (omega arith),
      c.root_of-known.ensures.1,
    )

pub returns : goal.returns
unfolding residuals_over
returns c =
    let x = c.args in
    let f = operands_from x.job.counts.now x.job.numbers.now in
    let m : c.loop-n.n ≡ operand_count_from x.job.counts.now = omega (arith, c.loop-n.invariant.0) in
    all-stand (residual_over f x.values.now) (operand_count_from x.job.counts.now) c.loop-n.n c.loop-n.residuals c.loop-n.invariant.1
    m
