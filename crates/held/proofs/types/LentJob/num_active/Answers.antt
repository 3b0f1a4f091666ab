-- `held::types::LentJob::num_active` meets its contract: the loop's invariant: p of the variables passed are enabled. Assumes nothing.
use mathlib.Core.Path.{refl, sym, ap, ◌∙◌}
use native.Mathlib.Omega.{arith}
use Rattle.variables.specs.Active.{enabled_of}
use Rattle.variables.proofs.ActiveLaws.{count-le, count-more, count_past}
use Rattle.variables.specs.declared.types.VariableDef.{VariableDef}
use Rattle.held.specs.JobFrom.{variables_from}
use Rattle.held.proofs.types.LentJob.num_active.Goals as goal
use Rattle.held.proofs.types.LentJob.num_active.Goals.{then-d, else-d}

pub loop-i-init : goal.loop-i-init
unfolding enabled_of
loop-i-init c = (c.variable_count-count.ensures, refl)

pub overflow_add-p : goal.overflow_add-p
overflow_add-p c = let x = c.args in
    omega (arith, c.loop-i.invariant.0, count-le (variables_from x.self.counts.now x.self.numbers.now) c.loop-i.i)

pub loop-i-preserved : goal.loop-i-preserved
loop-i-preserved c =
    let x = c.args in
    let v = variables_from x.self.counts.now x.self.numbers.now in
    let e = ap (λ (d : VariableDef). d.enabled) c.variable_at-d.ensures in
    elim c.if-d.branch [
      | then-d w ↦ (
        c.loop-i.invariant.0,
        omega (arith, w.p-is, c.loop-i.invariant.1, count-more v c.loop-i.i (sym e ∙ w.if-d.true)),
      )
      | else-d w ↦ (
        c.loop-i.invariant.0,
        omega (arith, w.p-is, c.loop-i.invariant.1, count_past v c.loop-i.i (sym e ∙ w.if-d.false)),
      )
    ]
