-- `draws::params::draw_each` meets its contract: the loop's invariant is `Drawing`. Assumes nothing.
use Rattle.std.proofs.Common.{ℕ, ◌<◌, ◌≤◌, get_or, refl, sym, ap, ◌∙◌, arith, rules}
use Rattle.std.specs.Float.{nan}
use Rattle.variables.specs.declared.types.VariableDef.{VariableDef}
use Rattle.held.specs.JobFrom.{variable_count_from}
use Rattle.held.specs.JobOf.{variables_of}
use Rattle.draws.proofs.Drawing.{draw-more, draw-past, drawn-params, drawn-generator}
use Rattle.draws.proofs.params.draw_each.Goals as goal
use Rattle.draws.proofs.params.draw_each.Goals.{then-d, else-d}

pub loop-i-preserved : goal.loop-i-preserved
loop-i-preserved g c =
    let x = c.args in
    let e = ap (λ (d : VariableDef). d.enabled) c.variable_at-d.ensures in
    let h : c.loop-i.i < variable_count_from x.job.held.counts.now = omega (arith, c.loop-i-test.true, c.loop-i.invariant.1) in
    elim c.if-d.branch [
      | then-d w ↦ (
        draw-more {v = variables_of x.job.held} c.loop-i.invariant.0 _ _ _ _ _ (search rules) x.job.varied h (sym e ∙ w.if-d.true) w.drawn-draw.ensures
            (w.value.ensures ∙ ap (g.R.Rule.rule w.drawn-draw.result.unit (get_or x.start c.loop-i.q nan)) c.variable_at-d.ensures) w.x-is w.rng-is w.q-is,
        c.loop-i.invariant.1,
        omega (arith, c.loop-i.invariant.2, w.q-is),
      )
      | else-d w ↦ (
        draw-past {v = variables_of x.job.held} c.loop-i.invariant.0 _ _ _ h (sym e ∙ w.if-d.false) w.x-is w.rng-is w.q-is,
        c.loop-i.invariant.1,
        omega (arith, c.loop-i.invariant.2, w.q-is),
      )
    ]

pub returns : goal.returns
returns g c =
    let x = c.args in
    let h : variable_count_from x.job.held.counts.now ≤ c.loop-i.i = omega (arith, c.loop-i-test.false, c.loop-i.invariant.1) in (
      drawn-params {v = variables_of x.job.held} c.loop-i.invariant.0 (λ (k : ℕ). get_or x.start k nan) (search rules) x.job.varied h (λ k h. refl),
      drawn-generator {v = variables_of x.job.held} c.loop-i.invariant.0 h,
    )
