-- `held::values::clamp_values` meets its contract: the loop's invariant is `Filling`. Assumes nothing.
use Prim.Native.Nat.{ℕ, ◌<◌}
use mathlib.Core.Path.{refl, sym, ap, ◌∙◌}
use native.Mathlib.Omega.{arith}
use Rattle.variables.specs.declared.types.VariableDef.{VariableDef}
use Rattle.variables.specs.Active.{enabled_of}
use Rattle.held.specs.JobFrom.{variable_count_from, variables_from}
use Rattle.lists.specs.Tab.{tab}
use Rattle.variables.proofs.Filling.{fill_more, fill-past, fill_end}
use lib.ListN.{get_or}
use lib.Ieee.{nan}
use Rattle.floats.specs.Basic.{clamp_of}
use Rattle.variables.specs.Values.{clamped_values}
use Rattle.std.proofs.Common.{rules}
use Rattle.held.proofs.values.clamp_values.Goals as goal
use Rattle.held.proofs.values.clamp_values.Goals.{then-d, else-d}

pub loop-i-init : goal.loop-i-init
unfolding enabled_of tab
loop-i-init c = (record { passed = omega arith; counted = refl; stored = refl }, c.variable_count-count.ensures, omega arith)

pub loop-i-preserved : goal.loop-i-preserved
loop-i-preserved c =
    let x = c.args in
    let v = variables_from x.job.held.counts.now x.job.held.numbers.now in
    let e = ap (λ (d : VariableDef). d.enabled) c.variable_at-d.ensures in
    let h : c.loop-i.i < variable_count_from x.job.held.counts.now =
    omega (arith, c.loop-i-test.true, c.loop-i.invariant.1) in
    let y = ap (λ (d : VariableDef). clamp_of (get_or c.args.values c.loop-i.q nan)
    d.min_value d.max_value) c.variable_at-d.ensures in
    elim c.if-d.branch [
      | then-d w ↦ (
        fill_more c.loop-i.invariant.0 _ _ _ (search rules) (search rules) h (sym e ∙ w.if-d.true) (w.clamp.ensures ∙ y) w.x-is w.q-is,
        c.loop-i.invariant.1,
        omega (arith, c.loop-i.invariant.2, w.q-is),
      )
      | else-d w ↦ (
        fill-past c.loop-i.invariant.0 _ _ h (sym e ∙ w.if-d.false) w.x-is w.q-is,
        c.loop-i.invariant.1,
        omega (arith, c.loop-i.invariant.2, w.q-is),
      )
    ]

pub returns : goal.returns
unfolding clamped_values
returns c =
    fill_end c.loop-i.invariant.0 (λ (k : ℕ). get_or c.args.values k nan) (search rules) (search rules)
    (omega (arith, c.loop-i-test.false, c.loop-i.invariant.1)) (λ k h. refl)
