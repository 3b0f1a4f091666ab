-- `held::values::apply_values` meets its contract: the loop's invariant is `Applying`, of the surfaces that stand there. Assumes nothing.
use Prim.Native.Nat.{◌<◌}
use mathlib.Core.Path.{◌≡◌, refl, sym, ap, ◌∙◌}
use native.Mathlib.Omega.{arith}
use Rattle.variables.specs.declared.types.VariableDef.{VariableDef}
use Rattle.variables.specs.Active.{enabled_of}
use Rattle.variables.specs.Kinds.{apply_clamp}
use Rattle.variables.specs.Values.{stored_in, applied_to, applied}
use Rattle.variables.proofs.Applying.{apply-more, apply-past}
use mathlib.Core.List.{List}
use lib.ListN.{get_or}
use lib.Ieee.{nan}
use Rattle.optics.specs.declared.types.OpticalSurface.{OpticalSurface}
use Rattle.held.specs.JobFrom.{standing, variable_count_from, variables_from}
use Rattle.held.proofs.Stored.{further}
use Rattle.held.proofs.values.apply_values.Goals as goal
use Rattle.held.proofs.values.apply_values.Goals.{then-d, else-d}

pub loop-i-init : goal.loop-i-init
unfolding enabled_of applied_to
loop-i-init c =
    (record { passed = omega arith; counted = refl; stored = refl }, c.variable_count-count.ensures, record { long = refl; rest = refl }, omega arith)

pub loop-i-preserved : goal.loop-i-preserved
loop-i-preserved c =
    let x = c.args in
    let l = c.loop-i in
    let is = c.variable_at-d.ensures in
    let e = ap (λ (d : VariableDef). d.enabled) is in
    let h : l.i < variable_count_from x.job.held.counts.now = omega (arith, c.loop-i-test.true, l.invariant.1) in
    let stored : VariableDef → List OpticalSurface =
    λ d. stored_in (standing l.flat) d (apply_clamp (get_or x.values l.q nan) d.min_value d.max_value) in
    elim c.if-d.branch [
      | then-d w ↦ (
        apply-more l.invariant.0 _ _ h (sym e ∙ w.if-d.true) (ap standing w.flat-is ∙ w.apply_variable.ensures.fact_1 ∙ ap stored is) w.q-is,
        l.invariant.1,
        further l.invariant.2 w.apply_variable.ensures.fact_2 w.flat-is,
        omega (arith, l.invariant.3, w.q-is),
      )
      | else-d w ↦ (
        apply-past l.invariant.0 _ _ h (sym e ∙ w.if-d.false) (ap standing w.flat-is) w.q-is,
        l.invariant.1,
        further l.invariant.2 (record { long = refl; rest = refl })
            w.flat-is,
        omega (arith, l.invariant.3, w.q-is),
      )
    ]

pub returns-clause-fact_1 : goal.returns-clause-fact_1
unfolding applied
returns-clause-fact_1 c =
    let x = c.args in
    let l = c.loop-i in
    let v = variables_from x.job.held.counts.now x.job.held.numbers.now in
    let e : l.i ≡ variable_count_from x.job.held.counts.now = omega (arith, l.invariant.0.passed, l.invariant.1) in
    l.invariant.0.stored ∙ ap (applied_to v x.values (standing x.flat.now)) (rw e at l.invariant.0.counted)
