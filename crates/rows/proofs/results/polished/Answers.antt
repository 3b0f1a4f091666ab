-- `rows::results::polished` meets its contract. Assumes nothing.
use Prim.Native.Nat.{◌≤◌}
use mathlib.Core.Path.{ap, ◌∙◌}
use native.Mathlib.Nat.{mul-le-mul}
use native.Mathlib.Omega.{arith}
use Rattle.held.specs.JobFrom.{steps_per_temperature_from, max_cooling_cycles_from}
use Rattle.rows.proofs.results.polished.Goals as goal

pub overflow_mul-steps : goal.overflow_mul-steps
overflow_mul-steps c =
    let pre = c.requires in
    let same = c.lent-job.ensures.counts in
    let cycles : c.max_cooling_cycles.result ≤ 1000 = omega (arith, c.max_cooling_cycles.ensures ∙ ap max_cooling_cycles_from same, pre.0) in
    let steps : c.steps_per_temperature.result ≤ 1000 = omega (arith, c.steps_per_temperature.ensures ∙ ap steps_per_temperature_from same, pre.1) in
    omega (arith, mul-le-mul cycles steps)

pub overflow_add-result : goal.overflow_add-result
overflow_add-result c =
    let pre = c.requires in
    let same = c.lent-job.ensures.counts in
    let cycles : c.max_cooling_cycles.result ≤ 1000 = omega (arith, c.max_cooling_cycles.ensures ∙ ap max_cooling_cycles_from same, pre.0) in
    let steps : c.steps_per_temperature.result ≤ 1000 = omega (arith, c.steps_per_temperature.ensures ∙ ap steps_per_temperature_from same, pre.1) in
    omega (arith, mul-le-mul cycles steps, pre.2)

pub returns : goal.returns
returns c =
    λ a e. simp (
      e,
      c.damped_result-result.ensures,
      c.max_cooling_cycles.ensures,
      c.steps_per_temperature.ensures,
      c.lent-job.ensures.counts,
    )
