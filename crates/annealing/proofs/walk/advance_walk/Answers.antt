-- `annealing::walk::advance_walk` meets its contract: by whether there is another step. Assumes nothing.
use Prim.Native.Nat.{suc}
use mathlib.Core.Path.{sym, ap, ◌∙◌}
use mathlib.Core.Bool.{Bool, false}
use lib.Dec.{ltb}
use Rattle.merit.specs.declared.types.MeritEvaluation.{MeritEvaluation}
use Rattle.jobs.specs.declared.types.SimulatedAnnealingConfig.{SimulatedAnnealingConfig}
use Rattle.runs.specs.AnnealingRun.{Annealer, Walk, judged}
use Rattle.runs.specs.AnnealingRow.{walk_of, resume_steps, advance_at}
use Rattle.held.specs.RowFrom.{state_from}
use Rattle.annealing.proofs.walk.advance_walk.Goals as goal

pub returns : goal.returns
unfolding advance_at
returns c =
    let x = c.args in
    let im = x.h.best.initial_merit in
    let j : Annealer → MeritEvaluation → Walk =
    λ a e. judged a x.run.now.candidate e (walk_of (state_from x.h x.run.now x.best.now)) in
    λ a ec ev e em. c.next_cycle.ensures a ec ev (suc x.h.step)
    ∙ ap (λ (w : Walk). resume_steps a false im w x.h.cycle (suc x.h.step))
    (c.judged-next.ensures.fact_1 a ev e em)
    ∙ ap (λ (t : Bool). resume_steps a t im (j a e) x.h.cycle (suc x.h.step))
    (sym (ap (λ (k : SimulatedAnnealingConfig). ltb (suc x.h.step) k.steps_per_temperature) ec
    ∙ sym c.has_next.ensures
    ∙ c.if-has_next.false))
