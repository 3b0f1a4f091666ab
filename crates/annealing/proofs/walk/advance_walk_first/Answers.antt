-- `annealing::walk::advance_walk_first` meets its contract: by whether there is a step at all. Assumes nothing.
use mathlib.Core.Path.{sym, ap, ◌∙◌}
use mathlib.Core.Bool.{Bool}
use lib.Ieee.{Float}
use Rattle.runs.specs.AnnealingRun.{Walk, started}
use Rattle.runs.specs.AnnealingRow.{at_step, at_polish, resume_cycles, advance_at}
use Rattle.runs.specs.DampedRow.{at_first}
use Rattle.held.specs.JobFrom.{standing}
use Rattle.annealing.proofs.walk.advance_walk_first.Goals as goal

pub returns-then-is_first_cycle : goal.returns-then-is_first_cycle
unfolding advance_at resume_cycles
returns-then-is_first_cycle c = let x = c.args in
    let base = standing x.run.now.surfaces in
    λ a ec ev h e em. c.at_step.ensures a ev
    ∙ ap (λ (w : Walk). at_step a x.merit w 0 0) (c.started-w.ensures.fact_1 a ec ev e em)
    ∙ ap (λ (y : Float). at_step a y (started a base e) 0 0) (sym em)
    ∙ ap (λ (t : Bool). resume_cycles a t e.total_merit (started a base e) 0)
    (sym (sym (c.is_first_cycle.ensures a ec)
    ∙ c.if-is_first_cycle.true))

pub returns : goal.returns
unfolding advance_at resume_cycles
returns c =
    let x = c.args in
    let base = standing x.run.now.surfaces in
    λ a ec ev h e em. c.at_polish.ensures
    ∙ ap (λ (w : Walk). at_polish x.merit (at_first w.best_surfaces))
    (c.started-w.ensures.fact_1 a ec ev e em)
    ∙ ap (λ (y : Float). at_polish y (at_first base)) (sym em)
    ∙ ap (λ (t : Bool). resume_cycles a t e.total_merit (started a base e) 0)
    (sym (sym (c.is_first_cycle.ensures a ec)
    ∙ c.if-is_first_cycle.false))
