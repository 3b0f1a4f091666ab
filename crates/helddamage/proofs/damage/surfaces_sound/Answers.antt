-- `helddamage::damage::surfaces_sound` meets its contract. The check finds it alone; with this answer the best surfaces in place of the current ones are
-- refused as such.
use mathlib.Core.Path.{refl, sym, ap, ◌∙◌}
use mathlib.Core.Bool.{Bool, ◌&&◌}
use Rattle.jobs.specs.Records.{method}
use Rattle.runs.specs.Damage.{uses_best, taken_if, surfaces_sound}
use Rattle.held.specs.JobFrom.{standing}
use Rattle.held.specs.RowFrom.{kind_from}
use Rattle.helddamage.specs.Others.{state_with}
use Rattle.helddamage.proofs.damage.surfaces_sound.Goals as goal

pub returns-then-taken_if : goal.returns-then-taken_if
unfolding surfaces_sound
returns-then-taken_if c = λ r o.
    let a = c.args in
    let state = state_with a.words.now a.surfaces.now a.best.now o in
    let current = c.taken_if.ensures ∙ ap (λ (u : Bool). taken_if u (standing a.surfaces.now) a.count) (c.uses_current.ensures r state refl) in
    let best = c.taken_if-then-taken_if.ensures ∙ ap (λ (u : Bool). taken_if u (standing a.best.now) a.count) (c.uses_best.ensures r state refl refl) in
    best
    ∙ ap (λ (b : Bool). b && taken_if (uses_best (method (kind_from a.words.now) r) state) (standing a.best.now) a.count)
    (sym c.if-taken_if.true ∙ current)
