-- `dls::accepting::advance_accepted` meets its contract: by whether the improvement is small. Assumes nothing.
use mathlib.Core.Path.{sym, ap, ◌∙◌}
use lib.Ieee.{Float}
use Rattle.dls.specs.DampedSteps.{relative_gain}
use Rattle.dls.proofs.Advances.{accepted-over, accepted-on}
use Rattle.dls.proofs.accepting.advance_accepted.Goals as goal

pub returns-then-gain-config : goal.returns-then-gain-config
returns-then-gain-config c = λ k lens w em m.
    let x = c.args in
    accepted-over _ _ _ c.requires (c.rel_improvement-gain.ensures ∙ ap (λ (y : Float). relative_gain y x.h.total_merit) (sym em))
    (c.moved-next.ensures k lens w em x.config m) c.if-gain-config.true c.ended.ensures

pub returns : goal.returns
returns c = λ k lens w em m.
    let x = c.args in
    accepted-on _ _ _ c.requires (c.rel_improvement-gain.ensures ∙ ap (λ (y : Float). relative_gain y x.h.total_merit) (sym em))
    (c.moved-next.ensures k lens w em x.config m) c.if-gain-config.false c.resume_iterations.ensures
