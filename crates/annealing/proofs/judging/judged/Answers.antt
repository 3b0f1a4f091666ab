-- `annealing::judging::judged` meets its contract. The check finds this answer too; with it a draw where the merit did not rise is refused as one.
use mathlib.Core.Path.{◌∙◌}
use Rattle.runs.specs.AnnealingRun.{judged, if_not_risen}
use Rattle.annealing.proofs.judging.judged.Goals as goal

pub returns-then-delta_merit-clause-fact_1 : goal.returns-then-delta_merit-clause-fact_1
unfolding judged if_not_risen
returns-then-delta_merit-clause-fact_1 c = λ a ev e em. c.accepted.ensures.fact_1 a ev ∙ simp (em, c.if-delta_merit.true)
