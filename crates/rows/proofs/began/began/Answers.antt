-- `rows::began::began` meets its contract: an arm for each kind. Assumes nothing.
use Rattle.runs.specs.Rows as Rows
use mathlib.Core.Path.{◌∙◌}
use Rattle.rows.proofs.began.began.Goals as goal

pub returns-in-Damped : goal.returns-in-Damped
unfolding Rows.began
returns-in-Damped c = c.fresh.ensures ∙ simp (c.in-Damped.is, c.beginning-damped.ensures)

pub returns-in-MultiStart : goal.returns-in-MultiStart
unfolding Rows.began
returns-in-MultiStart c = simp (c.in-MultiStart.is, c.new.ensures, c.fresh-row.ensures, c.beginning-damped-in-MultiStart.ensures)

pub returns-in-Annealing : goal.returns-in-Annealing
unfolding Rows.began
returns-in-Annealing c = c.fresh-in-Annealing.ensures ∙ simp (c.in-Annealing.is, c.beginning-damped-in-Annealing.ensures)
