-- `kinds::phases::annealing_over` meets its contract. Assumes nothing.
use mathlib.Core.Path.{sym, ◌∙◌}
use Rattle.kinds.proofs.Over.{polish-over, walk-first-goes, walk-goes}
use native.Mathlib.Omega.{arith}
use Rattle.kinds.proofs.phases.annealing_over.Goals as goal

pub returns-in-5 : goal.returns-in-5
returns-in-5 c = λ s e. sym (walk-first-goes s (e ∙ c.in-5.is))

pub returns-in-6 : goal.returns-in-6
returns-in-6 c = λ s e. sym (walk-goes s (e ∙ c.in-6.is))

pub returns-in_default : goal.returns-in_default
returns-in_default c =
    λ s e. c.damped_over.ensures s.damped e ∙ sym (polish-over c.args.phase (λ e. omega arith)
    (λ e. omega arith) s e)
