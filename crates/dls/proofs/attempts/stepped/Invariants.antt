-- `dls::attempts::stepped` meets its contract: the loop's invariant: the first q parameters are moved. Assumes nothing.
use mathlib.Core.Path.{◌≡◌}
use Rattle.dls.specs.DampedSteps.{stepped_in}
use Rattle.dls.proofs.attempts.stepped.Given as goal

abbrev pub invariant-loop-q : goal.invariant-loop-q
invariant-loop-q l = l.x ≡ stepped_in l.params l.q l.scratch
