-- `normal::step::system` meets its contract: a turn lays out one row. Assumes nothing.
use mathlib.Core.Path.{◌≡◌}
use Rattle.normal.specs.Loops.{with_system}
use Rattle.normal.proofs.step.system.Given as goal

abbrev pub invariant-loop-i : goal.invariant-loop-i
invariant-loop-i l = l.scratch ≡ with_system l.p.count l.damping l.i l.initial.scratch
