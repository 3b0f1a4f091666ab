-- `normal::step::system_row` meets its contract: the loop writes the row from its first entry on; what it reads lies outside. Assumes nothing.
use mathlib.Core.Path.{◌≡◌}
use lib.Seq.{sets}
use Rattle.lists.specs.Tab.{tab}
use Rattle.normal.specs.Layout.{system_place}
use Rattle.normal.specs.Damping.{damped_system}
use Rattle.normal.specs.Scratch.{product_in, gradient_in}
use Rattle.normal.proofs.step.system_row.Given as goal

abbrev pub invariant-loop-j : goal.invariant-loop-j
invariant-loop-j l = l.scratch
    ≡ sets l.initial.scratch (system_place l.i 0)
    (tab (damped_system l.p.count l.damping (product_in l.initial.scratch) (gradient_in l.initial.scratch) l.i) l.j)
