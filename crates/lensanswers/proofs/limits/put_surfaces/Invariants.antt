-- `lensanswers::limits::put_surfaces` meets its contract: after i surfaces what waits is what i surfaces add. Assumes nothing.
use Rattle.streams.specs.Output.{Puts}
use Rattle.lensanswers.specs.Lens.{all_ends_texts}
use Rattle.lensanswers.proofs.limits.put_surfaces.Given as goal

abbrev pub invariant-loop-i : goal.invariant-loop-i
invariant-loop-i l = Puts l.initial.output (all_ends_texts l.heights l.slopes l.i) l.output
