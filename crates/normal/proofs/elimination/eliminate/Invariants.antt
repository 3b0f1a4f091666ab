-- `normal::elimination::eliminate` meets its contract: a turn does one column (`Stage`). Assumes nothing.
use Rattle.normal.proofs.Stages.{Stage}
use Rattle.normal.proofs.elimination.eliminate.Given as goal

abbrev pub invariant-loop-c : goal.invariant-loop-c
invariant-loop-c l = Stage l.p.count l.c l.initial.scratch l.scratch
