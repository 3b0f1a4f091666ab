-- `finished::listed` meets its contract: the places found so far, in their order. Assumes nothing.
use Rattle.finished.specs.Gathered.{Gathered}
use Rattle.finished.proofs.listed.Given as goal

abbrev pub invariant-loop-place : goal.invariant-loop-place
invariant-loop-place l = Gathered l.bench l.place l.places l.count
