-- `callplay::answer::put_finished` meets its contract: after so many places what waits is what they add. Assumes nothing.
use Rattle.std.proofs.Common.{[], ◌∷◌, ◌++◌, length, take}
use Rattle.bench.specs.Calls.{finished_places}
use Rattle.streams.specs.Output.{Puts}
use Rattle.answers.specs.Pieces.{number_texts}
use Rattle.callplay.specs.Answers.{numbers_texts}
use Rattle.callplay.proofs.answer.put_finished.Given as goal

abbrev pub invariant-loop-place : goal.invariant-loop-place
invariant-loop-place l =
    Puts l.fn.output (number_texts (76 ∷ []) (length (finished_places l.bench)) ++ numbers_texts (take l.place-index l.place-items)) l.output
