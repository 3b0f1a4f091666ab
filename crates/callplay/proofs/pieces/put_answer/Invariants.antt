-- `callplay::pieces::put_answer` meets its contract: after so many numbers what waits is what they add. Assumes nothing.
use Rattle.std.proofs.Common.{◌++◌, take, nat_lt}
use Rattle.streams.specs.Output.{Puts, with_refused}
use Rattle.answers.specs.Pieces.{number_texts}
use Rattle.callplay.specs.Answers.{numbers_texts}
use Rattle.callplay.proofs.pieces.put_answer.Given as goal

abbrev pub invariant-loop-x : goal.invariant-loop-x
invariant-loop-x l = Puts (with_refused (nat_lt 0 l.number) l.fn.output) (number_texts l.name l.number ++ numbers_texts (take l.x-index l.more)) l.output
