-- `answers::lines::answer_lines` meets its contract. What is read and not taken lies in the buffer, from step to step. Assumes nothing.
use Rattle.std.proofs.Common.{◌≤◌, length}
use Rattle.answers.specs.Lines.{stand}
use Rattle.answers.proofs.Going.{Going}
use Rattle.answers.proofs.lines.answer_lines.Given as goal

abbrev pub invariant-loop : goal.invariant-loop
invariant-loop g l =
    let form = g.P.ProvedProgram.form in
    let gives = g.P.ProvedProgram.gives in
    record {
      from_le_to : l.input.from ≤ l.input.to;
      to_in_bounds : l.input.to ≤ length l.buf;
      going : Going form gives (stand l.initial.program l.initial.output l.initial.buf l.initial.input) (stand l.program l.output l.buf l.input) l.counter;
    }
