-- `leaves::matrix::solve` meets its contract: the line comes first. Assumes nothing.
use Rattle.std.proofs.Common.{ℕ, List, Bor, ap, ◌∙◌}
use Rattle.streams.specs.OutputLaws.{puts_as}
use Rattle.leaves.specs.Lines.{line_texts}
use Rattle.leaves.proofs.Rows.{answers_behind, of_read}
use Rattle.leaves.proofs.matrix.solve.Goals as goal

pub returns-clause-ok : goal.returns-clause-ok
returns-clause-ok c =
    let same = c.read_system.ensures.same ∙ c.within.ensures.value.same in
    let line = puts_as (ap (λ (l : Bor (List ℕ)). line_texts l.now) same) c.put_line.ensures in
    answers_behind (λ answer is. of_read _ c.in_ok-p.ensures.value.value is) line c.put_solved.ensures
