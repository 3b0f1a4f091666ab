-- `answers::lines::answer_line` meets its contract: blanks alone have no answer, and of a line out of form it says where and why. Assumes nothing.
use Rattle.std.proofs.Common.{refl, sym, ap, ◌∙◌}
use Rattle.streams.specs.Output.{with_unknown}
use Rattle.streams.specs.OutputLaws.{puts_from}
use Rattle.answers.proofs.lines.answer_line.Goals as goal

pub returns-then-is_end : goal.returns-then-is_end
returns-then-is_end g c = rw (sym c.is_end.ensures ∙ c.if-is_end.true) (refl, refl)

pub returns-in-Err : goal.returns-in-Err
returns-in-Err g c =
    let kept = c.in-Err.ensures.err in
    let form = sym c.answer.ensures.value ∙ c.in-Err.is in
    rw (sym c.is_end.ensures ∙ c.if-is_end.false, form) (kept.0, puts_from (ap with_unknown kept.1) c.put_unknown.ensures)
