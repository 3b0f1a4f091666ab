-- `replay::ReplayProvedProgram::answer` meets its contract: what is done is done for the kind that the line has. Assumes nothing.
use Rattle.std.proofs.Common.{ℕ, List, Bor, sym, ap, ◌∙◌}
use Rattle.std.proofs.lemmas.Result.{on_ok_weaker}
use Rattle.joblines.specs.Line.{kind_from}
use Rattle.replay.proofs.ReplayProvedProgram.answer.Goals as goal

pub returns-clause-ok : goal.returns-clause-ok
returns-clause-ok c =
    let new = c.new.ensures in
    let is = c.in_ok-kind.ensures.value ∙ (λ i. kind_from 6 (new.0 i) (new.1 i)) in
    let line = ap (λ (r : Bor (List ℕ)). r.now) (c.read_job.ensures.same ∙ c.read_kind.ensures.same) ∙ new.0 in
    on_ok_weaker c.answer_job.result
    (λ d. record { kind = c.in_ok-kind.kind; behind = c.read_kind.new.reader.at; is = sym is; done = rw line at d })
    c.answer_job.ensures.ok
