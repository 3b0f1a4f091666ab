-- `replay::trace::answer` meets its contract: the rest comes behind the head. Assumes nothing.
use Rattle.std.proofs.Common.{ℕ, List, Bor, ap}
use Rattle.streams.specs.OutputLaws.{puts_as}
use Rattle.answers.specs.Heads.{head_texts}
use Rattle.replay.proofs.Tells.{tells_behind}
use Rattle.replay.proofs.trace.answer.Goals as goal

pub returns-clause-ok : goal.returns-clause-ok
returns-clause-ok c =
    let head = puts_as (ap (λ (line : Bor (List ℕ)). head_texts line.now 5) c.decimal.ensures.same) c.put_head.ensures in
    tells_behind head c.put_trace.ensures
