-- `replay::limits::answer` meets its contract: the rest comes behind the head. Assumes nothing.
use Rattle.std.proofs.Common.{ℕ, true, List, Bor, ap}
use Rattle.streams.specs.OutputLaws.{puts_as}
use Rattle.answers.specs.Heads.{head_texts}
use Rattle.replay.specs.Replies.{refused, limited}
use Rattle.replay.proofs.Tells.{tells_behind}
use Rattle.replay.proofs.limits.answer.Goals as goal

pub returns-in-Ok-clause-ok : goal.returns-in-Ok-clause-ok
returns-in-Ok-clause-ok c =
    let head = puts_as (ap (λ (line : Bor (List ℕ)). head_texts line.now 6) c.read_limits.ensures.same) c.put_head.ensures in
    tells_behind head (record { reply = limited _ _; puts = c.put_limits.ensures })

pub returns-in-Err-clause-ok : goal.returns-in-Err-clause-ok
returns-in-Err-clause-ok c =
    let head = puts_as (ap (λ (line : Bor (List ℕ)). head_texts line.now 6) c.read_limits.ensures.same) c.put_head.ensures in
    tells_behind head (record { reply = refused _ true; puts = c.put_refused.ensures })
