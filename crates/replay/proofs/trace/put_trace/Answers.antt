-- `replay::trace::put_trace` meets its contract: it puts one reply. Assumes nothing.
use Rattle.replay.specs.Replies.{refused, failed}
use Rattle.replay.proofs.trace.put_trace.Goals as goal

pub returns-in-Err : goal.returns-in-Err
returns-in-Err c = record { reply = refused _ _; puts = c.put_refused.ensures }

pub returns-in-Ok-Failed : goal.returns-in-Ok-Failed
returns-in-Ok-Failed c = record { reply = failed _; puts = c.put_failed.ensures }
