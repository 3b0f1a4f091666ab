-- `replay::evaluate::put_evaluated` meets its contract: its texts come one after the other. Assumes nothing.
use Rattle.streams.specs.OutputLaws.{puts_then}
use Rattle.replay.specs.Replies.{refused, evaluated}
use Rattle.replay.proofs.evaluate.put_evaluated.Goals as goal

pub returns-in-Err : goal.returns-in-Err
returns-in-Err c = record { reply = refused _ _; puts = c.put_refused.ensures }

pub returns : goal.returns
returns c = record { reply = evaluated _ _ _; puts = puts_then c.put_evaluation.ensures c.put_digest.ensures }
