-- `replay::run::answer` meets its contract: calls move the bench. Assumes nothing.
use Rattle.std.proofs.Common.{true}
use Rattle.replay.specs.Moves.{moves_then}
use Rattle.replay.specs.Replies.{refused}
use Rattle.replay.proofs.run.answer.Goals as goal

pub returns-in-Err-clause-answer : goal.returns-in-Err-clause-answer
returns-in-Err-clause-answer c = record { reply = refused _ true; puts = c.put_refused.ensures }

pub returns-clause-moved : goal.returns-clause-moved
returns-clause-moved c = moves_then (moves_then c.admit.ensures c.play-turns.ensures) c.admit-2.ensures
