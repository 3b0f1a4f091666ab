-- `answers::heads::put_digest` meets its contract. Assumes nothing.
use Rattle.streams.specs.OutputLaws.{puts_then}
use Rattle.answers.proofs.heads.put_digest.Goals as goal

pub returns : goal.returns
returns c = puts_then (puts_then c.put.ensures c.put_hex.ensures) c.put-2.ensures
