-- `leaves::leaf::put_reply` meets its contract: its texts come one after the other. Assumes nothing.
use Rattle.std.proofs.Common.{sym, ap}
use Rattle.streams.specs.OutputLaws.{puts_then, puts_as}
use Rattle.leaves.specs.Replies.{reply_texts}
use Rattle.leaves.proofs.leaf.put_reply.Goals as goal

pub returns-in-Draw : goal.returns-in-Draw
returns-in-Draw c = puts_as (ap reply_texts (sym c.in-Draw.is)) (puts_then c.put_state.ensures c.put_floats-in-Draw.ensures)
