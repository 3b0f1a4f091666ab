-- `leaves::leaf::answer` meets its contract: the line comes first. Assumes nothing.
use Rattle.std.proofs.Common.{ℕ, List, Bor, ap}
use Rattle.streams.specs.OutputLaws.{puts_then, puts_as}
use Rattle.leaves.specs.Lines.{line_texts}
use Rattle.leaves.specs.Replies.{replied}
use Rattle.leaves.proofs.leaf.answer.Goals as goal

pub returns-clause-ok : goal.returns-clause-ok
returns-clause-ok c =
    let line = puts_as (ap (λ (l : Bor (List ℕ)). line_texts l.now) c.reply_to.ensures.same) c.put_line.ensures in
    record {
      answer = replied c.in_ok-reply.reply;
      is = c.in_ok-reply.ensures.sort_is;
      puts = puts_then line (puts_then c.put_reply.ensures c.end_line.ensures);
    }
