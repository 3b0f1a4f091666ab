-- `replay::run::put_played` meets its contract: its texts come one after the other. Assumes nothing.
use Rattle.std.proofs.Common.{true}
use Rattle.streams.specs.OutputLaws.{puts_then}
use Rattle.replay.specs.Replies.{refused, played}
use Rattle.replay.proofs.run.put_played.Goals as goal

pub returns-then-number-gt0 : goal.returns-then-number-gt0
returns-then-number-gt0 c = record { reply = refused _ true; puts = c.put_refused.ensures }

pub returns : goal.returns
returns c =
    let a = c.args in
    let surfaces = a.request.prescription.surface_count in
    let operands = a.request.merit_function.operand_count in
    record {
      reply = played c.fetch-number.new.res a.turns.count surfaces operands a.turns.hash;
      puts = puts_then (puts_then (puts_then c.put_outcome.ensures c.put_number.ensures) c.put_lens.ensures) c.put_digest.ensures;
    }
