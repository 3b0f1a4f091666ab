-- `replay::trace::put_done` meets its contract: its texts come one after the other. Assumes nothing.
use Rattle.std.proofs.Common.{Some, None, sym, append-nil}
use Rattle.streams.specs.OutputLaws.{puts_then, puts_as}
use Rattle.lensanswers.specs.Lens.{traced_texts}
use Rattle.replay.specs.Replies.{changed, traced}
use Rattle.replay.proofs.trace.put_done.Goals as goal

pub returns-then-not-are_marked : goal.returns-then-not-are_marked
returns-then-not-are_marked c = record { reply = changed; puts = c.put.ensures }

pub returns-in-Some : goal.returns-in-Some
returns-in-Some c = record { reply = traced _ _ (Some _); puts = puts_then c.put_traced.ensures c.put_paraxial.ensures }

pub returns-in_default : goal.returns-in_default
returns-in_default c =
    let count = c.args.prescription.surface_count in
    record { reply = traced c.args.rays count None; puts = puts_as (sym (append-nil (traced_texts c.args.rays count))) c.put_traced.ensures }
